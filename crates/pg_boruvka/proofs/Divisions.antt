-- A graph that is divided by a distribution is divided as the law asks.
use Rattle.std.proofs.Common.{◌≡◌, ◌≢◌, ◌⊎◌, ◌==◌, ℕ, zero, suc, ◌<◌, ◌≤◌, List, length, map, get_or, refl, sym, ◌∙◌, ap, subst, inl, inr, ⊎_elim, arith, Contains}
use Rattle.std.specs.Prelude.{slice_index, slice_index_or}
use Rattle.std.proofs.lemmas.Bool.{cases_eq, eq-eqb, ne_eqb, cond-true, cond-false}
use Rattle.std.proofs.lemmas.List.Elements.{All-contains, Contains-get_or, Contains-append_left, Contains-append_right, Contains-append_cases}
use Rattle.pg_base.specs.declared.edges.Edge.{Edge}
use Rattle.pg_base.specs.Graph.{Graph, IsGraph, IsEdge}
use Rattle.pg_base.specs.Keyed.{row_of, items_of}
use Rattle.pg_dist.specs.Sharing.{Sharing, IsSharing}
use Rattle.pg_adj.specs.declared.arcs.Arc.{Arc}
use Rattle.pg_adj.specs.Portions.{Portion}
use Rattle.pg_adj.specs.Incidence.{incidences}
use Rattle.pg_adj.specs.Division.{IsPartOf, Divided, other_end, arc_at, no_edge}
use Rattle.pg_adj.proofs.Incident.{index_is_end, end_is_index}
use Rattle.pg_boruvka.specs.Parts.{LocalArc, IsArc, IsHeld, IsDivided, arc_of, edge_at}
use Rattle.pg_boruvka.specs.Portions.{local_of, arcs_below, part_of, DivisionsServe}
use Rattle.pg_boruvka.proofs.Items.{member_of_map, mapped_member}

abbrev row : Portion → ℕ → List Arc
row p i = row_of p.bounds p.arcs i

-- An arc of a place is one of the part, and the other way round.
among : (p : Portion) (n i : ℕ) (a : Arc) → i < n → Contains (row p i) a → (i ≡ n) ⊎ (i ≢ n) → Contains (arcs_below p n) (local_of (slice_index p.vertices i) a)
among p zero i a h c at = absurd (omega arith)
among p (suc n) i a h c at = ⊎_elim
    (λ same. Contains-append_right (arcs_below p n) (map (local_of (slice_index p.vertices n)) (row p n)) (local_of (slice_index p.vertices i) a)
    (subst (λ (j : ℕ). Contains (map (local_of (slice_index p.vertices j)) (row p j)) (local_of (slice_index p.vertices i) a)) same
    (mapped_member (local_of (slice_index p.vertices i)) (row p i) a c)))
    (λ apart. Contains-append_left (arcs_below p n) (map (local_of (slice_index p.vertices n)) (row p n)) (local_of (slice_index p.vertices i) a)
    (among p n i a (omega arith) c (cases_eq i n)))
    (cases_eq i n)

pub record IsOfPlace (p : Portion) (n : ℕ) (a : LocalArc) : Type 0 where
  pub place : ℕ
  pub below : place < n
  pub arc : Arc
  pub stands : Contains (row p place) arc
  pub is : local_of (slice_index p.vertices place) arc ≡ a

pub of_place : (p : Portion) (n : ℕ) (a : LocalArc) → Contains (arcs_below p n) a → IsOfPlace p n a
of_place p zero a c = absurd (omega (arith, c.1))
of_place p (suc n) a c = ⊎_elim
    (λ before. let found = of_place p n a before in record { place = found.place; below = omega (arith, found.below); arc = found.arc; stands = found.stands; is = found.is })
    (λ last. let found = member_of_map (local_of (slice_index p.vertices n)) (row p n) a last in record { place = n; below = omega arith; arc = found.0; stands = found.1; is = found.2 })
    (Contains-append_cases (arcs_below p n) (map (local_of (slice_index p.vertices n)) (row p n)) a c)

other_of_first : (e : Edge) (v : ℕ) → e.u ≡ v → other_end e v ≡ e.v
other_of_first e v same = cond-true (e.u == v) e.v e.u (eq-eqb e.u v same)

other_of_second : (e : Edge) (v : ℕ) → e.u ≢ v → other_end e v ≡ e.u
other_of_second e v apart = cond-false (e.u == v) e.v e.u (ne_eqb e.u v apart)

module _ (s : Sharing) (g : Graph) (parts : List Portion) (other : Portion) (laws : IsSharing s) (is : IsGraph g) (same : g.n ≡ s.n) (d : Divided s g parts) where
  abbrev part_at : ℕ → Portion
  part_at r = slice_index_or parts r other

  is_part : (r : ℕ) → r < s.ranks → IsPartOf s g (map (λ (p : Portion). p.ghosts) parts) r (part_at r)
  is_part r h = d.part r other h

  edge_is : (i : ℕ) → i < length g.edges → IsEdge g.n (edge_at g i)
  edge_is i h = All-contains (IsEdge g.n) g.edges (edge_at g i) is.within (Contains-get_or g.edges i no_edge h)

  -- The edge's arc from this end is at the end's owner.
  held_from : (i v to : ℕ) → i < length g.edges → 1 ≤ v → v ≤ g.n → ((edge_at g i).u ≡ v) ⊎ ((edge_at g i).v ≡ v) → other_end (edge_at g i) v ≡ to
      → IsHeld s.ranks (λ r. part_of (length g.edges) (part_at r)) (arc_of g i v to)
  held_from i v to h first last end across =
      let high : v ≤ s.n = omega (arith, last, same) in
      let r : ℕ = s.owner v in
      let within : r < s.ranks = laws.owner_is_rank v first high in
      let place : ℕ = s.local v in
      let p = part_at r in
      let share = (is_part r within).share in
      let below : place < length p.vertices = omega (arith, laws.local_below v first high, share.count) in
      let vertex : slice_index p.vertices place ≡ v = share.vertex place (laws.local_below v first high) ∙ laws.global_of_local v first high in
      let arc : Arc = arc_at s.owner s.local g.edges v i in
      let listed : Contains (map (arc_at s.owner s.local g.edges v) (items_of (incidences 0 g.edges) v)) arc =
      mapped_member (arc_at s.owner s.local g.edges v) (items_of (incidences 0 g.edges) v) i (end_is_index g.edges v i h end) in
      let stands : Contains (row p place) arc =
      subst (λ (arcs : List Arc). Contains arcs arc) (sym (share.row.row place below))
      (subst (λ (x : ℕ). Contains (map (arc_at s.owner s.local g.edges x) (items_of (incidences 0 g.edges) x)) arc) (sym vertex) listed) in
      let found : Contains (arcs_below p (length p.vertices)) (local_of (slice_index p.vertices place) arc) = among p (length p.vertices) place arc below stands (cases_eq place (length p.vertices)) in
      record {
        rank = r;
        within = within;
        among = subst (λ (x : ℕ). Contains (arcs_below p (length p.vertices)) (arc_of g i v x)) across
            (subst (λ (x : ℕ). Contains (arcs_below p (length p.vertices)) (local_of x arc)) vertex found);
      }

  abbrev Ends : Edge → ℕ → ℕ → Type 0
  Ends e from to = ((from ≡ e.u) × (to ≡ e.v)) ⊎ ((from ≡ e.v) × (to ≡ e.u))

  ends_by : (e : Edge) (v : ℕ) → (e.u ≡ v) ⊎ (e.u ≢ v) → (e.u ≡ v) ⊎ (e.v ≡ v) → Ends e v (other_end e v)
  ends_by e v (inl first) end = inl (sym first, other_of_first e v first)
  ends_by e v (inr apart) (inl first) = absurd (apart first)
  ends_by e v (inr apart) (inr second) = inr (sym second, other_of_second e v apart)

  moved_end : (i k v : ℕ) → i ≡ k → ((edge_at g i).u ≡ v) ⊎ ((edge_at g i).v ≡ v) → ((edge_at g k).u ≡ v) ⊎ ((edge_at g k).v ≡ v)
  moved_end i k v at end = subst (λ (j : ℕ). ((edge_at g j).u ≡ v) ⊎ ((edge_at g j).v ≡ v)) at end

  arc_is_of_edge : (r : ℕ) (a : LocalArc) → r < s.ranks → Contains (arcs_below (part_at r) (length (part_at r).vertices)) a → IsArc g a
  arc_is_of_edge r a h c =
      let p = part_at r in
      let found = of_place p (length p.vertices) a c in
      let v : ℕ = slice_index p.vertices found.place in
      let keys : List ℕ = items_of (incidences 0 g.edges) v in
      let listed : Contains (map (arc_at s.owner s.local g.edges v) keys) found.arc =
      subst (λ (arcs : List Arc). Contains arcs found.arc) ((is_part r h).share.row.row found.place found.below) found.stands in
      let index = member_of_map (arc_at s.owner s.local g.edges v) keys found.arc listed in
      let k : ℕ = index.0 in
      let end = index_is_end g.edges v k index.1 in
      let at : end.place ≡ k = omega (arith, end.is) in
      let below : k < length g.edges = omega (arith, end.below, at) in
      let ends = moved_end end.place k v at end.end in
      let whole : local_of v (arc_at s.owner s.local g.edges v k) ≡ a = ap (local_of v) index.2 ∙ found.is in
      subst (IsArc g) whole (record { edge = below; key = refl; ends = ends_by (edge_at g k) v (cases_eq (edge_at g k).u v) ends })

  pub serves : IsDivided g s.ranks (λ r. part_of (length g.edges) (part_at r))
  serves = record {
    rank = λ r h. (is_part r h).rank;
    group = λ r h. (is_part r h).ranks;
    vertices = λ r h. (is_part r h).n;
    edges = λ r h. refl;
    forth = λ i h.
        let e = edge_is i h in
        held_from i (edge_at g i).u (edge_at g i).v h e.first (omega (arith, e.ascends, e.last)) (inl refl) (other_of_first (edge_at g i) (edge_at g i).u refl);
    back = λ i h.
        let e = edge_is i h in
        held_from i (edge_at g i).v (edge_at g i).u h (omega (arith, e.first, e.ascends)) e.last (inr refl)
        (other_of_second (edge_at g i) (edge_at g i).v (λ x. omega (arith, x, e.ascends)));
    no_other = λ r h k x l.
        arc_is_of_edge r (get_or (arcs_below (part_at r) (length (part_at r).vertices)) k x) h (Contains-get_or (arcs_below (part_at r) (length (part_at r).vertices)) k x l);
  }

pub divisions_serve : DivisionsServe
divisions_serve s g parts other laws is same d = serves s g parts other laws is same d
