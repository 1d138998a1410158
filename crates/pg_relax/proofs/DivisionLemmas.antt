-- A graph that is divided by a distribution is divided as the law of relaxation asks.
use Rattle.std.proofs.Common.{◌≡◌, ◌==◌, ℕ, ◌<◌, ◌≤◌, true, List, length, map, refl, sym, ap, ◌∙◌, subst, arith, Contains, All}
use Rattle.std.specs.Prelude.{slice_index, slice_index_or}
use Rattle.std.proofs.lemmas.List.{get_or-map, length-map}
use Rattle.std.proofs.lemmas.List.Elements.{Contains-get_or}
use Rattle.pg_base.specs.Graph.{Graph, IsGraph, Arc as GraphArc, arcs_of, arcs_from}
use Rattle.pg_base.specs.Keyed.{items_of}
use Rattle.pg_base.proofs.Members.{Contains-filter, Contains-kept}
use Rattle.pg_base.proofs.ArcLemmas.{arc_is_within}
use Rattle.pg_adj.specs.declared.arcs.Arc.{Arc}
use Rattle.pg_adj.specs.Portions.{Portion}
use Rattle.pg_adj.specs.Incidence.{incidences}
use Rattle.pg_dist.specs.Sharing.{Sharing, IsSharing}
use Rattle.pg_adj.specs.Division.{IsPartOf, Divided, undivided, arc_at}
use Rattle.pg_best.specs.Parts.{LocalArc, IsDivided, whole_arc, local_arc}
use Rattle.pg_best.specs.Relaxation.{IsArc}
use Rattle.pg_relax.specs.States.{row, local_of, part_of}
use Rattle.pg_relax.proofs.ArcLemmas.{among, of_place, no_arc}

-- the members of a list that was mapped
module _ {X Y : Type 0} where
  member_of_map : (f : X → Y) (xs : List X) (y : Y) (d : X) → Contains (map f xs) y → (x : X) × Contains xs x × (y ≡ f x)
  member_of_map f xs y d c =
      let l : c.0 < length xs = omega (arith, c.1, length-map xs f) in
      (slice_index_or xs c.0 d, Contains-get_or xs c.0 d l, sym c.2 ∙ get_or-map f xs c.0 d y l)

  mapped_member : (f : X → Y) (xs : List X) (x : X) → Contains xs x → Contains (map f xs) (f x)
  mapped_member f xs x c = (c.0, omega (arith, c.1, length-map xs f), get_or-map f xs c.0 x (f x) c.1 ∙ ap f c.2)

same_number : (v : ℕ) → (v == v) ≡ true
same_number v = search arith

same_local : (i : ℕ) (b : Arc) (x : LocalArc) → x.at ≡ i → b.to.0 ≡ x.to → b.home.0 ≡ x.home → b.place ≡ x.place → b.w ≡ x.weight → local_of i b ≡ x
same_local i b x a t h p w = search arith

module _ (s : Sharing) (laws : IsSharing s) (g : Graph) (is : IsGraph g) (parts : List Portion) (d : Divided s g parts) (same : g.n ≡ s.n) (no_part : Portion) where
  abbrev part_at : ℕ → Portion
  part_at r = slice_index_or parts r no_part

  is_part : (r : ℕ) → r < s.ranks → IsPartOf s g (map (λ (p : Portion). p.ghosts) parts) r (part_at r)
  is_part r h = d.part r no_part h

  -- an arc of the part has the home and the place of its end
  arc_is_there : (r i : ℕ) (b : Arc) → (h : r < s.ranks) → i < length (part_at r).vertices → Contains (row (part_at r) i) b
      → (s.owner b.to.0 ≡ b.home.0) × (s.local b.to.0 ≡ b.place)
  arc_is_there r i b h l c =
      let p = part_at r in
      let v : ℕ = slice_index p.vertices i in
      let keys : List ℕ = items_of (incidences 0 g.edges) v in
      let among_keys : Contains (map (arc_at s.owner s.local g.edges v) keys) b = subst (λ (arcs : List Arc). Contains arcs b) ((is_part r h).share.row.row i l) c in
      let found = member_of_map (arc_at s.owner s.local g.edges v) keys b 0 among_keys in
      (ap (λ (a : Arc). s.owner a.to.0) found.2 ∙ ap (λ (a : Arc). a.home.0) (sym found.2), ap (λ (a : Arc). s.local a.to.0) found.2 ∙ ap (λ (a : Arc). a.place) (sym found.2))

  -- an arc of the part is one of the graph's
  arc_is_given : (r i : ℕ) (b : Arc) → (h : r < s.ranks) → i < length (part_at r).vertices → Contains (row (part_at r) i) b
      → Contains (arcs_of g.edges) (undivided (slice_index (part_at r).vertices i) b)
  arc_is_given r i b h l c =
      let p = part_at r in
      let v : ℕ = slice_index p.vertices i in
      let there : Contains (arcs_from (arcs_of g.edges) v) (undivided v b) =
      subst (λ (arcs : List GraphArc). Contains arcs (undivided v b)) ((is_part r h).arcs i l) (mapped_member (undivided v) (row p i) b c) in
      (Contains-filter (λ (a : GraphArc). a.from == v) (arcs_of g.edges) (undivided v b) there).0

  -- an arc of the graph is at its start's owner
  arc_is_placed : (a : GraphArc) → Contains (arcs_of g.edges) a → Contains (part_of (part_at (s.owner a.from))).arcs (local_arc s.owner s.local a)
  arc_is_placed a c =
      let ends = arc_is_within g is a c in
      let first : 1 ≤ a.from = ends.0 in
      let last : a.from ≤ s.n = omega (arith, ends.1, same) in
      let r : ℕ = s.owner a.from in
      let i : ℕ = s.local a.from in
      let h : r < s.ranks = laws.owner_is_rank a.from first last in
      let p = part_at r in
      let l : i < length p.vertices = omega (arith, laws.local_below a.from first last, (is_part r h).share.count) in
      let v_is : slice_index p.vertices i ≡ a.from = (is_part r h).share.vertex i (laws.local_below a.from first last) ∙ laws.global_of_local a.from first last in
      let from : Contains (arcs_from (arcs_of g.edges) a.from) a = Contains-kept (λ (b : GraphArc). b.from == a.from) (arcs_of g.edges) a c (same_number a.from) in
      let mapped : Contains (map (undivided (slice_index p.vertices i)) (row p i)) a =
      subst (λ (arcs : List GraphArc). Contains arcs a) (sym ((is_part r h).arcs i l)) (subst (λ (v : ℕ). Contains (arcs_from (arcs_of g.edges) v) a) (sym v_is) from) in
      let found = member_of_map (undivided (slice_index p.vertices i)) (row p i) a no_arc mapped in
      let b : Arc = found.0 in
      let home = arc_is_there r i b h l found.1 in
      let to : b.to.0 ≡ a.to = ap (λ (x : GraphArc). x.to) (sym found.2) in
      let w : b.w ≡ a.weight = ap (λ (x : GraphArc). x.weight) (sym found.2) in
      subst (λ (x : LocalArc). Contains (part_of p).arcs x) (same_local i b (local_arc s.owner s.local a) refl to (sym home.0 ∙ ap s.owner to) (sym home.1 ∙ ap s.local to) w)
      (among p (length p.vertices) i b l found.1)

  pub divided_parts : IsDivided g.n s.ranks (arcs_of g.edges) s.owner s.local (λ r. part_of (part_at r))
  divided_parts = record {
    rank = λ r h. (is_part r h).rank;
    group = λ r h. (is_part r h).ranks;
    owned = λ v at. laws.owner_is_rank v at.first (omega (arith, at.last, same));
    placed = λ v at.
        let last : v ≤ s.n = omega (arith, at.last, same) in
        let h = laws.owner_is_rank v at.first last in
        let l = laws.local_below v at.first last in
        record {
          within = omega (arith, l, (is_part (s.owner v) h).share.count);
          vertex = (is_part (s.owner v) h).share.vertex (s.local v) l ∙ laws.global_of_local v at.first last;
        };
    given = arc_is_placed;
    included = λ r h k x l.
        let p = part_at r in
        let a : LocalArc = slice_index_or (part_of p).arcs k x in
        let o = of_place p (length p.vertices) a (Contains-get_or (part_of p).arcs k x l) in
        subst (λ (b : LocalArc). Contains (arcs_of g.edges) (whole_arc (part_of p) b)) (sym o.is) (arc_is_given r o.place o.arc h o.below o.stands);
  }

-- the graph's arcs join its vertices
pub arcs_join : (g : Graph) → IsGraph g → All (IsArc g.n) (arcs_of g.edges)
arcs_join g is k x l =
    let a : GraphArc = slice_index_or (arcs_of g.edges) k x in
    let ends = arc_is_within g is a (Contains-get_or (arcs_of g.edges) k x l) in
    record { from = record { first = ends.0; last = ends.1 }; to = record { first = ends.2; last = ends.3 } }
