-- What a rank's part of a divided graph says of its vertices, their neighbours and its ghosts.
use Rattle.std.proofs.Common.{◌≡◌, ◌≢◌, ◌⊎◌, ◌==◌, ◌&&◌, not, true, ℕ, zero, suc, ◌+◌, ◌<◌, ◌≤◌, List, [], ◌∷◌, Some, length, map, filter, slice_get, refl, sym, ◌∙◌, ap, subst, inl, inr, ⊎_elim, arith, Contains}
use Rattle.std.specs.Prelude.{slice_index}
use Rattle.std.proofs.lemmas.Bool.{cases_eq, eq-eqb, ne_eqb, not_from_false, and_from, cond-true, cond-false}
use Rattle.std.proofs.lemmas.Option.{slice_get_within, get_or_from_slice_get}
use Rattle.std.proofs.lemmas.List.Edits.{length-between, get_or-between}
use Rattle.std.proofs.lemmas.List.{get_or_default}
use Rattle.std.proofs.lemmas.List.Elements.{All-contains, Contains-get_or, Contains-append_left, Contains-push}
use Rattle.std.proofs.lemmas.List.Folds.{list_any_at}
use Rattle.pg_base.specs.declared.edges.Edge.{Edge}
use Rattle.pg_base.specs.Graph.{Graph, IsGraph, IsEdge}
use Rattle.pg_base.specs.Colouring.{AreJoined}
use Rattle.pg_base.specs.Keyed.{row_of, items_of}
use Rattle.pg_base.proofs.Members.{Contains-kept}
use Rattle.pg_dist.specs.Sharing.{Sharing, IsSharing}
use Rattle.pg_group.proofs.Counting.{some_at}
use Rattle.pg_adj.specs.declared.arcs.Arc.{Arc}
use Rattle.pg_adj.specs.declared.arcs.Ghost.{Ghost}
use Rattle.pg_adj.specs.Portions.{Portion}
use Rattle.pg_adj.specs.Incidence.{incidences}
use Rattle.pg_adj.specs.Division.{Divided, IsPartOf, arc_at, other_end, no_edge, leads_abroad, vertices_to, ghost_of}
use Rattle.pg_adj.proofs.MirrorLists.{Contains-at, index_of, Contains-map, Contains-from_map}
use Rattle.pg_adj.proofs.MirrorGhosts.{IsGhostOf, ghost_from, abroad}
use Rattle.pg_adj.proofs.Incident.{index_is_end, end_is_index, at}
use Rattle.pg_cells.specs.States.{IsGhost}
use Rattle.pg_proper.proofs.FirstFit.{neighbour_within}
use Rattle.pg_colour.specs.Passes.{row}

other_of_first : (e : Edge) (v : ℕ) → e.u ≡ v → other_end e v ≡ e.v
other_of_first e v same = cond-true (e.u == v) e.v e.u (eq-eqb e.u v same)

other_of_second : (e : Edge) (v : ℕ) → e.u ≢ v → other_end e v ≡ e.u
other_of_second e v apart = cond-false (e.u == v) e.v e.u (ne_eqb e.u v apart)

-- An edge joins each of its ends to the other.
joins_other : (edges : List Edge) (e : Edge) (v : ℕ) → Contains edges e → (e.u ≡ v) ⊎ (e.u ≢ v) → (e.u ≡ v) ⊎ (e.v ≡ v) → AreJoined edges v (other_end e v)
joins_other edges e v among (inl first) end = record { edge = e; among = among; ends = inl (first, sym (other_of_first e v first)) }
joins_other edges e v among (inr apart) (inl first) = absurd (apart first)
joins_other edges e v among (inr apart) (inr second) = record { edge = e; among = among; ends = inr (sym (other_of_second e v apart), second) }

vertex_among : (n v : ℕ) → 1 ≤ v → v ≤ n → Contains (vertices_to n) v
vertex_among zero v low high = absurd (omega arith)
vertex_among (suc n) v low high = ⊎_elim
    (λ last. subst (Contains (vertices_to (suc n))) (sym last) (Contains-push (vertices_to n) (n + 1)))
    (λ before. Contains-append_left (vertices_to n) ((n + 1) ∷ []) v (vertex_among n v low (omega arith)))
    (cases_eq v (n + 1))

-- What stands in a row stands among all items.
of_row : {X : Type 0} (bounds : List ℕ) (items : List X) (i : ℕ) (x : X) → slice_index bounds (i + 1) ≤ length items → Contains (row_of bounds items i) x → Contains items x
of_row bounds items i x high c =
    let begin : ℕ = slice_index bounds i in
    let end : ℕ = slice_index bounds (i + 1) in
    let size = length-between items begin end high in
    let inside = c.1 in
    (begin + c.0, omega arith, sym (get_or-between items begin end c.0 x (omega arith)) ∙ c.2)

-- An own vertex of a rank at a place.
pub record IsOwnVertex (s : Sharing) (g : Graph) (r i v : ℕ) : Type 0 where
  pub first : 1 ≤ v
  pub last : v ≤ g.n
  pub owner : s.owner v ≡ r
  pub local : s.local v ≡ i

-- An arc from the vertex v.
pub record IsArcFrom (s : Sharing) (g : Graph) (v : ℕ) (a : Arc) : Type 0 where
  pub joined : AreJoined g.edges v a.to.0
  pub home : a.home.0 ≡ s.owner a.to.0
  pub place : a.place ≡ s.local a.to.0

-- The arc to a neighbour.
pub record HasArcTo (p : Portion) (i w : ℕ) : Type 0 where
  pub arc : Arc
  pub among : Contains (row p i) arc
  pub leads : arc.to.0 ≡ w

module _ (s : Sharing) (g : Graph) (parts : List Portion) (laws : IsSharing s) (is : IsGraph g) (same : g.n ≡ s.n) (d : Divided s g parts) where
  pub rank_below : (r : ℕ) (p : Portion) → slice_get parts r ≡ Some p → r < s.ranks
  rank_below r p at_rank = omega (arith, slice_get_within parts r p at_rank, d.count)

  pub part_of_rank : (r : ℕ) → r < s.ranks → (p : Portion) × (slice_get parts r ≡ Some p)
  part_of_rank r h = some_at parts r (omega (arith, h, d.count))

  pub part_at : (r : ℕ) (p : Portion) → slice_get parts r ≡ Some p → IsPartOf s g (map (λ p. p.ghosts) parts) r p
  part_at r p at_rank = subst (IsPartOf s g (map (λ p. p.ghosts) parts) r) (get_or_from_slice_get parts r p p at_rank) (d.part r p (rank_below r p at_rank))

  module _ (r : ℕ) (p : Portion) (at_rank : slice_get parts r ≡ Some p) where
    pub rank_is : p.rank ≡ r
    rank_is = (part_at r p at_rank).rank

    pub ranks_are : p.ranks ≡ s.ranks
    ranks_are = (part_at r p at_rank).ranks

    vertex_is : (i : ℕ) → i < length p.vertices → slice_index p.vertices i ≡ s.global r i
    vertex_is i h = let share = (part_at r p at_rank).share in share.vertex i (omega (arith, h, share.count))

    pub own_vertex : (i : ℕ) → i < length p.vertices → IsOwnVertex s g r i (slice_index p.vertices i)
    own_vertex i h =
        let share = (part_at r p at_rank).share in
        let below : i < s.count r = omega (arith, h, share.count) in
        let rank = rank_below r p at_rank in
        let last = laws.global_last r i rank below in
        subst (IsOwnVertex s g r i) (sym (vertex_is i h)) (record {
          first = laws.global_first r i rank below;
          last = omega (arith, last, same);
          owner = laws.owner_of_global r i rank below;
          local = laws.local_of_global r i rank below;
        })

    pub own_below : (v : ℕ) → 1 ≤ v → v ≤ g.n → s.owner v ≡ r → s.local v < length p.vertices
    own_below v low high own =
        let share = (part_at r p at_rank).share in
        let below = laws.local_below v low (omega (arith, high, same)) in
        omega (arith, below, ap s.count own, share.count)

    pub own_place : (v : ℕ) → 1 ≤ v → v ≤ g.n → s.owner v ≡ r → slice_index p.vertices (s.local v) ≡ v
    own_place v low high own =
        vertex_is (s.local v) (own_below v low high own)
        ∙ (ap (λ (q : ℕ). s.global q (s.local v)) (sym own) ∙ laws.global_of_local v low (omega (arith, high, same)))

    pub ascend : (i j : ℕ) → i < j → j < length p.vertices → slice_index p.vertices i < slice_index p.vertices j
    ascend i j less h =
        let share = (part_at r p at_rank).share in
        omega (arith, laws.global_ascends r i j (rank_below r p at_rank) less (omega (arith, h, share.count)), vertex_is i (omega (arith, less, h)), vertex_is j h)

    pub arc_is : (i : ℕ) (a : Arc) → i < length p.vertices → Contains (row p i) a → IsArcFrom s g (slice_index p.vertices i) a
    arc_is i a h c =
        let v : ℕ = slice_index p.vertices i in
        let keys : List ℕ = items_of (incidences 0 g.edges) v in
        let listed : Contains (map (arc_at s.owner s.local g.edges v) keys) a = subst (λ (arcs : List Arc). Contains arcs a) ((part_at r p at_rank).share.row.row i h) c in
        let index = Contains-from_map (arc_at s.owner s.local g.edges v) keys a listed in
        let k : ℕ = index.0 in
        let end = index_is_end g.edges v k index.1 in
        let place : end.place ≡ k = omega (arith, end.is) in
        let below : k < length g.edges = omega (arith, end.below, place) in
        let ends : ((at g.edges k).u ≡ v) ⊎ ((at g.edges k).v ≡ v) = subst (λ (j : ℕ). ((at g.edges j).u ≡ v) ⊎ ((at g.edges j).v ≡ v)) place end.end in
        subst (IsArcFrom s g v) index.2 (record {
          joined = joins_other g.edges (at g.edges k) v (Contains-get_or g.edges k no_edge below) (cases_eq (at g.edges k).u v) ends;
          home = refl;
          place = refl;
        })

    pub arc_to : (i w : ℕ) → i < length p.vertices → AreJoined g.edges (slice_index p.vertices i) w → HasArcTo p i w
    arc_to i w h joined =
        let v : ℕ = slice_index p.vertices i in
        let k : ℕ = joined.among.0 in
        let edge_is : at g.edges k ≡ joined.edge = sym (get_or_default g.edges k joined.edge no_edge joined.among.1) ∙ joined.among.2 in
        let ends : ((at g.edges k).u ≡ v) ⊎ ((at g.edges k).v ≡ v) =
        subst (λ (e : Edge). (e.u ≡ v) ⊎ (e.v ≡ v)) (sym edge_is) (⊎_elim (λ a. inl a.0) (λ b. inr b.1) joined.ends) in
        let edge = All-contains (IsEdge g.n) g.edges joined.edge is.within joined.among in
        let other : other_end joined.edge v ≡ w = ⊎_elim
        (λ a. other_of_first joined.edge v a.0 ∙ a.1)
        (λ b. other_of_second joined.edge v (λ e. omega (arith, edge.ascends, e, b.1)) ∙ b.0)
        joined.ends in
        let keys : List ℕ = items_of (incidences 0 g.edges) v in
        let arc : Arc = arc_at s.owner s.local g.edges v k in
        let listed : Contains (map (arc_at s.owner s.local g.edges v) keys) arc = Contains-map (arc_at s.owner s.local g.edges v) keys k (end_is_index g.edges v k joined.among.1 ends) in
        record {
          arc = arc;
          among = subst (λ (arcs : List Arc). Contains arcs arc) (sym ((part_at r p at_rank).share.row.row i h)) listed;
          leads = ap (λ (e : Edge). other_end e v) edge_is ∙ other;
        }

    pub ghost_is : (slot : ℕ) (x : Ghost) → slice_get p.ghosts slot ≡ Some x → IsGhostOf s.owner s.local s.n r p.arcs x
    ghost_is slot x held =
        ghost_from s.owner s.local s.n r p.arcs x (subst (λ (xs : List Ghost). Contains xs x) (part_at r p at_rank).share.ghost_list (Contains-at p.ghosts slot x held))

    pub ghost_away : (slot : ℕ) (x : Ghost) → slice_get p.ghosts slot ≡ Some x → s.owner x.vertex.0 ≢ r
    ghost_away slot x held = abroad s g.edges p.vertices p.bounds p.arcs r x.vertex.0 (part_at r p at_rank).share.row (ghost_is slot x held).leads

    leads : (i : ℕ) (a : Arc) → i < length p.vertices → Contains (row p i) a → s.owner a.to.0 ≢ r → leads_abroad r p.arcs a.to.0 ≡ true
    leads i a h c away =
        let arcs = of_row p.bounds p.arcs i a ((part_at r p at_rank).share.row.bounded.within (i + 1) (omega arith)) c in
        let from = arc_is i a h c in
        list_any_at (λ (b : Arc). b.to.0 == a.to.0 && not (b.home.0 == r)) p.arcs arcs.0 a arcs.1
        (subst (λ (b : Arc). (b.to.0 == a.to.0 && not (b.home.0 == r)) ≡ true) (sym arcs.2)
        (and_from (a.to.0 == a.to.0) (not (a.home.0 == r)) (eq-eqb a.to.0 a.to.0 refl) (not_from_false (a.home.0 == r) (ne_eqb a.home.0 r (λ e. away (sym from.home ∙ e))))))

    pub ghost_of_arc : (i : ℕ) (a : Arc) → i < length p.vertices → Contains (row p i) a → s.owner a.to.0 ≢ r → (slot : ℕ) × IsGhost p a.to.0 slot
    ghost_of_arc i a h c away =
        let from = arc_is i a h c in
        let at_w = neighbour_within g.n g.edges is.within (slice_index p.vertices i) a.to.0 from.joined in
        let kept = Contains-kept (leads_abroad r p.arcs) (vertices_to s.n) a.to.0 (vertex_among s.n a.to.0 at_w.2 (omega (arith, at_w.3, same))) (leads i a h c away) in
        let among = Contains-map (ghost_of s.owner s.local) (filter (leads_abroad r p.arcs) (vertices_to s.n)) a.to.0 kept in
        let there : Contains p.ghosts (ghost_of s.owner s.local a.to.0) = subst (λ (xs : List Ghost). Contains xs (ghost_of s.owner s.local a.to.0)) (sym (part_at r p at_rank).share.ghost_list) among in
        let slot = index_of p.ghosts (ghost_of s.owner s.local a.to.0) there in
        (slot.0, (ghost_of s.owner s.local a.to.0, slot.1, refl))
