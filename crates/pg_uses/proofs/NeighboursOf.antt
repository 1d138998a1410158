-- The arcs of a part lead to the neighbours of its vertices, and each of these has a cell there.
use Rattle.std.proofs.Common.{◌≡◌, ◌≢◌, ◌⊎◌, ◌==◌, ◌&&◌, not, true, inl, inr, ℕ, zero, suc, ◌+◌, ◌<◌, ◌≤◌, List, [], ◌∷◌, Some, length, map, filter, slice_get, refl, sym, ap, ◌∙◌, subst, arith, Contains, ⊎_elim}
use Rattle.std.specs.Prelude.{slice_index}
use Rattle.std.proofs.lemmas.Bool.{and_from, cases_eq, eq-eqb, eqb-true, ne_eqb, not_from_false}
use Rattle.std.proofs.lemmas.Option.{slice_get-get_or, slice_get_within}
use Rattle.std.proofs.lemmas.List.Edits.{get_or-between, length-between}
use Rattle.std.proofs.lemmas.List.Elements.{Contains-append_left, Contains-push}
use Rattle.std.proofs.lemmas.List.Folds.{list_any_at}
use Rattle.pg_base.proofs.ArcLemmas.{IsDirectionOf, arc_is_within, arcs_from_leave, arcs_of_edge, edge_of_arc}
use Rattle.pg_base.proofs.Members.{Contains-kept}
use Rattle.pg_base.specs.Colouring.{AreJoined}
use Rattle.pg_base.specs.Graph.{Graph, IsGraph, Arc as GraphArc, arcs_from, arcs_of, backward, forward}
use Rattle.pg_base.specs.Keyed.{items_of, row_of}
use Rattle.pg_dist.specs.Sharing.{Sharing, IsSharing}
use Rattle.pg_adj.specs.declared.arcs.Arc.{Arc}
use Rattle.pg_adj.specs.declared.arcs.Ghost.{Ghost}
use Rattle.pg_adj.specs.Division.{Divided, IsPartOf, arc_at, ghost_of, leads_abroad, undivided, vertices_to}
use Rattle.pg_adj.specs.Incidence.{incidences}
use Rattle.pg_adj.specs.Portions.{Portion}
use Rattle.pg_adj.proofs.MirrorLists.{Contains-from_map, Contains-map, index_of}
use Rattle.pg_cells.specs.States.{IsKnown}
use Rattle.pg_uses.specs.MapRuns.{KnowsNeighbours}
use Rattle.pg_uses.specs.DegreeMaps.{HasNeighbours, LeadsTo}
use Rattle.pg_uses.proofs.WholeRuns.{part_is}

vertex_among : (n v : ℕ) → 1 ≤ v → v ≤ n → Contains (vertices_to n) v
vertex_among zero v low high = absurd (omega (arith, low, high))
vertex_among (suc n) v low high = ⊎_elim
    (λ last. subst (Contains (vertices_to (suc n))) (sym last) (Contains-push (vertices_to n) (n + 1)))
    (λ before. Contains-append_left (vertices_to n) ((n + 1) ∷ []) v (vertex_among n v low (omega (arith, high, before))))
    (cases_eq v (n + 1))

-- what stands in a row stands among all items
of_row : {X : Type 0} (bounds : List ℕ) (items : List X) (i : ℕ) (x : X) → slice_index bounds (i + 1) ≤ length items → Contains (row_of bounds items i) x → Contains items x
of_row bounds items i x high c =
    let begin : ℕ = slice_index bounds i in
    let end : ℕ = slice_index bounds (i + 1) in
    let size = length-between items begin end high in
    let inside = c.1 in
    (begin + c.0, omega arith, sym (get_or-between items begin end c.0 x (omega arith)) ∙ c.2)

module _ (s : Sharing) (laws : IsSharing s) (g : Graph) (graph : IsGraph g) (n : g.n ≡ s.n) (parts : List Portion) (divided : Divided s g parts)
    (r : ℕ) (p : Portion) (at : slice_get parts r ≡ Some p) (place : ℕ) (below : place < length p.vertices) where
  abbrev part_here : IsPartOf s g (map (λ q. q.ghosts) parts) r p
  part_here = part_is s laws g graph n parts divided r p at

  abbrev v : ℕ
  v = slice_index p.vertices place

  -- an arc of the place is one of the graph
  arc_leaves : (a : Arc) → Contains (row_of p.bounds p.arcs place) a → Contains (arcs_of g.edges) (undivided v a)
  arc_leaves a c =
      let there = subst (λ l. Contains l (undivided v a)) (part_here.arcs place below) (Contains-map (undivided v) (row_of p.bounds p.arcs place) a c) in
      ((arcs_from_leave (arcs_of g.edges) v (undivided v a)).0 there).0

  joined_by : (w : ℕ) → LeadsTo p place w → AreJoined g.edges v w
  joined_by w (a, c, leads) =
      let e = edge_of_arc g.edges (undivided v a) (arc_leaves a c) in
      record {
        edge = e.0;
        among = e.1;
        ends = ⊎_elim
            (λ is. inl (ap (λ (x : GraphArc). x.from) (sym is), ap (λ (x : GraphArc). x.to) (sym is) ∙ leads))
            (λ is. inr (ap (λ (x : GraphArc). x.to) (sym is) ∙ leads, ap (λ (x : GraphArc). x.from) (sym is)))
            e.2;
      }

  arc_there : (a : GraphArc) → Contains (arcs_of g.edges) a → a.from ≡ v → LeadsTo p place a.to
  arc_there a among from =
      let leaves = (arcs_from_leave (arcs_of g.edges) v a).1 (among, from) in
      let found = Contains-from_map (undivided v) (row_of p.bounds p.arcs place) a (subst (λ l. Contains l a) (sym (part_here.arcs place below)) leaves) in
      (found.0, found.1, ap (λ (x : GraphArc). x.to) found.2)

  leads_to : (w : ℕ) → AreJoined g.edges v w → LeadsTo p place w
  leads_to w joined =
      let both = arcs_of_edge g.edges joined.edge joined.among in
      ⊎_elim
      (λ ends. subst (LeadsTo p place) ends.1 (arc_there (forward joined.edge) both.0 ends.0))
      (λ ends. subst (LeadsTo p place) ends.0 (arc_there (backward joined.edge) both.1 ends.1))
      joined.ends

  home_is : (a : Arc) → Contains (row_of p.bounds p.arcs place) a → a.home.0 ≡ s.owner a.to.0
  home_is a c =
      let keys = items_of (incidences 0 g.edges) v in
      let from = Contains-from_map (arc_at s.owner s.local g.edges v) keys a (subst (λ l. Contains l a) (part_here.share.row.row place below) c) in
      subst (λ (x : Arc). x.home.0 ≡ s.owner x.to.0) from.2 refl

  leads_out : (a : Arc) → Contains (row_of p.bounds p.arcs place) a → s.owner a.to.0 ≢ r → leads_abroad r p.arcs a.to.0 ≡ true
  leads_out a c away =
      let arcs = of_row p.bounds p.arcs place a (part_here.share.row.bounded.within (place + 1) (omega (arith, below))) c in
      list_any_at (λ (b : Arc). b.to.0 == a.to.0 && not (b.home.0 == r)) p.arcs arcs.0 a arcs.1
      (subst (λ (b : Arc). (b.to.0 == a.to.0 && not (b.home.0 == r)) ≡ true) (sym arcs.2)
      (and_from (a.to.0 == a.to.0) (not (a.home.0 == r)) (eq-eqb a.to.0 a.to.0 refl) (not_from_false (a.home.0 == r) (ne_eqb a.home.0 r (λ e. away (sym (home_is a c) ∙ e))))))

  has_neighbours : HasNeighbours p place
  has_neighbours w (a, c, leads) =
      let within = arc_is_within g graph (undivided v a) (arc_leaves a c) in
      let last : a.to.0 ≤ s.n = omega (arith, within.3, n) in
      subst (IsKnown p) leads (elim (cases_eq (s.owner a.to.0) r) [
        | inl own ↦
            let share = part_here.share in
            let local : s.local a.to.0 < s.count r = subst (λ q. s.local a.to.0 < s.count q) own (laws.local_below a.to.0 within.2 last) in
            let is : slice_index p.vertices (s.local a.to.0) ≡ a.to.0 =
            share.vertex (s.local a.to.0) local ∙ (ap (λ q. s.global q (s.local a.to.0)) (sym own) ∙ laws.global_of_local a.to.0 within.2 last) in
            inl (s.local a.to.0, slice_get-get_or p.vertices (s.local a.to.0) 0 (omega (arith, local, share.count)) ∙ ap Some is)
        | inr away ↦
            let kept = Contains-kept (leads_abroad r p.arcs) (vertices_to s.n) a.to.0 (vertex_among s.n a.to.0 within.2 last) (leads_out a c away) in
            let among = Contains-map (ghost_of s.owner s.local) (filter (leads_abroad r p.arcs) (vertices_to s.n)) a.to.0 kept in
            let there : Contains p.ghosts (ghost_of s.owner s.local a.to.0) = subst (λ (xs : List Ghost). Contains xs (ghost_of s.owner s.local a.to.0)) (sym part_here.share.ghost_list) among in
            let slot = index_of p.ghosts (ghost_of s.owner s.local a.to.0) there in
            inr (slot.0, (ghost_of s.owner s.local a.to.0, slot.1, refl))
      ])

-- What the part of a rank has.
pub neighbours_known : (s : Sharing) → IsSharing s → (g : Graph) → IsGraph g → g.n ≡ s.n → (parts : List Portion) → Divided s g parts → (r : ℕ) (p : Portion) → slice_get parts r ≡ Some p → KnowsNeighbours s g r p
neighbours_known s laws g graph n parts divided r p at =
    let share = (part_is s laws g graph n parts divided r p at).share in
    record {
      count = share.count;
      vertex = share.vertex;
      joined = λ place w below. (joined_by s laws g graph n parts divided r p at place below w, leads_to s laws g graph n parts divided r p at place below w);
      known = λ place below. has_neighbours s laws g graph n parts divided r p at place below;
    }
