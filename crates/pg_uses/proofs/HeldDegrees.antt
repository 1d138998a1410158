-- At the end of a run each cell, an own one or a ghost's, holds the degree of its vertex.
use Rattle.std.proofs.Common.{◌≡◌, ◌≢◌, ◌⊎◌, ◌==◌, inl, inr, ℕ, zero, suc, ◌<◌, ◌≤◌, Bool, true, false, max, List, [], ◌∷◌, Option, Some, None, cond, length, map, filter, slice_get, refl, sym, ap, ◌∙◌, subst, arith}
use Rattle.std.specs.Prelude.{slice_index, slice_index_or}
use Rattle.std.specs.List.{fold}
use Rattle.std.proofs.lemmas.Bool.{cases_eq, cases_lt, eq-eqb, ne_eqb}
use Rattle.std.proofs.lemmas.Option.{get_or_from_slice_get, slice_get-get_or, slice_get_within, same_Some}
use Rattle.pg_base.specs.Colouring.{degree}
use Rattle.pg_base.specs.Graph.{Graph, IsGraph}
use Rattle.pg_base.specs.Keyed.{row_of}
use Rattle.pg_dist.specs.Sharing.{Sharing, IsSharing}
use Rattle.pg_group.specs.declared.messages.Envelope.{Envelope}
use Rattle.pg_lane.specs.declared.settling.Settled.{Settled}
use Rattle.pg_adj.specs.declared.arcs.Ghost.{Ghost}
use Rattle.pg_adj.specs.Portions.{Portion}
use Rattle.pg_adj.specs.Division.{Divided}
use Rattle.pg_cells.specs.declared.bodies.CellBody.{CellBody}
use Rattle.pg_cells.specs.Freshness.{AreFresh, AreOfOneDivision, HasJoinedAll, HaveJoinedAll, RankedPut, events_at, values_of}
use Rattle.pg_cells.specs.Runs.{puts_to}
use Rattle.pg_cells.specs.Steps.{Event}
use Rattle.pg_cells.specs.Shown.{state_of}
use Rattle.pg_cells.specs.States.{CellState, IsValueOf}
use Rattle.pg_uses.specs.declared.neighbours.NeighbourDegrees.{NeighbourDegrees}
use Rattle.pg_uses.specs.MapRuns.{HoldsDegrees, IsMapRunOver, KnowsNeighbours}
use Rattle.pg_uses.specs.DegreeMaps.{both_ways, no_degree}
use Rattle.pg_uses.specs.Synchronizing.{part_in}
use Rattle.pg_uses.proofs.Beside.{entry_from_map}
use Rattle.pg_uses.proofs.NeighboursOf.{neighbours_known}
use Rattle.pg_uses.proofs.Opening.{others_unput, own_put}
use Rattle.pg_uses.proofs.Synchronized.{IsRankRun, cells, have_synchronized, none_past, part_is as part_there, run_at, runs}
use Rattle.pg_uses.proofs.WholeRuns.{entry_below, in_order, part_is, row_degree}

-- ---- one put in all

value_first : (rank : ℕ) (p : RankedPut) (puts : List RankedPut) → p.rank ≡ rank → values_of rank (p ∷ puts) ≡ p.value ∷ values_of rank puts
value_first rank p puts same = ap (λ b. map (λ (q : RankedPut). q.value) (cond b (p ∷ filter (λ (q : RankedPut). q.rank == rank) puts) (filter (λ (q : RankedPut). q.rank == rank) puts))) (eq-eqb p.rank rank same)

value_else : (rank : ℕ) (p : RankedPut) (puts : List RankedPut) → p.rank ≢ rank → values_of rank (p ∷ puts) ≡ values_of rank puts
value_else rank p puts other = ap (λ b. map (λ (q : RankedPut). q.value) (cond b (p ∷ filter (λ (q : RankedPut). q.rank == rank) puts) (filter (λ (q : RankedPut). q.rank == rank) puts))) (ne_eqb p.rank rank other)

no_puts : (puts : List RankedPut) → ((rank : ℕ) → values_of rank puts ≡ []) → puts ≡ []
no_puts [] none = refl
no_puts (p ∷ puts) none = absurd (omega (arith, ap length (value_first p.rank p puts refl), ap length (none p.rank)))

-- Where one rank put one value and no other rank any, this is all that was put.
one_put : (puts : List RankedPut) (rank x : ℕ) → values_of rank puts ≡ x ∷ [] → ((r : ℕ) → r ≢ rank → values_of r puts ≡ []) → map (λ (p : RankedPut). p.value) puts ≡ x ∷ []
one_put [] rank x one none = absurd (omega (arith, ap length one))
one_put (p ∷ puts) rank x one none = elim (cases_eq p.rank rank) [
  | inr other ↦ absurd (omega (arith, ap length (value_first p.rank p puts refl), ap length (none p.rank other)))
  | inl same ↦
      let both : p.value ∷ values_of rank puts ≡ x ∷ [] = sym (value_first rank p puts same) ∙ one in
      let first : p.value ≡ x = cc in
      let rest : values_of rank puts ≡ [] = cc in
      let nothing : puts ≡ [] = no_puts puts (λ r. elim (cases_eq r rank) [
        | inl here ↦ subst (λ i. values_of i puts ≡ []) (sym here) rest
        | inr there ↦ sym (value_else r p puts (λ e. there (sym e ∙ same))) ∙ none r there
      ]) in
      ap (λ l. p.value ∷ map (λ (q : RankedPut). q.value) l) nothing ∙ ap (λ v. v ∷ []) first
]

-- ---- the cells

module _ (s : Sharing) (laws : IsSharing s) (g : Graph) (graph : IsGraph g) (n : g.n ≡ s.n) (parts : List Portion) (divided : Divided s g parts)
    (programs : List NeighbourDegrees) (lanes : List (Settled (Envelope CellBody))) (run : IsMapRunOver parts programs lanes) where
  abbrev order : (r : ℕ) (p : Portion) → slice_get parts r ≡ Some p → (p.rank ≡ r) × (p.ranks ≡ length parts)
  order = in_order s laws g graph n parts divided

  abbrev all_runs : List (List Event)
  all_runs = runs parts programs lanes run order

  abbrev all_cells : List CellState
  all_cells = cells parts programs lanes run order

  global_is : (r : ℕ) (part : Portion) → slice_get parts r ≡ Some part → (place : ℕ) → place < length part.vertices → slice_index part.vertices place ≡ s.global r place
  global_is r part at place below = let share = (part_is s laws g graph n parts divided r part at).share in share.vertex place (omega (arith, below, share.count))

  rank_below : (r : ℕ) (part : Portion) → slice_get parts r ≡ Some part → r < s.ranks
  rank_below r part at = omega (arith, slice_get_within parts r part at, divided.count)

  place_below : (r : ℕ) (part : Portion) → slice_get parts r ≡ Some part → (place : ℕ) → place < length part.vertices → place < s.count r
  place_below r part at place below = omega (arith, below, (part_is s laws g graph n parts divided r part at).share.count)

  -- a vertex is an own one of one rank
  one_owner : (r q : ℕ) (here there : Portion) → slice_get parts r ≡ Some here → slice_get parts q ≡ Some there → (i k : ℕ) → i < length here.vertices → k < length there.vertices
      → slice_index here.vertices i ≡ slice_index there.vertices k → r ≡ q
  one_owner r q here there at_r at_q i k low_i low_k same =
      sym (laws.owner_of_global r i (rank_below r here at_r) (place_below r here at_r i low_i))
      ∙ (ap s.owner (sym (global_is r here at_r i low_i) ∙ (same ∙ global_is q there at_q k low_k))
      ∙ laws.owner_of_global q k (rank_below q there at_q) (place_below q there at_q k low_k))

  -- at one place
  one_place : (r : ℕ) (here : Portion) → slice_get parts r ≡ Some here → (i k : ℕ) → i < length here.vertices → k < length here.vertices → slice_index here.vertices i ≡ slice_index here.vertices k → i ≡ k
  one_place r here at i k low_i low_k same =
      sym (laws.local_of_global r i (rank_below r here at) (place_below r here at i low_i))
      ∙ (ap s.local (sym (global_is r here at i low_i) ∙ (same ∙ global_is r here at k low_k))
      ∙ laws.local_of_global r k (rank_below r here at) (place_below r here at k low_k))

  put_by : (r place : ℕ) (part : Portion) → slice_get parts r ≡ Some part → place < length part.vertices → puts_to (slice_index part.vertices place) (events_at all_runs r) ≡ length (row_of part.bounds part.arcs place) ∷ []
  put_by r place part at below =
      let mine = run_at parts programs lanes run order r part at in
      ap (puts_to (slice_index part.vertices place)) mine.are
      ∙ own_put part place mine.kept.keeps.events (mine.kept.keeps.no_puts (slice_index part.vertices place)) below (λ i low same. one_place r part at i place low below same)

  unput_by : (r q place : ℕ) (part : Portion) → slice_get parts r ≡ Some part → place < length part.vertices → q ≢ r → puts_to (slice_index part.vertices place) (events_at all_runs q) ≡ []
  unput_by r q place part at below other = elim (cases_lt q (length parts)) [
    | inr past ↦ ap (puts_to (slice_index part.vertices place)) (none_past parts programs lanes run order q past)
    | inl within ↦
        let there = entry_below parts q within in
        let theirs = run_at parts programs lanes run order q there.0 there.1 in
        ap (puts_to (slice_index part.vertices place)) theirs.are
        ∙ others_unput there.0 (slice_index part.vertices place) theirs.kept.keeps.events (theirs.kept.keeps.no_puts (slice_index part.vertices place))
        (λ i low same. other (one_owner q r there.0 part there.1 at i place low below same))
  ]

  -- An own cell that has joined all that was put to it holds its vertex's degree.
  joined_degree : (r place x : ℕ) (part : Portion) → slice_get parts r ≡ Some part → place < length part.vertices → HasJoinedAll max no_degree all_runs (slice_index part.vertices place) x
      → x ≡ degree g.edges (slice_index part.vertices place)
  joined_degree r place x part at below all =
      let d = length (row_of part.bounds part.arcs place) in
      let one = one_put all.0 r d (all.2 r ∙ put_by r place part at below) (λ q other. all.2 q ∙ unput_by r q place part at below other) in
      let joined : x ≡ max 0 d = all.1 ∙ ap (fold max 0) one in
      let value : x ≡ d = omega (arith, joined) in
      value ∙ sym (row_degree s laws g graph n parts divided r part at place below)

  division : AreOfOneDivision parts
  division = (s, g, laws, divided)

  module _ (r : ℕ) (p : NeighbourDegrees) (at : slice_get programs r ≡ Some p) where
    abbrev mine : (part : Portion) × (slice_get parts r ≡ Some part)
    mine = entry_below parts r (omega (arith, slice_get_within programs r p at, run.count))

    abbrev there : IsRankRun parts programs lanes run order r mine.0 (events_at all_runs r)
    there = run_at parts programs lanes run order r mine.0 mine.1

    fresh : AreFresh all_cells
    fresh = there.kept.keeps.refreshes there.kept.ended both_ways parts all_runs all_cells division (have_synchronized parts programs lanes run order) refl

    joined : HaveJoinedAll max no_degree all_runs all_cells
    joined = there.kept.keeps.joins there.kept.ended both_ways parts all_runs all_cells division (have_synchronized parts programs lanes run order) refl refl

    -- the own cells of all ranks
    own_degree : (q place x : ℕ) (c : CellState) → slice_get all_cells q ≡ Some c → slice_get c.own place ≡ Some x → (v : ℕ) → slice_get c.part.vertices place ≡ Some v → x ≡ degree g.edges v
    own_degree q place x c shown own v vertex =
        let from = entry_from_map (λ (p : NeighbourDegrees). state_of p.cells) programs q c shown in
        let here = entry_below parts q (omega (arith, slice_get_within programs q from.0 from.1, run.count)) in
        let theirs = run_at parts programs lanes run order q here.0 here.1 in
        let same : theirs.program ≡ from.0 = same_Some _ _ (sym theirs.there ∙ from.1) in
        let part : c.part ≡ here.0 =
        ap (λ (t : CellState). t.part) (sym from.2) ∙ (from.0.same_part ∙ (ap (λ (t : NeighbourDegrees). t.part) (sym same) ∙ part_there parts programs lanes run order q here.0 here.1)) in
        let vertex_here : slice_get here.0.vertices place ≡ Some v = subst (λ (t : Portion). slice_get t.vertices place ≡ Some v) part vertex in
        let below = slice_get_within here.0.vertices place v vertex_here in
        let is : slice_index here.0.vertices place ≡ v = get_or_from_slice_get here.0.vertices place v 0 vertex_here in
        let all = joined q place v c shown vertex in
        let value : all.0 ≡ x = same_Some _ _ (sym all.1 ∙ own) in
        subst (λ w. x ≡ degree g.edges w) is
        (joined_degree q place x here.0 here.1 below (subst (λ w. HasJoinedAll max no_degree all_runs w x) (sym is) (subst (HasJoinedAll max no_degree all_runs v) value all.2)))

    shown_here : slice_get all_cells r ≡ Some (state_of p.cells)
    shown_here = map_at (λ (q : NeighbourDegrees). state_of q.cells) programs r p at
      where
        map_at : {X Y : Type 0} (f : X → Y) (xs : List X) (k : ℕ) (x : X) → slice_get xs k ≡ Some x → slice_get (map f xs) k ≡ Some (f x)
        map_at f [] k x h = absurd (cc h)
        map_at f (y ∷ xs) zero x h = ap (λ z. Some (f z)) (same_Some _ _ h)
        map_at f (y ∷ xs) (suc k) x h = map_at f xs k x h

    pub holds_degrees : HoldsDegrees g p
    holds_degrees v value (inl (place, own, is)) =
        let c = state_of p.cells in
        let all = joined r place v c shown_here own in
        is ∙ ap Some (get_or_from_slice_get c.own place all.0 0 all.1 ∙ own_degree r place all.0 c shown_here all.1 v own)
    holds_degrees v value (inr (slot, ghost_there, is)) =
        let c = state_of p.cells in
        let f = fresh r slot c ghost_there.0 shown_here ghost_there.1 in
        let d = own_degree ghost_there.0.home.0 ghost_there.0.place f.value f.owner f.home f.own_value ghost_there.0.vertex.0 f.vertex in
        is ∙ (get_or_from_slice_get c.ghosts slot (Some f.value) None f.ghost_value ∙ ap Some (d ∙ ap (degree g.edges) ghost_there.2))

    here_is : p.part ≡ mine.0
    here_is = ap (λ (t : NeighbourDegrees). t.part) (sym (same_Some _ _ (sym there.there ∙ at))) ∙ part_there parts programs lanes run order r mine.0 mine.1

    pub knows_neighbours : KnowsNeighbours s g r (part_in p)
    knows_neighbours = subst (KnowsNeighbours s g r) (sym here_is) (neighbours_known s laws g graph n parts divided r mine.0 mine.1)
