-- The passes of all ranks keep the rules of colouring by passes.
use Rattle.std.proofs.Common.{◌≡◌, ◌≢◌, ◌⊎◌, ◌↔◌, ◌==◌, cond, ℕ, zero, suc, ◌+◌, ◌*◌, ◌<◌, ◌≤◌, List, [], Option, Some, None, length, map, take, slice_get, get_or, refl, sym, ◌∙◌, ap, subst, inl, inr, arith, All, AllPairs, Contains}
use Rattle.std.specs.Prelude.{slice_index, nat_lt}
use Rattle.std.proofs.lemmas.Bool.{cases_eq, lt-ltb, le-ltb, cond-true, cond-false, cond_both}
use Rattle.std.proofs.lemmas.List.{get_or_default}
use Rattle.std.proofs.lemmas.List.Elements.{Contains-get_or}
use Rattle.std.proofs.lemmas.List.FromFn.{length-range_with_len, get_or-range_with_len, fill_by_all}
use Rattle.pg_base.specs.Graph.{Graph}
use Rattle.pg_dist.specs.Sharing.{Sharing}
use Rattle.pg_group.specs.declared.messages.Body.{Body}
use Rattle.pg_group.specs.Book.{PairLists}
use Rattle.pg_adj.specs.declared.arcs.Ghost.{Ghost}
use Rattle.pg_adj.specs.Portions.{Portion}
use Rattle.pg_adj.proofs.MirrorLists.{Contains-map, Contains-from_map, AllPairs-map}
use Rattle.pg_cells.specs.declared.bodies.CellBody.{CellBody}
use Rattle.pg_proper.specs.Passes as over
use Rattle.pg_proper.specs.Runs.{Run, IsRun, HasEnded, IsAnswer, known}
use Rattle.pg_proper.specs.Runs as run
use Rattle.pg_proper.proofs.PassLemmas as proper
use Rattle.pg_proper.proofs.Rounds.{vertices_are_coloured}
use Rattle.pg_colour.specs.declared.TheConstants.{NO_COLOUR}
use Rattle.pg_colour.specs.Passes.{Cells, IsClash, Passes}
use Rattle.pg_colour.specs.Refreshed.{seen_after}
use Rattle.pg_colour.specs.LocalColour.{State, History, own_before}
use Rattle.pg_colour.specs.Whole.{colour_of, colour_in, IsRunOf}
use Rattle.std.proofs.lemmas.Option.{same_Some}
use Rattle.pg_colour.proofs.Neighbours.{rank_below, own_vertex, own_below, own_place, ascend, arc_is, arc_to, ghost_is, ghost_away, ghost_of_arc}
use Rattle.pg_colour.proofs.PassesOver.{colour_none, some_colour, same_colour, Agrees, pass_over}
use Rattle.pg_colour.proofs.Kept.{Kept}
use Rattle.pg_colour.proofs.Arrived.{colours, last, round_is, nothing_left, seen_is}

take_nothing : (n : ℕ) (list : List ℕ) → list ≡ [] → take n list ≡ list
take_nothing zero list none = sym none
take_nothing (suc n) list none = ap (take (suc n)) none ∙ sym none

module _ (s : Sharing) (g : Graph) (parts : List Portion) (states : ℕ → State) (sent : PairLists CellBody)
    (part : ℕ → Portion) (history : ℕ → History) (handled promised : ℕ → List (List (Body CellBody))) (k : Kept s g parts states sent part history handled promised) where
  abbrev end : ℕ
  end = last s g parts states sent part history handled promised k

  -- The own cells of a rank after a pass.
  pub cell : ℕ → ℕ → Cells
  cell r j = cond (nat_lt j end) ((history r).own j) (states r).own

  cell_before : (r j : ℕ) → j < end → cell r j ≡ (history r).own j
  unfolding cell
  cell_before r j less = cond-true (nat_lt j end) ((history r).own j) (states r).own (lt-ltb j end less)

  cell_last : (r : ℕ) → cell r end ≡ (states r).own
  unfolding cell
  cell_last r = cond-false (nat_lt end end) ((history r).own end) (states r).own (le-ltb end end (omega arith))

  -- The colours of all vertices at their owners.
  pub full : ℕ → over.Colours
  full j v = colour_in (cell (s.owner v) j (s.local v))

  unfoldable pub the_run : Run
  the_run = record {
    graph = g;
    ranks = s.ranks;
    owner = s.owner;
    own = λ r. (part r).vertices;
    list = λ r j. map (slice_index (part r).vertices) ((history r).list j);
    colours = λ r j. full j;
    seen = λ r j. full j;
  }

  known_is : (r j v : ℕ) → known the_run r (suc j) v ≡ full j v
  unfolding the_run
  known_is r j v = cond_both (s.owner v == r) (full j v) (full j v) (λ (x : Option ℕ). x ≡ full j v) (λ e. refl) (λ e. refl)

  known_first : (r v : ℕ) → known the_run r zero v ≡ None
  known_first r v = refl

  module _ (r : ℕ) (h : r < s.ranks) where
    abbrev p : Portion
    p = part r

    abbrev seen : ℕ → Cells
    seen n = seen_after p (handled r) n

    abbrev count : ℕ
    count = length p.vertices

    full_own : (i j : ℕ) → i < count → full j (slice_index p.vertices i) ≡ colour_in (cell r j i)
    unfolding full
    full_own i j below =
        let mine = own_vertex s g parts k.sharing k.graph k.vertices k.divided r p (k.there r h) i below in
        λ t. colour_in (cell (mine.owner t) j (mine.local t))

    full_ghost : (slot : ℕ) (x : Ghost) (j : ℕ) → slice_get p.ghosts slot ≡ Some x → j < end → full j x.vertex.0 ≡ colour_in (seen (2 * j + 2) slot)
    unfolding full
    full_ghost slot x j held less =
        let remote = ghost_is s g parts k.sharing k.graph k.vertices k.divided r p (k.there r h) slot x held in
        let home : s.owner x.vertex.0 ≡ x.home.0 = sym remote.home in
        let place : s.local x.vertex.0 ≡ x.place = sym remote.place in
        (λ t. colour_in (cell (home t) j (place t)))
        ∙ (ap (λ (cells : Cells). colour_in (cells x.place)) (cell_before x.home.0 j less)
        ∙ ap colour_in (sym (seen_is s g parts states sent part history handled promised k r slot x h held j less)))

    agrees : (j : ℕ) → j ≤ end → Agrees p (known the_run r j) (own_before (history r) j) (seen (2 * j))
    agrees zero within = record {
      at_own = λ i below. known_first r (slice_index p.vertices i) ∙ sym (colour_none NO_COLOUR refl);
      at_ghost = λ slot x held. known_first r x.vertex.0 ∙ sym (colour_none NO_COLOUR refl);
    }
    agrees (suc j) within =
        let next : 2 * j + 2 ≡ 2 * suc j = omega arith in
        record {
          at_own = λ i below.
              known_is r j (slice_index p.vertices i) ∙ (full_own i j below ∙ ap (λ (cells : Cells). colour_in (cells i)) (cell_before r j (omega arith)));
          at_ghost = λ slot x held.
              known_is r j x.vertex.0 ∙ (full_ghost slot x j held (omega arith) ∙ ap (λ (n : ℕ). colour_in (seen n slot)) next);
        }

    inside : (j : ℕ) → j ≤ end → All (λ i. i < count) ((history r).list j)
    inside zero within =
        subst (λ (list : List ℕ). All (λ i. i < count) list) (sym (colours s g parts states sent part history handled promised k r h).passes.begins)
        (λ i d below. omega (arith, below, length-range_with_len 0 count, get_or-range_with_len 0 count i d (omega (arith, below, length-range_with_len 0 count))))
    inside (suc j) within = λ i d below.
        let at = round_is s g parts states sent part history handled promised k r h in
        (((colours s g parts states sent part history handled promised k r h).passes.clashes j (get_or ((history r).list (suc j)) i d) (omega (arith, at, within))).0
        (Contains-get_or ((history r).list (suc j)) i d below)).0

    pass : (j : ℕ) → j ≤ end → (j ≡ end) ⊎ (j ≢ end) → Passes p (seen (2 * j)) ((history r).list j) (own_before (history r) j) (cell r j)
    pass j within (inl same) =
        let at = round_is s g parts states sent part history handled promised k r h in
        let is = colours s g parts states sent part history handled promised k r h in
        let none : (states r).list ≡ (history r).list end = is.present.list end at in
        let nothing = nothing_left s g parts states sent part history handled promised k r h in
        let list : take (states r).done (states r).list ≡ (history r).list end = take_nothing (states r).done (states r).list (none ∙ nothing) ∙ none in
        let partly : Passes p (seen (2 * end)) ((history r).list end) (own_before (history r) end) (states r).own =
        subst (λ (l : List ℕ). Passes p (seen (2 * end)) l (own_before (history r) end) (states r).own) list (is.present.partly end at) in
        subst (λ (i : ℕ). Passes p (seen (2 * i)) ((history r).list i) (own_before (history r) i) (cell r i)) (sym same)
        (subst (λ (cells : Cells). Passes p (seen (2 * end)) ((history r).list end) (own_before (history r) end) cells) (sym (cell_last r)) partly)
    pass j within (inr apart) =
        let at = round_is s g parts states sent part history handled promised k r h in
        subst (λ (cells : Cells). Passes p (seen (2 * j)) ((history r).list j) (own_before (history r) j) cells) (sym (cell_before r j (omega arith)))
        ((colours s g parts states sent part history handled promised k r h).passes.passes j (omega (arith, at, within, apart)))

    own_there : (v : ℕ) → Contains p.vertices v → (1 ≤ v) × (v ≤ g.n) × (s.owner v ≡ r)
    own_there v c =
        let mine = own_vertex s g parts k.sharing k.graph k.vertices k.divided r p (k.there r h) c.0 c.1 in
        let at : slice_index p.vertices c.0 ≡ v = get_or_default p.vertices c.0 0 v c.1 ∙ c.2 in
        (omega (arith, mine.first, at), omega (arith, mine.last, at), ap s.owner (sym at) ∙ mine.owner)

    own_back : (v : ℕ) → (1 ≤ v) × (v ≤ g.n) × (s.owner v ≡ r) → Contains p.vertices v
    own_back v is =
        let below = own_below s g parts k.sharing k.graph k.vertices k.divided r p (k.there r h) v is.0 is.1 is.2 in
        (s.local v, below, get_or_default p.vertices (s.local v) v 0 below ∙ own_place s g parts k.sharing k.graph k.vertices k.divided r p (k.there r h) v is.0 is.1 is.2)

    ascending : (j : ℕ) → j ≤ end → AllPairs (λ v w. v < w) (map (slice_index p.vertices) ((history r).list j))
    ascending j within =
        let at = round_is s g parts states sent part history handled promised k r h in
        let list : List ℕ = (history r).list j in
        AllPairs-map (slice_index p.vertices) (λ v w. v < w) list (λ i l d less below.
        ascend s g parts k.sharing k.graph k.vertices k.divided r p (k.there r h) (get_or list i d) (get_or list l d)
        ((colours s g parts states sent part history handled promised k r h).passes.ascends j (omega (arith, at, within)) i l d less below)
        (inside j within l d below))

    begins : map (slice_index p.vertices) ((history r).list 0) ≡ p.vertices
    begins =
        ap (map (slice_index p.vertices)) (colours s g parts states sent part history handled promised k r h).passes.begins
        ∙ sym (fill_by_all (slice_index p.vertices) p.vertices count 0 refl (λ i below. refl))

    clash_there : (j i : ℕ) → j < end → i < count → IsClash p ((history r).own j) (seen (2 * j + 2)) i → run.IsClash the_run r j (slice_index p.vertices i)
    unfolding the_run
    clash_there j i less below c =
        let from = arc_is s g parts k.sharing k.graph k.vertices k.divided r p (k.there r h) i c.arc below c.among in
        let x : Ghost = c.ghost_at.0 in
        let away = ghost_away s g parts k.sharing k.graph k.vertices k.divided r p (k.there r h) c.slot x c.ghost_at.1 in
        record {
          lesser = c.arc.to.0;
          below = c.lesser;
          ghost = record {
            own = Contains-get_or p.vertices i 0 below;
            away = λ e. away (ap s.owner c.ghost_at.2 ∙ e);
            joined = proper.turned g.edges (slice_index p.vertices i) c.arc.to.0 from.joined;
          };
          same = ap (full j) (sym c.ghost_at.2)
              ∙ (full_ghost c.slot x j c.ghost_at.1 less
              ∙ (ap colour_in (c.same ∙ ap (λ (cells : Cells). cells i) (sym (cell_before r j less)))
              ∙ sym (full_own i j below)));
        }

    clash_back : (j i : ℕ) → j < end → i < count → run.IsClash the_run r j (slice_index p.vertices i) → IsClash p ((history r).own j) (seen (2 * j + 2)) i
    unfolding the_run
    clash_back j i less below c =
        let arc = arc_to s g parts k.sharing k.graph k.vertices k.divided r p (k.there r h) i c.lesser below (proper.turned g.edges c.lesser (slice_index p.vertices i) c.ghost.joined) in
        let slot = ghost_of_arc s g parts k.sharing k.graph k.vertices k.divided r p (k.there r h) i arc.arc below arc.among (λ e. c.ghost.away (ap s.owner (sym arc.leads) ∙ e)) in
        record {
          arc = arc.arc;
          slot = slot.0;
          among = arc.among;
          ghost_at = slot.1;
          lesser = omega (arith, c.below, arc.leads);
          same = same_colour (seen (2 * j + 2) slot.0) ((history r).own j i)
              (sym (full_ghost slot.0 slot.1.0 j slot.1.1 less)
              ∙ (ap (full j) (slot.1.2 ∙ arc.leads)
              ∙ (c.same
              ∙ (full_own i j below ∙ ap (λ (cells : Cells). colour_in (cells i)) (cell_before r j less)))));
        }

    clashes : (j i : ℕ) → j < end → Contains ((history r).list (suc j)) i ↔ ((i < count) × IsClash p ((history r).own j) (seen (2 * j + 2)) i)
    clashes j i less =
        let at = round_is s g parts states sent part history handled promised k r h in
        (colours s g parts states sent part history handled promised k r h).passes.clashes j i (omega (arith, at, less))

    goes_on : (j v : ℕ) → j < end → Contains (map (slice_index p.vertices) ((history r).list (suc j))) v ↔ (Contains p.vertices v × run.IsClash the_run r j v)
    goes_on j v less = (
      λ c.
          let from = Contains-from_map (slice_index p.vertices) ((history r).list (suc j)) v c in
          let is = (clashes j from.0 less).0 from.1 in
          subst (λ (w : ℕ). Contains p.vertices w × run.IsClash the_run r j w) from.2 (Contains-get_or p.vertices from.0 0 is.0, clash_there j from.0 less is.0 is.1),
      λ c.
          let i : ℕ = c.0.0 in
          let below : i < count = c.0.1 in
          let at : slice_index p.vertices i ≡ v = get_or_default p.vertices i 0 v below ∙ c.0.2 in
          let clash : run.IsClash the_run r j (slice_index p.vertices i) = subst (λ (w : ℕ). run.IsClash the_run r j w) (sym at) c.1 in
          subst (λ (w : ℕ). Contains (map (slice_index p.vertices) ((history r).list (suc j))) w) at
          (Contains-map (slice_index p.vertices) ((history r).list (suc j)) i ((clashes j i less).1 (below, clash_back j i less below clash))),
    )

    vertex_pass : (j : ℕ) → j ≤ end → over.Passes g.edges p.vertices (map (slice_index p.vertices) ((history r).list j)) (known the_run r j) (full j)
    vertex_pass j within =
        pass_over s g parts k.sharing k.graph k.vertices k.divided r p (k.there r h) ((history r).list j) (known the_run r j) (full j) (own_before (history r) j) (cell r j) (seen (2 * j))
        (inside j within) (agrees j within) (λ i below. full_own i j below) (pass j within (cases_eq j end))

  pub rules : IsRun the_run end
  unfolding the_run
  rules = record {
    graph = k.graph;
    owned = λ v low high. k.sharing.owner_is_rank v low (omega (arith, high, k.vertices));
    owns = λ r v h. (own_there r h v, own_back r h v);
    ascends = λ r j h within. ascending r h j within;
    begins = λ r h. begins r h;
    goes_on = λ r j v h less. goes_on r h j v less;
    passes = λ r j h within. vertex_pass r h j within;
    fresh = λ r j u v h less ghost. refl;
  }

  pub has_ended : HasEnded the_run end
  unfolding the_run
  has_ended r h = ap (map (slice_index (part r).vertices)) (nothing_left s g parts states sent part history handled promised k r h)

  full_last : (v : ℕ) → full end v ≡ colour_in (colour_of s states v)
  unfolding full
  full_last v = ap (λ (cells : Cells). colour_in (cells (s.local v))) (cell_last (s.owner v))

  pub answer : IsAnswer the_run end (colour_of s states)
  unfolding the_run
  answer v low high =
      let has = vertices_are_coloured the_run end rules v low high in
      let c : ℕ = has.0 in
      let is : colour_of s states v ≡ c = some_colour (colour_of s states v) c (sym (full_last v) ∙ has.1) in
      has.1 ∙ ap (λ (x : ℕ). Some x) (sym is)

  part_same : (r : ℕ) (p : Portion) → slice_get parts r ≡ Some p → part r ≡ p
  part_same r p at = same_Some (part r) p (sym (k.there r (rank_below s g parts k.sharing k.graph k.vertices k.divided r p at)) ∙ at)

  run_colour : (r j i : ℕ) → r < s.ranks → j < end → i < length (part r).vertices → full j (slice_index (part r).vertices i) ≡ colour_in ((history r).own j i)
  run_colour r j i h less below = full_own r h i j below ∙ ap (λ (cells : Cells). colour_in (cells i)) (cell_before r j less)

  pub is_run_of : IsRunOf s g parts states history the_run end
  unfolding the_run
  is_run_of = record {
    graph = refl;
    ranks = refl;
    owner = λ v. refl;
    rounds = λ r h. round_is s g parts states sent part history handled promised k r h;
    own = λ r p at. ap (λ (x : Portion). x.vertices) (part_same r p at);
    lists = λ r j p at within. ap (λ (x : Portion). map (slice_index x.vertices) ((history r).list j)) (part_same r p at);
    colours = λ r j i p at less below.
        let is = part_same r p at in
        let h = rank_below s g parts k.sharing k.graph k.vertices k.divided r p at in
        subst (λ (x : Portion). i < length x.vertices → full j (slice_index x.vertices i) ≡ colour_in ((history r).own j i)) is (λ inside. run_colour r j i h less inside) below;
    rules = rules;
    ended = has_ended;
    answer = answer;
  }

  -- After a pass over nothing the own cells are those of the pass before.
  pub cell_stays : (r i j : ℕ) → r < s.ranks → end ≡ suc j → (states r).own i ≡ (history r).own j i
  cell_stays r i j h is =
      let none = nothing_left s g parts states sent part history handled promised k r h in
      let passes = pass r h end (omega arith) (inl refl) in
      let still : (place : ℕ) → cell r end place ≡ own_before (history r) end place =
      subst (λ (l : List ℕ). Passes (part r) (seen_after (part r) (handled r) (2 * end)) l (own_before (history r) end) (cell r end)) none passes in
      ap (λ (cells : Cells). cells i) (sym (cell_last r)) ∙ (still i ∙ ap (λ (n : ℕ). own_before (history r) n i) is)
