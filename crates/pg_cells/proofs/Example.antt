-- The example's parts are those of one division, and its events make a synchronize.
use Rattle.std.proofs.Common.{◌≡◌, ℕ, zero, suc, ◌+◌, ◌<◌, ◌≤◌, max, true, false, List, [], ◌∷◌, Some, None, get_or, slice_get, All, AllPairs, Contains, refl, sym, subst, inl, inr, arith}
use Rattle.std.proofs.lemmas.Bool.{ne_eqb}
use Rattle.std.proofs.lemmas.Option.{none-some, same_Some}
use Rattle.std.proofs.lemmas.List.Elements.{All-nil, All-cons}
use Rattle.std.specs.Prelude.{max, slice_set}
use Rattle.pg_dist.specs.Sharing.{IsSharing}
use Rattle.pg_adj.specs.declared.arcs.Ghost.{Ghost}
use Rattle.pg_adj.specs.Portions.{Portion}
use Rattle.pg_adj.specs.Division.{AreRows, IsPartOf, Divided}
use Rattle.pg_base.specs.Keyed.{row_of}
use Rattle.pg_cells.specs.declared.bodies.CellBody.TheVariants.{Put as PutBody, Refresh}
use Rattle.pg_cells.specs.declared.phases.Phase.TheVariants.{Closing, Refreshing}
use Rattle.pg_cells.specs.States.{CellState, new_cells, NothingLeft}
use Rattle.pg_cells.specs.Steps.{Event, after_body, after_round, join_ghost}
use Rattle.pg_cells.specs.Runs.{Run, rounds, ends_a_round, events_of, handled_from, sent_to}
use Rattle.pg_cells.specs.Steps.Event.{closed}
use Rattle.pg_cells.specs.Freshness.{AreOfOneDivision, HaveSynchronized, events_at}
use Rattle.pg_cells.specs.Example.{pair, one_each, first, second, parts, both_ways, first_events, second_events, runs, cells_of, cells, start}

only : (P : ℕ → Type 0) → P 0 → (i : ℕ) → i < 1 → P i
only P it zero less = it
only P it (suc i) less = absurd (omega arith)

both : (P : ℕ → Type 0) → P 0 → P 1 → (r : ℕ) → r < 2 → P r
both P zeroth one zero less = zeroth
both P zeroth one (suc zero) less = one
both P zeroth one (suc (suc r)) less = absurd (omega arith)

pub sharing_laws : IsSharing one_each
sharing_laws = record {
  n_within = omega arith;
  owner_is_rank = λ v low high. omega arith;
  local_below = λ v low high. omega arith;
  global_of_local = λ v low high. omega arith;
  count_within = λ r rank. omega arith;
  global_first = λ r i rank place. omega arith;
  global_last = λ r i rank place. omega arith;
  owner_of_global = λ r i rank place. omega arith;
  local_of_global = λ r i rank place. omega arith;
  global_ascends = λ r i j rank order place. omega arith;
}

-- One row of one item.
one_row : {X : Type 0} (items : ℕ → List X) (x : X) → x ∷ [] ≡ items 0 → AreRows items 1 (0 ∷ 1 ∷ []) (x ∷ [])
one_row items x is = record {
  bounded = record { each = refl; ascend = only (λ i. get_or (0 ∷ 1 ∷ []) i 0 ≤ get_or (0 ∷ 1 ∷ []) (i + 1) 0) (omega arith); within = λ i l. both (λ k. get_or (0 ∷ 1 ∷ []) k 0 ≤ 1) (omega arith) (omega arith) i (omega arith) };
  first = refl;
  last = refl;
  row = only _ is;
}

abbrev ghost_lists : List (List Ghost)
ghost_lists = first.ghosts ∷ second.ghosts ∷ []

first_is : IsPartOf one_each pair ghost_lists 0 first
first_is = record {
  rank = refl;
  ranks = refl;
  n = refl;
  share = record { count = refl; vertex = only _ refl; row = one_row _ _ refl; ghost_list = refl };
  arcs = only _ refl;
  ascend = only (λ i. AllPairs (λ a b. a.to.0 < b.to.0) (row_of first.bounds first.arcs i)) (λ i j d less l. absurd (omega arith));
  holders = one_row _ _ refl;
}

second_is : IsPartOf one_each pair ghost_lists 1 second
second_is = record {
  rank = refl;
  ranks = refl;
  n = refl;
  share = record { count = refl; vertex = only _ refl; row = one_row _ _ refl; ghost_list = refl };
  arcs = only _ refl;
  ascend = only (λ i. AllPairs (λ a b. a.to.0 < b.to.0) (row_of second.bounds second.arcs i)) (λ i j d less l. absurd (omega arith));
  holders = one_row _ _ refl;
}

part_is : (r : ℕ) (d : Portion) → r < 2 → IsPartOf one_each pair ghost_lists r (get_or parts r d)
part_is zero d less = first_is
part_is (suc zero) d less = second_is
part_is (suc (suc r)) d less = absurd (omega arith)

pub divided : Divided one_each pair parts
divided = record { count = refl; part = part_is }

pub of_one_division : AreOfOneDivision parts
of_one_division = (one_each, pair, sharing_laws, divided)

-- One item of a list.
one_is : {X : Type 0} (P : X → Type 0) (x : X) → P x → All P (x ∷ [])
one_is P x h = All-cons P x [] h (All-nil P)

closing_is_other : Closing ≡ Refreshing → ⊥
closing_is_other e = cc

nothing_left : (s : CellState) → s.owed ≡ None ∷ [] → s.noted ≡ false ∷ [] → (s.phase ≡ Refreshing → ⊥) → NothingLeft s
nothing_left s owed noted other = record {
  owed = subst (λ os. All (λ x. x ≡ None) os) (sym owed) (one_is (λ x. x ≡ None) None refl);
  noted = λ e. subst (λ ns. All (λ x. x ≡ false) ns) (sym noted) (one_is (λ x. x ≡ false) false refl);
  unsent = λ e. absurd (other e);
}

all_sent : (s : CellState) → s.owed ≡ None ∷ [] → s.noted ≡ false ∷ [] → s.unsent ≡ false ∷ [] → NothingLeft s
all_sent s owed noted unsent = record {
  owed = subst (λ os. All (λ x. x ≡ None) os) (sym owed) (one_is (λ x. x ≡ None) None refl);
  noted = λ e. subst (λ ns. All (λ x. x ≡ false) ns) (sym noted) (one_is (λ x. x ≡ false) false refl);
  unsent = λ e. subst (λ us. All (λ x. x ≡ false) us) (sym unsent) (one_is (λ x. x ≡ false) false refl);
}

-- The cells of each rank, event after event.
first_ran : Run max start (new_cells start first both_ways) first_events (cells_of first 0 5)
first_ran =
    let s0 : CellState = new_cells start first both_ways in
    let s1 : CellState = join_ghost max start 0 5 s0 in
    let s2 : CellState = record s1 { owed = slice_set s1.owed 0 None } in
    let s3 : CellState = record s2 { phase = Closing } in
    let s4 : CellState = after_round max start Closing s3 in
    let s5 : CellState = record s4 { unsent = slice_set s4.unsent 0 false } in
    let s6 : CellState = after_body max start (Refresh 0 5) s5 in
    let s7 : CellState = after_round max start Refreshing s6 in (
      s1,
      (refl, inr (0, (_, refl, refl), refl)),
      (
        s2,
        inl (record { slot = 0; held = _; value = 5; there = refl; owed = refl; home = refl; body_is = refl; after = refl }),
        (
          s3,
          (refl, refl),
          (
            s4,
            (inr (nothing_left s3 refl refl (λ e. absurd (closing_is_other e))), refl),
            (
              s5,
              inr (inr (record { entry = 0; pending = _; refreshing = refl; there = refl; unsent = refl; rank = refl; body_is = refl; after = refl })),
              (
                s6,
                refl,
                (
                  s7,
                  (inr (all_sent s6 refl refl refl), refl),
                  refl,
                ),
              ),
            ),
          ),
        ),
      ),
    )

second_ran : Run max start (new_cells start second both_ways) second_events (cells_of second 5 0)
second_ran =
    let s0 : CellState = new_cells start second both_ways in
    let s1 : CellState = after_body max start (PutBody 0 5) s0 in
    let s2 : CellState = record s1 { phase = Closing } in
    let s3 : CellState = after_round max start Closing s2 in
    let s4 : CellState = record s3 { unsent = slice_set s3.unsent 0 false } in
    let s5 : CellState = after_body max start (Refresh 0 0) s4 in
    let s6 : CellState = after_round max start Refreshing s5 in (
      s1,
      refl,
      (
        s2,
        (refl, refl),
        (
          s3,
          (inr (nothing_left s2 refl refl (λ e. absurd (closing_is_other e))), refl),
          (
            s4,
            inr (inr (record { entry = 0; pending = _; refreshing = refl; there = refl; unsent = refl; rank = refl; body_is = refl; after = refl })),
            (
              s5,
              refl,
              (
                s6,
                (inr (all_sent s5 refl refl refl), refl),
                refl,
              ),
            ),
          ),
        ),
      ),
    )

ran_as : (part other : Portion) (s t : CellState) (events : List Event) → part ≡ other → s ≡ t → Run max start (new_cells start part both_ways) events s → Run max start (new_cells start other both_ways) events t
ran_as part other s t events same is run =
    subst (λ (p : Portion). Run max start (new_cells start p both_ways) events t) same (subst (λ (u : CellState). Run max start (new_cells start part both_ways) events u) is run)

ran : (r : ℕ) (part : Portion) (s : CellState) → slice_get parts r ≡ Some part → slice_get cells r ≡ Some s → Run max start (new_cells start part both_ways) (events_at runs r) s
ran zero part s at here = ran_as first part (cells_of first 0 5) s first_events (same_Some _ _ at) (same_Some _ _ here) first_ran
ran (suc zero) part s at here = ran_as second part (cells_of second 5 0) s second_events (same_Some _ _ at) (same_Some _ _ here) second_ran
ran (suc (suc r)) part s at here = absurd (none-some part at)

-- What a rank got from each other in each round is what that one sent.
delivered : (r from k : ℕ) → r < 2 → k < 2 → handled_from from (events_of k (events_at runs r)) ≡ sent_to r (events_of k (events_at runs from))
delivered zero zero zero r_is k_is = refl
delivered zero zero (suc zero) r_is k_is = refl
delivered zero (suc zero) zero r_is k_is = refl
delivered zero (suc zero) (suc zero) r_is k_is = refl
delivered (suc zero) zero zero r_is k_is = refl
delivered (suc zero) zero (suc zero) r_is k_is = refl
delivered (suc zero) (suc zero) zero r_is k_is = refl
delivered (suc zero) (suc zero) (suc zero) r_is k_is = refl
delivered zero (suc (suc n)) zero r_is k_is = refl
delivered zero (suc (suc n)) (suc zero) r_is k_is = rw (ne_eqb 1 (suc (suc n)) (λ e. omega (arith, e))) refl
delivered (suc zero) (suc (suc n)) zero r_is k_is = rw (ne_eqb 0 (suc (suc n)) (λ e. omega (arith, e))) refl
delivered (suc zero) (suc (suc n)) (suc zero) r_is k_is = rw (ne_eqb 0 (suc (suc n)) (λ e. omega (arith, e))) refl
delivered (suc (suc r)) from k r_is k_is = absurd (omega arith)
delivered zero from (suc (suc k)) r_is k_is = absurd (omega arith)
delivered (suc zero) from (suc (suc k)) r_is k_is = absurd (omega arith)

pub have_synchronized : HaveSynchronized max start both_ways parts runs cells
have_synchronized = record {
  closing = 0;
  each_run = refl;
  each_cells = refl;
  ran = ran;
  all_rounds = both (λ r. rounds (events_at runs r) ≡ 2) refl refl;
  at_end = both (λ r. ends_a_round (events_at runs r) ≡ true) refl refl;
  all_close = both (λ r. Contains (events_of 0 (events_at runs r)) closed) (2, omega arith, refl) (1, omega arith, refl);
  delivered = delivered;
}
