-- What the colours of a whole run are.
use Rattle.std.proofs.Common.{◌≡◌, ℕ, zero, suc, ◌+◌, ◌*◌, ◌<◌, ◌≤◌, List, [], ◌∷◌, Some, length, slice_get, sym, ◌∙◌, ap, subst, arith, refl, All}
use Rattle.std.specs.Prelude.{◌||◌, ◌==◌}
use Rattle.std.specs.List.{range_with_len}
use Rattle.std.proofs.lemmas.Bool.{cases_lt}
use Rattle.std.proofs.lemmas.Option.{same_Some, slice_get_within}
use Rattle.std.proofs.lemmas.List.FromFn.{length-range_with_len}
use Rattle.std.proofs.lemmas.List.Sums.{count_by-le-length}
use Rattle.pg_base.specs.declared.edges.Edge.{Edge}
use Rattle.pg_base.specs.Graph.{Graph}
use Rattle.pg_base.specs.Colouring.{IsProper, IsFirstFit}
use Rattle.pg_dist.specs.Sharing.{Sharing}
use Rattle.pg_group.specs.declared.messages.Body.{Body}
use Rattle.pg_group.specs.Book.{PairLists}
use Rattle.pg_group.specs.Ranked.{IsOther, list_at}
use Rattle.pg_group.specs.Rounds.{items_of_round}
use Rattle.pg_adj.specs.declared.arcs.Ghost.{Ghost}
use Rattle.pg_adj.specs.Portions.{Portion}
use Rattle.pg_cells.specs.declared.bodies.CellBody.{CellBody}
use Rattle.pg_proper.specs.Runs.{Run}
use Rattle.pg_proper.proofs.Rounds.{end_is_proper}
use Rattle.pg_proper.proofs.FirstFit.{one_rank_is_first_fit}
use Rattle.pg_colour.specs.declared.TheConstants.{NO_COLOUR}
use Rattle.pg_colour.specs.Refreshed.{IsRefreshFrom, AreSound, values_for, seen_after}
use Rattle.pg_colour.specs.LocalColour.{State, History}
use Rattle.pg_colour.specs.Whole.{HasEndedOver, IsWholeRun, IsRunOf, AreHistories, AreFresh, colour_of, WholeEndsTogether, WholeIsSound, WholeIsFresh, WholeSeesOwners, WholeIsRun, WholeIsColoured, WholeIsProper, OneRankIsFirstFit}
use Rattle.pg_colour.proofs.Neighbours.{rank_below, ghost_is}
use Rattle.pg_colour.proofs.Kept.{Kept, turned, part_by, history_by, handled_by, promised_by, is_kept, are_histories, handled_is_taken}
use Rattle.pg_colour.proofs.Arrived as arrived
use Rattle.pg_colour.proofs.Rules as run

module _ (s : Sharing) (g : Graph) (parts : List Portion) (states : ℕ → State) (sent : PairLists CellBody)
    (part : ℕ → Portion) (history : ℕ → History) (handled promised : ℕ → List (List (Body CellBody))) (k : Kept s g parts states sent part history handled promised) where
  abbrev end : ℕ
  end = arrived.last s g parts states sent part history handled promised k

  round_end : (r : ℕ) → r < s.ranks → (states r).round ≡ 2 * end
  round_end r h = arrived.round_is s g parts states sent part history handled promised k r h

  part_is : (r : ℕ) (p : Portion) → slice_get parts r ≡ Some p → part r ≡ p
  part_is r p at =
      let h = rank_below s g parts k.sharing k.graph k.vertices k.divided r p at in
      same_Some (part r) p (sym (k.there r h) ∙ at)

  module _ (q slot : ℕ) (p : Portion) (x : Ghost) (at : slice_get parts q ≡ Some p) (there : slice_get p.ghosts slot ≡ Some x) where
    h : q < s.ranks
    h = rank_below s g parts k.sharing k.graph k.vertices k.divided q p at

    held : slice_get (part q).ghosts slot ≡ Some x
    held = subst (λ (y : Portion). slice_get y.ghosts slot ≡ Some x) (sym (part_is q p at)) there

    fresh : (j : ℕ) → 2 * j + 1 < (states 0).round → values_for slot (items_of_round (2 * j + 1) (sent x.home.0 q)) ≡ (history x.home.0).own j x.place ∷ []
    fresh j less =
        let first = round_end 0 (omega (arith, h)) in
        let home = arrived.home_below s g parts states sent part history handled promised k q slot x h held in
        let other = arrived.home_other s g parts states sent part history handled promised k q slot x h held in
        ap (λ (list : List (Body CellBody)). values_for slot (items_of_round (2 * j + 1) list)) (sym (k.was_sent x.home.0 q home (turned s.ranks q x.home.0 h other)))
        ∙ arrived.values_sent s g parts states sent part history handled promised k q slot x h held j (omega (arith, first, less))

    seen_at : (n : ℕ) → end ≡ n → seen_after (part q) (handled q) (2 * end) slot ≡ (states x.home.0).own x.place
    seen_at zero is =
        let home = arrived.home_below s g parts states sent part history handled promised k q slot x h held in
        let place = arrived.place_there s g parts states sent part history handled promised k q slot x h held in
        let inside = slice_get_within (part x.home.0).vertices x.place place.0 place.1 in
        let none = arrived.nothing_left s g parts states sent part history handled promised k x.home.0 home in
        let begins = (arrived.colours s g parts states sent part history handled promised k x.home.0 home).passes.begins in
        let empty : range_with_len 0 (length (part x.home.0).vertices) ≡ [] = sym begins ∙ (ap (history x.home.0).list (sym is) ∙ none) in
        absurd (omega (arith, inside, ap length empty, length-range_with_len 0 (length (part x.home.0).vertices)))
    seen_at (suc j) is =
        let home = arrived.home_below s g parts states sent part history handled promised k q slot x h held in
        let round : 2 * end ≡ 2 * j + 2 = omega (arith, is) in
        ap (λ (n : ℕ). seen_after (part q) (handled q) n slot) round
        ∙ (arrived.seen_is s g parts states sent part history handled promised k q slot x h held j (omega (arith, is))
        ∙ sym (run.cell_stays s g parts states sent part history handled promised k x.home.0 x.place j home is))

    sees : (states q).seen slot ≡ (states x.home.0).own x.place
    sees =
        let is = arrived.colours s g parts states sent part history handled promised k q h in
        let round : (states q).round + 2 ≡ 2 * end + 2 = omega (arith, round_end q h) in
        is.present.seen slot (slice_get_within (part q).ghosts slot x held)
        ∙ (ap (λ (n : ℕ). seen_after (part q) (handled q) n slot) round
        ∙ (arrived.seen_end s g parts states sent part history handled promised k q slot x h held ∙ seen_at end refl))

  proper : IsProper g (colour_of s states)
  unfolding run.the_run
  proper = end_is_proper (run.the_run s g parts states sent part history handled promised k) end (colour_of s states)
      (run.rules s g parts states sent part history handled promised k) (run.has_ended s g parts states sent part history handled promised k) (run.answer s g parts states sent part history handled promised k)

  coloured : (v : ℕ) → 1 ≤ v → v ≤ g.n → colour_of s states v < NO_COLOUR
  coloured v low high =
      let few = count_by-le-length (λ (e : Edge). e.u == v || e.v == v) g.edges in
      omega (arith, proper.bounded v low high, few, k.graph.size)

  first_fit : s.ranks ≡ 1 → IsFirstFit g (colour_of s states)
  unfolding run.the_run
  first_fit one = one_rank_is_first_fit (run.the_run s g parts states sent part history handled promised k) end (colour_of s states)
      (run.rules s g parts states sent part history handled promised k) one (run.answer s g parts states sent part history handled promised k)

module _ (s : Sharing) (g : Graph) (parts : List Portion) (states : ℕ → State) (sent taken : PairLists CellBody) (is : IsWholeRun s g parts states sent taken)
    (histories : ℕ → History) (are : AreHistories s parts states sent taken histories) where
  abbrev part_of : ℕ → Portion
  part_of r = part_by s g parts states sent taken is r (cases_lt r s.ranks)

  abbrev handled_of : ℕ → List (List (Body CellBody))
  handled_of r = handled_by s g parts states sent taken is histories are r (cases_lt r s.ranks)

  abbrev promised_of : ℕ → List (List (Body CellBody))
  promised_of r = promised_by s g parts states sent taken is histories are r (cases_lt r s.ranks)

  all_kept : Kept s g parts states sent part_of histories handled_of promised_of
  all_kept = is_kept s g parts states sent taken is histories are

  all_together : (q r : ℕ) → q < s.ranks → r < s.ranks → (states q).round ≡ (states r).round
  all_together q r h l = all_kept.same_round q h ∙ sym (all_kept.same_round r l)

  -- What was taken is sound, by whichever lists a rank kept its promise.
  all_sound : (r : ℕ) (p : Portion) → slice_get parts r ≡ Some p → (kept : HasEndedOver s.ranks r sent taken p (states r)) → AreSound p kept.handled
  all_sound r p at kept =
      let h = rank_below s g parts is.sharing is.graph is.vertices is.divided r p at in
      let same : part_of r ≡ p = part_is s g parts states sent part_of histories handled_of promised_of all_kept r p at in
      let sound : AreSound p (handled_of r) =
      subst (λ (x : Portion). AreSound x (handled_of r)) same (arrived.sound s g parts states sent part_of histories handled_of promised_of all_kept r h) in
      let lists : (from : ℕ) → IsOther p.rank p.ranks from → list_at (handled_of r) from ≡ list_at kept.handled from = λ from other.
      let o : IsOther r s.ranks from = all_kept.back r from h (subst (λ (x : Portion). IsOther x.rank x.ranks from) (sym same) other) in
      handled_is_taken s g parts states sent taken is histories are r from h o ∙ sym (kept.handled_is from o) in
      record {
        even = λ from j other. ap (items_of_round (2 * j)) (sym (lists from other)) ∙ sound.even from j other;
        odd = λ from j other. subst (λ (list : List (Body CellBody)). All (IsRefreshFrom p from) (items_of_round (2 * j + 1) list)) (lists from other) (sound.odd from j other);
      }

  all_fresh : (r j : ℕ) → r < s.ranks → 2 * j + 1 < (states r).round → AreFresh parts histories sent j
  all_fresh r j h less rank slot p x at there =
      fresh s g parts states sent part_of histories handled_of promised_of all_kept rank slot p x at there j (omega (arith, less, all_kept.same_round r h))

  all_see : (rank slot : ℕ) (p : Portion) (x : Ghost) → slice_get parts rank ≡ Some p → slice_get p.ghosts slot ≡ Some x → (states rank).seen slot ≡ colour_of s states x.vertex.0
  all_see rank slot p x at there =
      let remote = ghost_is s g parts is.sharing is.graph is.vertices is.divided rank p at slot x there in
      sees s g parts states sent part_of histories handled_of promised_of all_kept rank slot p x at there
      ∙ (λ i. (states (remote.home i)).own (remote.place i))

  run_of : (the : Run) × (last : ℕ) × IsRunOf s g parts states histories the last
  run_of = (
    run.the_run s g parts states sent part_of histories handled_of promised_of all_kept,
    arrived.last s g parts states sent part_of histories handled_of promised_of all_kept,
    run.is_run_of s g parts states sent part_of histories handled_of promised_of all_kept,
  )

  all_coloured : (v : ℕ) → 1 ≤ v → v ≤ g.n → colour_of s states v < NO_COLOUR
  all_coloured = coloured s g parts states sent part_of histories handled_of promised_of all_kept

  all_proper : IsProper g (colour_of s states)
  all_proper = proper s g parts states sent part_of histories handled_of promised_of all_kept

  fits_first : s.ranks ≡ 1 → IsFirstFit g (colour_of s states)
  fits_first = first_fit s g parts states sent part_of histories handled_of promised_of all_kept

-- The histories of the promises that the run has.
abbrev some_histories : (s : Sharing) (g : Graph) (parts : List Portion) (states : ℕ → State) (sent taken : PairLists CellBody) → IsWholeRun s g parts states sent taken → ℕ → History
some_histories s g parts states sent taken is r = history_by s g parts states sent taken is r (cases_lt r s.ranks)

pub whole_ends_together : WholeEndsTogether
whole_ends_together s g parts states sent taken is =
    all_together s g parts states sent taken is (some_histories s g parts states sent taken is) (are_histories s g parts states sent taken is)

pub whole_is_sound : WholeIsSound
whole_is_sound s g parts states sent taken is =
    all_sound s g parts states sent taken is (some_histories s g parts states sent taken is) (are_histories s g parts states sent taken is)

pub whole_is_fresh : WholeIsFresh
whole_is_fresh s g parts states sent taken is histories are = all_fresh s g parts states sent taken is histories are

pub whole_sees_owners : WholeSeesOwners
whole_sees_owners s g parts states sent taken is =
    all_see s g parts states sent taken is (some_histories s g parts states sent taken is) (are_histories s g parts states sent taken is)

pub whole_is_run : WholeIsRun
whole_is_run s g parts states sent taken is histories are = run_of s g parts states sent taken is histories are

pub whole_is_coloured : WholeIsColoured
whole_is_coloured s g parts states sent taken is =
    all_coloured s g parts states sent taken is (some_histories s g parts states sent taken is) (are_histories s g parts states sent taken is)

pub whole_is_proper : WholeIsProper
whole_is_proper s g parts states sent taken is =
    all_proper s g parts states sent taken is (some_histories s g parts states sent taken is) (are_histories s g parts states sent taken is)

pub one_rank_fits_first : OneRankIsFirstFit
one_rank_fits_first s g parts states sent taken is =
    fits_first s g parts states sent taken is (some_histories s g parts states sent taken is) (are_histories s g parts states sent taken is)
