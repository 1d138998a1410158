-- What one rank keeps of its marks and votes while its program runs: the marks say which rounds had messages, and a
-- vote that nothing is left comes only where no arc is due but for what was handled since. The program ends once all
-- votes of a round say so.
use Rattle.std.specs.Prelude.{◌≡◌, ◌↔◌, ℕ, suc, ◌%◌, ◌<◌, Bool, true, false, Option, Some, List, [], length, slice_get}
use Rattle.pg_group.specs.declared.messages.Body.{Body}
use Rattle.pg_group.specs.declared.messages.Vote.{Vote}
use Rattle.pg_group.specs.Ranked.{IsOther, list_at}
use Rattle.pg_group.specs.Rounds.{marks, votes_of, items_of_round}
use Rattle.pg_group.specs.Rolls.{voted}
use Rattle.pg_best.specs.declared.offers.Offer.{Offer}
use Rattle.pg_best.specs.Parts.{Part, LocalArc}
use Rattle.pg_best.specs.LocalRelax.{HasItemFrom, NONE}

-- No item of the round stands on any list.
abbrev pub NoItems : Part → List (List (Body Offer)) → ℕ → Type 0
NoItems part lists k = (other : ℕ) → IsOther part.rank part.ranks other → items_of_round k (list_at lists other) ≡ []

-- The vote says that no message was sent in its round and that nothing is pending.
pub record IsQuiet (vote : Vote) : Type 0 where
  pub a : vote.a ≡ NONE
  pub b : vote.b ≡ 0

-- All votes of the round are quiet: those that were handled, and the own one, which each mark sent in that round
-- carries.
pub record AreAllQuiet (part : Part) (handled sent : List (List (Body Offer))) (k : ℕ) : Type 0 where
  pub others : (from : ℕ) (vote : Vote) → IsOther part.rank part.ranks from → slice_get (votes_of (list_at handled from)) k ≡ Some vote → IsQuiet vote
  pub mine : (to : ℕ) (vote : Vote) → IsOther part.rank part.ranks to → slice_get (votes_of (list_at sent to)) k ≡ Some vote → IsQuiet vote

-- As many lists as ranks; as many marks handled as rounds have ended, and as many sent as votes were cast. Each mark's
-- `b` is even exactly where its round has no item, and so is that of the vote that is cast, also on one rank, where no
-- list carries it. Once a quiet vote is cast, an arc is due only where an item was handled in that round or later; and
-- a program ends with the first round all of whose votes are quiet. (On one rank the own vote is sent to nobody.)
pub record Marks (part : Part) (handled sent : List (List (Body Offer))) (due : LocalArc → Bool) (round : ℕ) (cast : Option Vote) (over sends : Bool) : Type 0 where
  pub from_each : length handled ≡ part.ranks
  pub to_each : length sent ≡ part.ranks
  pub running : over ≡ false → (from : ℕ) → IsOther part.rank part.ranks from → marks (list_at handled from) ≡ round
  pub closed : over ≡ true → (from : ℕ) → IsOther part.rank part.ranks from → marks (list_at handled from) ≡ suc round
  pub given : (to : ℕ) → IsOther part.rank part.ranks to → marks (list_at sent to) ≡ voted round cast
  pub told : (vote : Vote) → cast ≡ Some vote → (to : ℕ) → IsOther part.rank part.ranks to → slice_get (votes_of (list_at sent to)) round ≡ Some vote
  pub even : (to k : ℕ) (vote : Vote) → IsOther part.rank part.ranks to → slice_get (votes_of (list_at sent to)) k ≡ Some vote → (vote.b % 2 ≡ 0) ↔ NoItems part sent k
  pub cast_even : (vote : Vote) → cast ≡ Some vote → (vote.b % 2 ≡ 0) ↔ NoItems part sent round
  pub present : (sends ≡ false) ↔ NoItems part sent round
  pub after : (vote : Vote) → cast ≡ Some vote → NoItems part sent (suc round)
  pub quiet : (vote : Vote) → cast ≡ Some vote → IsQuiet vote → (a : LocalArc) → due a ≡ true → HasItemFrom part handled round
  pub ended : over ≡ true → (from : ℕ) (vote : Vote) → IsOther part.rank part.ranks from → slice_get (votes_of (list_at handled from)) round ≡ Some vote → IsQuiet vote
  pub own : over ≡ true → (vote : Vote) × (cast ≡ Some vote) × IsQuiet vote
  pub going : 1 < part.ranks → (k : ℕ) → k < round → AreAllQuiet part handled sent k → ⊥
