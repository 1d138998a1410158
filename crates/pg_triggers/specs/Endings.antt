-- Programs whose votes decide which round is the last, and the members of a program that has ended on all ranks.
use Rattle.std.specs.Prelude.{◌≡◌, ◌≤◌, ◌<◌, ℕ, suc, Bool, true, List, length, slice_get, nat_eq}
use Rattle.pg_group.specs.declared.messages.Body.{Body}
use Rattle.pg_group.specs.declared.messages.Vote.{Vote}
use Rattle.pg_group.specs.declared.programs.Program.{Ghosts as ProgramGhosts}
use Rattle.pg_group.specs.Ranked.{IsOther, list_at}
use Rattle.pg_group.specs.Rounds.{votes_of}
use Rattle.pg_group.specs.Book.{PairLists, IsWhole, IsMarked, HasEnded}

-- The votes of round k by rank: another rank's is the mark k that was handled from it, the own one the mark k that was
-- sent to each of them.
pub record AreVotes {B : Type 0} (own size k : ℕ) (handled sent : List (List (Body B))) (votes : List Vote) : Type 0 where
  pub each : length votes ≡ size
  pub others : (rank : ℕ) → IsOther own size rank → slice_get (votes_of (list_at handled rank)) k ≡ slice_get votes rank
  pub mine : (rank : ℕ) → IsOther own size rank → slice_get (votes_of (list_at sent rank)) k ≡ slice_get votes own

module _ {P B : Type 0} (p : ProgramGhosts P B) where
  -- A program that began so stops by a rule over the round's number and the votes: the rule holds for the round with
  -- which it has ended, and for no earlier one. (On one rank the own vote is sent to nobody.)
  abbrev pub StopsBy : (ℕ → List Vote → Bool) → P → Type 0
  StopsBy rule start = (handled sent : List (List (Body B))) (now : P) → p.Keeps start handled sent now → p.ended now ≡ true → 1 < p.size now
      → (k : ℕ) (votes : List Vote) → k ≤ p.round now → AreVotes (p.own now) (p.size now) k handled sent votes → rule k votes ≡ nat_eq k (p.round now)

-- A member of a program that has ended, of any one rank, has ended with the same round as that of any other rank of
-- the group, where both stop by one rule.
module _ {P B Q X : Type 0} (p : ProgramGhosts P B) (q : ProgramGhosts Q X) (member : P → Q) where
  abbrev pub EndsAlike : P → Type 0
  EndsAlike now = (ranks rank other : ℕ) (sent taken : PairLists B) (start other_start other_now : P) (rule : ℕ → List Vote → Bool) → IsWhole ranks sent taken → IsMarked ranks sent
      → IsOther rank ranks other → HasEnded p ranks rank sent taken start now → HasEnded p ranks other sent taken other_start other_now
      → StopsBy q rule (member start) → StopsBy q rule (member other_start) → q.round (member now) ≡ q.round (member other_now)

  module _ (part : ℕ → PairLists B → PairLists X) where
    -- What the members of a whole group have: on every rank the member has ended with one round, and kept its promise
    -- over its part of the lists up to that round, which are whole and have a mark for each of its rounds.
    pub record HaveBook (ranks : ℕ) (sent taken : PairLists B) (start now : ℕ → P) : Type 0 where
      pub last : ℕ
      pub whole : IsWhole ranks (part last sent) (part last taken)
      pub marked : IsMarked ranks (part last sent)
      pub counted : marked.rounds ≡ suc last
      pub ended : (rank : ℕ) → rank < ranks → HasEnded q ranks rank (part last sent) (part last taken) (member (start rank)) (member (now rank))
      pub same_round : (rank : ℕ) → rank < ranks → q.round (member (now rank)) ≡ last

    -- Where the programs of all ranks have ended over a whole book, so have their members that stop by one rule.
    abbrev pub GivesBook : Type 0
    GivesBook = (ranks : ℕ) (sent taken : PairLists B) (start now : ℕ → P) (rule : ℕ → List Vote → Bool) → IsWhole ranks sent taken → IsMarked ranks sent
        → ((rank : ℕ) → rank < ranks → HasEnded p ranks rank sent taken (start rank) (now rank))
        → ((rank : ℕ) → rank < ranks → StopsBy q rule (member (start rank))) → HaveBook ranks sent taken start now
