-- A roll: in each round a rank sends its number once to every other rank, and it counts what it gets.
use Rattle.std.specs.Prelude.{◌≡◌, ℕ, ◌+◌, ◌%◌, ◌^◌, ◌<◌, true, false, not, List, [], ◌∷◌, Option, Some, None, length, sum_by, count_by, nat_lt, if◌then◌else◌}
use Rattle.pg_group.specs.declared.messages.Body.{Body}
use Rattle.pg_group.specs.declared.messages.Body.TheVariants.{Item}
use Rattle.pg_group.specs.declared.messages.Vote.{Vote}
use Rattle.pg_group.specs.declared.rolls.Roll.{Roll}
use Rattle.pg_group.specs.Ranked.{IsOther, list_at, append_at}
use Rattle.pg_group.specs.Rounds.{is_mark, marks, items_of_round}

-- a vote of zeros
pub record IsZeros (vote : Vote) : Type 0 where
  pub a : vote.a ≡ 0
  pub b : vote.b ≡ 0
  pub c : vote.c ≡ 0
  pub d : vote.d ≡ 0

-- how many rounds it has
abbrev pub rounds_of : Roll → ℕ
rounds_of roll = roll.rounds

-- how many messages it has taken, modulo 2^64
abbrev pub taken_by : Roll → ℕ
taken_by roll = roll.taken

-- A roll of which nothing was called yet.
pub record IsNewRoll (roll : Roll) : Type 0 where
  pub round : roll.round ≡ 0
  pub next : roll.next ≡ 0
  pub taken : roll.taken ≡ 0
  pub idle : roll.idle ≡ false
  pub cast : roll.cast ≡ None
  pub ended : roll.ended ≡ false

-- every other rank was sent the number in this round
abbrev pub SentToAll : Roll → Type 0
SentToAll roll = (to : ℕ) → IsOther roll.rank.0 roll.ranks to → to < roll.next

-- one message was sent: the number, to one other rank
abbrev pub SentOne : Roll → List (List (Body ℕ)) → List (List (Body ℕ)) → Type 0
SentOne roll sent more_sent = (to : ℕ) × IsOther roll.rank.0 roll.ranks to × (more_sent ≡ append_at sent to (Item roll.rank.0))

-- a number was counted: all else is the same
pub record CountedOne (old new : Roll) : Type 0 where
  pub rank : new.rank ≡ old.rank
  pub ranks : new.ranks ≡ old.ranks
  pub rounds : new.rounds ≡ old.rounds
  pub round : new.round ≡ old.round
  pub next : new.next ≡ old.next
  pub taken : new.taken ≡ (old.taken + 1) % 2 ^ 64
  pub idle : new.idle ≡ old.idle
  pub cast : new.cast ≡ old.cast
  pub ended : new.ended ≡ old.ended

-- no item was done: all but whether it is idle is the same
pub record DidNoItem (old new : Roll) : Type 0 where
  pub rank : new.rank ≡ old.rank
  pub ranks : new.ranks ≡ old.ranks
  pub rounds : new.rounds ≡ old.rounds
  pub round : new.round ≡ old.round
  pub next : new.next ≡ old.next
  pub taken : new.taken ≡ old.taken
  pub cast : new.cast ≡ old.cast
  pub ended : new.ended ≡ old.ended

-- how many rounds have a vote, by the present round and its vote
abbrev pub voted : ℕ → Option Vote → ℕ
voted round None = round
voted round (Some vote) = round + 1

-- What was sent to one rank: each finished round has the number once, and the present round has these items.
pub record IsRolled (number finished : ℕ) (now : List ℕ) (sent : List (Body ℕ)) : Type 0 where
  pub rounds : marks sent ≡ finished
  pub once : (k : ℕ) → k < finished → items_of_round k sent ≡ number ∷ []
  pub present : items_of_round finished sent ≡ now

-- the number once, if it was sent to this rank since the last vote
abbrev pub since_vote : Roll → ℕ → List ℕ
since_vote roll to = if nat_lt to roll.next then roll.rank.0 ∷ [] else []

-- how many items a list has
abbrev pub items : List (Body ℕ) → ℕ
items list = count_by (λ body. not (is_mark body)) list

-- how many items the lists have together
abbrev pub items_in : List (List (Body ℕ)) → ℕ
items_in lists = sum_by items lists

-- What a roll keeps of a run: it sends its number once in each round to each other rank, and counts the handled items
-- modulo 2^64.
pub record HasRolled (start : Roll) (handled sent : List (List (Body ℕ))) (roll : Roll) : Type 0 where
  pub same_rank : roll.rank ≡ start.rank
  pub same_ranks : roll.ranks ≡ start.ranks
  pub same_rounds : roll.rounds ≡ start.rounds
  pub from_each : length handled ≡ roll.ranks
  pub to_each : length sent ≡ roll.ranks
  pub rolled : (to : ℕ) → IsOther roll.rank.0 roll.ranks to → IsRolled roll.rank.0 (voted roll.round roll.cast) (since_vote roll to) (list_at sent to)
  pub counted : roll.taken ≡ items_in handled % 2 ^ 64
  pub last : roll.ended ≡ true → voted roll.round roll.cast ≡ roll.rounds
