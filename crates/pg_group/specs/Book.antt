-- A book of messages: for each sender and receiver the list of the bodies sent and the list of those taken. What holds
-- of such lists is said without lanes, so that it can be said of a part of the messages too.
-- Source: the messages of a superstep, Valiant, A bridging model for parallel computation (CACM 33(8), 1990).
use Rattle.std.specs.Prelude.{◌≡◌, ◌≤◌, ◌<◌, ℕ, true, List, [], length}
use Rattle.pg_group.specs.declared.messages.Body.{Body}
use Rattle.pg_group.specs.declared.programs.Program.{Ghosts as ProgramGhosts}
use Rattle.pg_group.specs.Ranked.{IsOther, list_at}
use Rattle.pg_group.specs.Rounds.{marks, ends_with_mark, votes_of}

-- a list of bodies for each sender and receiver
abbrev pub PairLists : Type 0 → Type 0
PairLists B = ℕ → ℕ → List (Body B)

-- a fact of each sender and each other rank as its receiver
abbrev pub EachPair : ℕ → (ℕ → ℕ → Type 0) → Type 0
EachPair ranks Q = (sender receiver : ℕ) → sender < ranks → IsOther sender ranks receiver → Q sender receiver

module _ {B : Type 0} where
  -- all that was sent was taken, and nothing else, all in order
  abbrev pub IsWhole : ℕ → PairLists B → PairLists B → Type 0
  IsWhole ranks sent taken = EachPair ranks (λ sender receiver. taken sender receiver ≡ sent sender receiver)

  -- As many marks for each sender and receiver, at least one; a mark ends each list; and a sender's marks carry the
  -- same votes to all receivers.
  pub record IsMarked (ranks : ℕ) (sent : PairLists B) : Type 0 where
    pub rounds : ℕ
    pub some_round : 1 ≤ rounds
    pub marked : EachPair ranks (λ sender receiver. marks (sent sender receiver) ≡ rounds)
    pub last : EachPair ranks (λ sender receiver. ends_with_mark (sent sender receiver) ≡ true)
    pub same_votes : EachPair ranks (λ sender receiver. (other : ℕ) → IsOther sender ranks other → votes_of (sent sender receiver) ≡ votes_of (sent sender other))

module _ {P B : Type 0} (p : ProgramGhosts P B) where
  -- The program of this rank keeps its promise from its opening state over the lists: it has handled the bodies taken
  -- from each rank and sent the bodies sent to each.
  pub record KeepsOver (ranks rank : ℕ) (sent taken : PairLists B) (start now : P) : Type 0 where
    pub own : p.own now ≡ rank
    pub size : p.size now ≡ ranks
    pub handled : List (List (Body B))
    pub promised : List (List (Body B))
    pub keeps : p.Keeps start handled promised now
    pub ranks_handled : length handled ≡ ranks
    pub ranks_sent : length promised ≡ ranks
    pub own_handled : list_at handled rank ≡ []
    pub own_sent : list_at promised rank ≡ []
    pub handled_is : (from : ℕ) → IsOther rank ranks from → list_at handled from ≡ taken from rank
    pub sent_is : (to : ℕ) → IsOther rank ranks to → list_at promised to ≡ sent rank to

  -- The program of this rank has ended, and kept its promise over the lists.
  pub record HasEnded (ranks rank : ℕ) (sent taken : PairLists B) (start now : P) : Type 0 where
    pub within : rank < ranks
    pub keeps : KeepsOver ranks rank sent taken start now
    pub ended : p.ended now ≡ true
