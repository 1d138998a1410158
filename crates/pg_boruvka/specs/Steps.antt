-- By which steps a rank keeps its promise while it runs.
use Rattle.std.specs.Prelude.{◌≡◌, ◌⊎◌, ◌↔◌, ℕ, ◌+◌, ◌/◌, ◌%◌, ◌<◌, true, false, Some, None, List, [], length, AllPairs, Contains}
use Rattle.pg_group.specs.declared.messages.Body.{Body}
use Rattle.pg_group.specs.declared.messages.Body.TheVariants.{Item, Mark}
use Rattle.pg_group.specs.declared.messages.Vote.{Vote}
use Rattle.pg_group.specs.Ranked.{IsOther, list_at, append_at}
use Rattle.pg_group.specs.Rolls.{IsZeros}
use Rattle.pg_group.specs.Rounds.{items_of_round}
use Rattle.pg_group.specs.Supersteps.{nothing, append_others, append_marks}
use Rattle.pg_adj.specs.Portions.{IsVertex}
use Rattle.pg_boruvka.specs.declared.messages.Message.{Message}
use Rattle.pg_boruvka.specs.Parts.{Part}
use Rattle.pg_boruvka.specs.Hooks.{label_in, AreSoundBefore}
use Rattle.pg_boruvka.specs.LocalDense.{State, IsBestKeys, IsWinners, IsOwnHook, IsChosen, NoWinner, LocalDense}

-- At first each vertex is its own label, and no edge is chosen.
abbrev pub opening : State
opening = record { round = 0; cast = None; ended = false; label = λ v. v; edges = [] }

-- So a rank begins.
abbrev pub OpeningKeeps : Type 0
OpeningKeeps = (far : ℕ) (part : Part) → LocalDense far part (nothing part.ranks) (nothing part.ranks) opening

-- To handle a message, of whatever numbers, changes nothing of what a rank shows.
abbrev pub HandlingKeeps : Type 0
HandlingKeeps = (far : ℕ) (part : Part) (handled sent : List (List (Body Message))) (s : State) (from : ℕ) (m : Message) → IsOther part.rank part.ranks from
    → LocalDense far part handled sent s → LocalDense far part (append_at handled from (Item m)) sent s

-- The message is due in this round, which is one of the phase round / 3.
abbrev pub IsDue : ℕ → Part → List (List (Body Message)) → ℕ → ℕ → Message → Type 0
IsDue far part handled round to m = ((round % 3 ≡ 0) × IsBestKeys far part handled (round / 3) to m)
    ⊎ (((round % 3 ≡ 1) × IsWinners far part handled (round / 3) m) ⊎ ((round % 3 ≡ 2) × IsOwnHook far part handled (round / 3) m))

-- To send a message that is due, and that wasn't sent to this rank in this round.
abbrev pub SendingKeeps : Type 0
SendingKeeps = (far : ℕ) (part : Part) (handled sent : List (List (Body Message))) (s : State) (to : ℕ) (m : Message) → IsOther part.rank part.ranks to → s.cast ≡ None
    → (AreSoundBefore far part handled (s.round / 3) → IsDue far part handled s.round to m)
    → (Contains (items_of_round s.round (list_at sent to)) m → ⊥)
    → LocalDense far part handled sent s → LocalDense far part handled (append_at sent to (Item m)) s

-- The state once the vote is cast.
abbrev pub with_vote : State → Vote → State
with_vote s vote = record { round = s.round; cast = Some vote; ended = s.ended; label = s.label; edges = s.edges }

-- To vote zeros once all that is due was sent.
abbrev pub VotingKeeps : Type 0
VotingKeeps = (far : ℕ) (part : Part) (handled sent : List (List (Body Message))) (s : State) (vote : Vote) → s.cast ≡ None → IsZeros vote
    → (AreSoundBefore far part handled (s.round / 3) → (to : ℕ) (m : Message) → IsOther part.rank part.ranks to → IsDue far part handled s.round to m → Contains (items_of_round s.round (list_at sent to)) m)
    → LocalDense far part handled sent s → LocalDense far part handled (append_others part.rank (Mark vote) sent) (with_vote s vote)

-- The labels are those of the phase, and the edges are those of all hooks before it.
pub record ArePhase (far : ℕ) (part : Part) (handled : List (List (Body Message))) (p : ℕ) (label : ℕ → ℕ) (edges : List ℕ) : Type 0 where
  pub labels : (v : ℕ) → IsVertex part.n v → label v ≡ label_in far part handled p v
  pub ascending : AllPairs (λ i j. i < j) edges
  pub chosen : (i : ℕ) → Contains edges i ↔ IsChosen far part handled p i

-- The state in the next round.
abbrev pub in_next_round : State → (ℕ → ℕ) → List ℕ → State
in_next_round s label edges = record { round = s.round + 1; cast = None; ended = false; label = label; edges = edges }

-- To go on to the next round, but after the second round of a phase without winners, with the labels and the edges of
-- that round's phase.
abbrev pub GoingOnKeeps : Type 0
GoingOnKeeps = (far : ℕ) (part : Part) (handled sent : List (List (Body Message))) (s : State) (votes : List Vote) (vote : Vote) (label : ℕ → ℕ) (edges : List ℕ)
    → length votes ≡ part.ranks → s.cast ≡ Some vote → s.ended ≡ false
    → (AreSoundBefore far part handled (s.round / 3) → s.round % 3 ≡ 1 → NoWinner far part handled (s.round / 3) → ⊥)
    → (AreSoundBefore far part handled ((s.round + 1) / 3) → ArePhase far part handled ((s.round + 1) / 3) label edges)
    → LocalDense far part handled sent s → LocalDense far part (append_marks part.rank votes handled) sent (in_next_round s label edges)

-- The state at the end.
abbrev pub at_end : State → State
at_end s = record { round = s.round; cast = s.cast; ended = true; label = s.label; edges = s.edges }

-- To end with the second round of a phase without winners.
abbrev pub EndingKeeps : Type 0
EndingKeeps = (far : ℕ) (part : Part) (handled sent : List (List (Body Message))) (s : State) (votes : List Vote) (vote : Vote)
    → length votes ≡ part.ranks → s.cast ≡ Some vote → s.ended ≡ false
    → (AreSoundBefore far part handled (s.round / 3) → (s.round % 3 ≡ 1) × NoWinner far part handled (s.round / 3))
    → LocalDense far part handled sent s → LocalDense far part (append_marks part.rank votes handled) sent (at_end s)
