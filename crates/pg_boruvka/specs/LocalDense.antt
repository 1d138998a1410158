-- What one rank keeps of Borůvka's method, between the lists handled and sent, by rank, and what it shows.
-- Source: Borůvka (1926); Dehne and Götz, Practical parallel algorithms for minimum spanning trees (1998).
use Rattle.std.specs.Prelude.{◌≡◌, ◌≢◌, ◌↔◌, ℕ, suc, ◌+◌, ◌*◌, ◌<◌, ◌≤◌, Bool, true, false, Option, List, [], length, All, AllPairs, Contains}
use Rattle.pg_group.specs.declared.messages.Body.{Body}
use Rattle.pg_group.specs.declared.messages.Vote.{Vote}
use Rattle.pg_group.specs.Ranked.{IsOther, list_at}
use Rattle.pg_group.specs.Rolls.{IsZeros, voted}
use Rattle.pg_group.specs.Rounds.{marks, items_of_round, votes_of}
use Rattle.pg_boruvka.specs.declared.TheConstants.{NO_KEY}
use Rattle.pg_boruvka.specs.declared.messages.Hook.{Hook}
use Rattle.pg_boruvka.specs.declared.messages.Message.{Message}
use Rattle.pg_boruvka.specs.declared.messages.Message.TheVariants.{Hook as Hooked}
use Rattle.pg_adj.specs.Portions.{IsVertex}
use Rattle.pg_boruvka.specs.Parts.{Part}
use Rattle.pg_boruvka.specs.Winners.{own_key, winner, first_label, labels_of, IsPieceOf}
use Rattle.pg_boruvka.specs.Hooks.{own_hooks, label_in, phase_hooks, AreSoundBefore}

-- What a rank shows: its present round and the vote that it cast in it, whether it has ended, its label of each vertex,
-- and the indices of the edges that it chose.
pub record State : Type 0 where
  pub round : ℕ
  pub cast : Option Vote
  pub ended : Bool
  pub label : ℕ → ℕ
  pub edges : List ℕ

-- As many lists as ranks; as many marks handled as rounds have ended, and as many sent as votes were cast, all of
-- zeros; no item is sent in a round to come.
pub record AreCounted (part : Part) (handled sent : List (List (Body Message))) (s : State) : Type 0 where
  pub from_each : length handled ≡ part.ranks
  pub to_each : length sent ≡ part.ranks
  pub running : s.ended ≡ false → (from : ℕ) → IsOther part.rank part.ranks from → marks (list_at handled from) ≡ s.round
  pub closed : s.ended ≡ true → (from : ℕ) → IsOther part.rank part.ranks from → marks (list_at handled from) ≡ suc s.round
  pub given : (to : ℕ) → IsOther part.rank part.ranks to → marks (list_at sent to) ≡ voted s.round s.cast
  pub zeros : (to : ℕ) → IsOther part.rank part.ranks to → All IsZeros (votes_of (list_at sent to))
  pub later : (to k : ℕ) → IsOther part.rank part.ranks to → s.round < k → items_of_round k (list_at sent to) ≡ []

-- The items of a round are some of those that are due, each once, and all of them once the vote is cast.
pub record AreSent (s : State) (k : ℕ) (Due : Message → Type 0) (list : List (Body Message)) : Type 0 where
  pub due : All Due (items_of_round k list)
  pub once : AllPairs (λ m o. m ≢ o) (items_of_round k list)
  pub all : k < voted s.round s.cast → (m : Message) → Due m → Contains (items_of_round k list) m

-- The message is one of these hooks.
pub record IsHookOf (hooks : List Hook) (m : Message) : Type 0 where
  pub hook : Hook
  pub among : Contains hooks hook
  pub is : m ≡ Hooked hook

-- In the first round of a phase each reducer is sent the best keys of its labels, in the second each rank is sent the
-- winners of the sender's labels, and in the third the hooks that the sender found.
abbrev pub IsBestKeys : ℕ → Part → List (List (Body Message)) → ℕ → ℕ → Message → Type 0
IsBestKeys far part handled p to m = IsPieceOf (own_key part (label_in far part handled p)) (first_label part to) (labels_of part to) m

abbrev pub IsWinners : ℕ → Part → List (List (Body Message)) → ℕ → Message → Type 0
IsWinners far part handled p m = IsPieceOf (winner part handled (label_in far part handled p) p) (first_label part part.rank) (labels_of part part.rank) m

abbrev pub IsOwnHook : ℕ → Part → List (List (Body Message)) → ℕ → Message → Type 0
IsOwnHook far part handled p m = IsHookOf (own_hooks part handled (label_in far part handled p) p) m

-- The edge with this index is a hook's in a phase before this one.
pub record IsChosen (far : ℕ) (part : Part) (handled : List (List (Body Message))) (p i : ℕ) : Type 0 where
  pub phase : ℕ
  pub before : phase < p
  pub hook : Hook
  pub among : Contains (phase_hooks far part handled phase) hook
  pub edge : hook.edge ≡ i

-- Phase p has the rounds 3p, 3p + 1 and 3p + 2.
pub record IsPresent (p round : ℕ) : Type 0 where
  pub first : 3 * p ≤ round
  pub last : round < 3 * p + 3

-- No label has a winner in the phase.
abbrev pub NoWinner : ℕ → Part → List (List (Body Message)) → ℕ → Type 0
NoWinner far part handled p = (l : ℕ) → IsVertex part.n l → winner part handled (label_in far part handled p) p l ≡ NO_KEY

-- What is sent in the three rounds of a phase. The labels are those of the present phase, and the edges those of the
-- hooks before it. A rank ends exactly with the second round of a phase without winners.
pub record IsPhase (far : ℕ) (part : Part) (handled sent : List (List (Body Message))) (s : State) (p : ℕ) : Type 0 where
  pub up : (to : ℕ) → IsOther part.rank part.ranks to → AreSent s (3 * p) (IsBestKeys far part handled p to) (list_at sent to)
  pub down : (to : ℕ) → IsOther part.rank part.ranks to → AreSent s (3 * p + 1) (IsWinners far part handled p) (list_at sent to)
  pub hooks : (to : ℕ) → IsOther part.rank part.ranks to → AreSent s (3 * p + 2) (IsOwnHook far part handled p) (list_at sent to)
  pub labels : IsPresent p s.round → (v : ℕ) → IsVertex part.n v → s.label v ≡ label_in far part handled p v
  pub ascending : IsPresent p s.round → AllPairs (λ i j. i < j) s.edges
  pub edges : IsPresent p s.round → (i : ℕ) → Contains s.edges i ↔ IsChosen far part handled p i
  pub ended : IsPresent p s.round → s.ended ≡ true → (s.round ≡ 3 * p + 1) × NoWinner far part handled p
  pub going : 3 * p + 1 < s.round → NoWinner far part handled p → ⊥

-- Of a phase nothing is said where one before it wasn't sound. Labels move `far` steps along their pointers.
pub record LocalDense (far : ℕ) (part : Part) (handled sent : List (List (Body Message))) (s : State) : Type 0 where
  pub counted : AreCounted part handled sent s
  pub phase : (p : ℕ) → AreSoundBefore far part handled p → IsPhase far part handled sent s p
