-- What a rank of Borůvka's method promises.
use Rattle.std.specs.Prelude.{◌≡◌, ◌⊎◌, ℕ, ◌+◌, ◌<◌, ◌≤◌, false, Some, None, List, [], length, map, filter, slice_index, Contains}
use Rattle.pg_base.specs.declared.TheConstants.{MAX_VERTICES}
use Rattle.pg_group.specs.declared.messages.Body.{Body}
use Rattle.pg_group.specs.Ranked.{IsOther, list_at}
use Rattle.pg_group.specs.Rounds.{items_of_round}
use Rattle.pg_group.specs.Supersteps.{nothing}
use Rattle.pg_adj.specs.Portions.{IsVertex}
use Rattle.pg_boruvka.specs.declared.messages.Hook.{Hook}
use Rattle.pg_boruvka.specs.declared.messages.Message.{Message}
use Rattle.pg_boruvka.specs.declared.messages.Message.TheVariants.{Hook as Hooked}
use Rattle.pg_boruvka.specs.declared.dense.Dense.{Dense}
use Rattle.pg_boruvka.specs.declared.dense.Stage.{Stage}
use Rattle.pg_boruvka.specs.declared.dense.Stage.TheVariants as stage
use Rattle.pg_boruvka.specs.Winners.{winner, first_label, labels_of}
use Rattle.pg_boruvka.specs.Hooks.{hooks_of}
use Rattle.pg_boruvka.specs.LocalDense.{LocalDense}
use Rattle.pg_boruvka.specs.Arcs.{relabelled, is_apart, AreLeasts}
use Rattle.pg_boruvka.specs.Noted.{noted, AreStill, own_hook_at}
use Rattle.pg_boruvka.specs.Chosen.{marked}
use Rattle.pg_boruvka.specs.Numbered.{IsPieceNo}
use Rattle.pg_boruvka.specs.Known.{View, part_in, view_of, label_of, round_of, state_of}

-- The hook with this number, which is its source's.
pub record IsHookNo (v : View) (number : ℕ) (m : Message) : Type 0 where
  pub hook : Hook
  pub label : IsVertex v.part.n number
  pub own : own_hook_at v.known.keys v.known.across v.known.winners number ≡ Some hook
  pub is : m ≡ Hooked hook

-- The message with this number that a rank is sent in this stage.
abbrev pub IsIn : View → Stage → ℕ → ℕ → Message → Type 0
IsIn v stage.Up to number m = IsPieceNo (slice_index v.known.keys) (first_label v.part to) (labels_of v.part to) number m
IsIn v stage.Down to number m = IsPieceNo (slice_index v.known.winners) (first_label v.part v.part.rank) (labels_of v.part v.part.rank) number m
IsIn v stage.Hook to number m = IsHookNo v number m

-- The message with this number that a rank is sent in this round.
abbrev pub IsAt : View → ℕ → ℕ → Message → Type 0
IsAt v to number m = IsIn v v.stage to number m

-- Messages to lesser ranks come first, and to one rank those of lesser numbers.
abbrev pub IsPassed : View → ℕ → ℕ → Type 0
IsPassed v to number = (to < v.to) ⊎ ((to ≡ v.to) × (number < v.at))

-- A message that was passed.
pub record IsPassedMessage (v : View) (to : ℕ) (m : Message) : Type 0 where
  pub number : ℕ
  pub passed : IsPassed v to number
  pub is : IsAt v to number m

-- Of this round's messages just those that were passed were sent.
pub record AreSentSoFar (sent : List (List (Body Message))) (v : View) : Type 0 where
  pub due : (to : ℕ) (m : Message) → IsOther v.part.rank v.part.ranks to → Contains (items_of_round (round_of v) (list_at sent to)) m → IsPassedMessage v to m
  pub all : (to : ℕ) (m : Message) → IsOther v.part.rank v.part.ranks to → IsPassedMessage v to m → Contains (items_of_round (round_of v) (list_at sent to)) m

-- Its arcs are those of the part whose ends differ in label, between these labels, and its keys are those of the least
-- that leave a label.
pub record IsGathered (v : View) : Type 0 where
  pub arcs : v.known.arcs ≡ map (relabelled (label_of v)) (filter (is_apart (label_of v)) v.part.arcs)
  pub leasts : AreLeasts v.part.arcs (label_of v) v.known.keys v.known.across

-- The hooks that are noted are some of these, one for each label that has one.
pub record AreNotedOf (hooks : List Hook) (v : View) : Type 0 where
  pub some : (l : ℕ) (h : Hook) → l ≤ v.part.n → noted v.known.targets v.known.edges l ≡ Some h → Contains hooks h
  pub all : (h : Hook) → Contains hooks h → noted v.known.targets v.known.edges h.source ≡ None → ⊥
  pub still : AreStill v.known.targets v.known.edges

-- There is an entry for each label and one before them.
pub record AreEach (v : View) : Type 0 where
  pub labels : length v.known.labels ≡ v.part.n + 1
  pub keys : length v.known.keys ≡ v.part.n + 1
  pub across : length v.known.across ≡ v.part.n + 1
  pub winners : length v.known.winners ≡ v.part.n + 1
  pub targets : length v.known.targets ≡ v.part.n + 1
  pub edges : length v.known.edges ≡ v.part.n + 1

-- Nothing was called of it yet.
pub record IsNewView (v : View) : Type 0 where
  pub gathered : IsGathered v
  pub winners : (l : ℕ) → IsVertex v.part.n l → slice_index v.known.winners l ≡ winner v.part (nothing v.part.ranks) (label_of v) 0 l
  pub labels : (x : ℕ) → IsVertex v.part.n x → label_of v x ≡ x
  pub unchosen : marked v.known.chosen ≡ []
  pub stage : v.stage ≡ stage.Up
  pub phase : v.phase ≡ 0
  pub to : v.to ≡ 0
  pub at : v.at ≡ 0
  pub cast : v.cast ≡ None
  pub ended : v.ended ≡ false

pub record IsNewDense (d : Dense) : Type 0 where
  pub view : IsNewView (view_of d)
  pub idle : d.idle ≡ false

-- What every call keeps, over all that was handled and sent: first the law of Borůvka's method, with labels that move
-- `far` steps. The rest isn't seen from outside, but the next call needs it to keep the law. The arcs and keys are
-- those of the labels. Nothing was handled from the rank itself, and a rank has a vote cast when it ends. Until it
-- ends, the winners are those of the keys that were handled, and in the third round of a phase the noted hooks are
-- those that the phase has so far. While no vote is cast, just the messages that were passed were sent in this round.
pub record HasChosen (far : ℕ) (handled sent : List (List (Body Message))) (v : View) : Type 0 where
  pub local : LocalDense far v.part handled sent (state_of v)
  pub gathered : IsGathered v
  pub alone : list_at handled v.part.rank ≡ []
  pub running : v.cast ≡ None → v.ended ≡ false
  pub winners : v.ended ≡ false → (l : ℕ) → IsVertex v.part.n l → slice_index v.known.winners l ≡ winner v.part handled (label_of v) v.phase l
  pub hooks : v.ended ≡ false → v.stage ≡ stage.Hook → AreNotedOf (hooks_of v.part handled (label_of v) v.phase) v
  pub sent_so_far : v.cast ≡ None → AreSentSoFar sent v

-- The program still has the part with which it started, and keeps the law over it, with labels that move 1,048,576
-- steps.
pub record KeepsDense (start : Dense) (handled sent : List (List (Body Message))) (d : Dense) : Type 0 where
  pub part : part_in d ≡ part_in start
  pub chosen : HasChosen MAX_VERTICES handled sent (view_of d)
