-- What the calls of a rank of Borůvka's method do.
use Rattle.std.specs.Prelude.{◌≡◌, ◌≢◌, ◌⊎◌, ℕ, ◌+◌, ◌<◌, ◌≤◌, true, false, None, List, length, slice_index, min}
use Rattle.pg_group.specs.declared.messages.Body.{Body}
use Rattle.pg_group.specs.declared.messages.Body.TheVariants.{Item}
use Rattle.pg_group.specs.Ranked.{IsOther, append_at}
use Rattle.pg_adj.specs.Portions.{IsVertex}
use Rattle.pg_boruvka.specs.declared.TheConstants.{NO_KEY}
use Rattle.pg_boruvka.specs.declared.messages.Hook.{Hook}
use Rattle.pg_boruvka.specs.declared.messages.Piece.{Piece}
use Rattle.pg_boruvka.specs.declared.messages.Message.{Message}
use Rattle.pg_boruvka.specs.declared.messages.Message.TheVariants.{Piece as Keys, Hook as Hooked}
use Rattle.pg_boruvka.specs.declared.dense.Stage.{Stage}
use Rattle.pg_boruvka.specs.declared.dense.Stage.TheVariants as stage
use Rattle.pg_boruvka.specs.Parts.{Part}
use Rattle.pg_boruvka.specs.Winners.{first_label, labels_of, given_key}
use Rattle.pg_boruvka.specs.Hooks.{is_within}
use Rattle.pg_boruvka.specs.Lowered.{IsBetween}
use Rattle.pg_boruvka.specs.Noted.{IsNoted, AreStill}
use Rattle.pg_boruvka.specs.Known.{View, with_winners, with_hooks, with_known, passed_to}
use Rattle.pg_boruvka.specs.Shown.{IsAt, IsPassed}

-- The label belongs to this rank.
abbrev pub IsOwnLabel : Part → ℕ → Type 0
IsOwnLabel part l = IsBetween (first_label part part.rank) (first_label part part.rank + labels_of part part.rank) l

-- A piece counts for own labels in the first round of a phase, and for the other labels of the graph in the second.
abbrev pub Counts : Part → Stage → ℕ → Type 0
Counts part stage.Up l = IsOwnLabel part l
Counts part stage.Down l = IsVertex part.n l × (IsOwnLabel part l → ⊥)
Counts part stage.Hook l = ⊥

-- The winners of the labels for which the piece counts are lowered to its keys, and no other entry changes.
pub record AreMerged (v : View) (piece : Piece) (winners : List ℕ) : Type 0 where
  pub counting : (l : ℕ) → Counts v.part v.stage l → slice_index winners l ≡ min (slice_index v.known.winners l) (given_key l (Keys piece))
  pub others : (l : ℕ) → (Counts v.part v.stage l → ⊥) → slice_index winners l ≡ slice_index v.known.winners l

-- The hook is noted, where it comes in the third round of a phase and its numbers are in range. Else nothing changes.
pub record IsTaken (v : View) (h : Hook) (targets edges : List ℕ) : Type 0 where
  pub within : v.stage ≡ stage.Hook → is_within v.part h ≡ true → IsNoted h v.known.targets v.known.edges targets edges
  pub early : v.stage ≢ stage.Hook → (targets ≡ v.known.targets) × (edges ≡ v.known.edges)
  pub ignored : is_within v.part h ≡ false → (targets ≡ v.known.targets) × (edges ≡ v.known.edges)
  pub still : AreStill v.known.targets v.known.edges → AreStill targets edges

-- A piece lowers winners, and a hook is noted.
abbrev pub TookIn : View → ℕ → Message → View → Type 0
TookIn old from (Keys piece) new = (winners : List ℕ) × AreMerged old piece winners × (new ≡ with_known old (with_winners old.known winners))
TookIn old from (Hooked h) new = (targets : List ℕ) × (edges : List ℕ) × IsTaken old h targets edges × (new ≡ with_known old (with_hooks old.known targets edges))

-- All but which messages were passed is the same.
abbrev pub DidNoMessage : View → View → Type 0
DidNoMessage old new = new ≡ passed_to old new.to new.at

-- One message of this round was sent, which wasn't passed before and is passed now.
pub record SentOne (old : View) (sent : List (List (Body Message))) (new : View) (more : List (List (Body Message))) : Type 0 where
  pub to : ℕ
  pub number : ℕ
  pub message : Message
  pub other : IsOther old.part.rank old.part.ranks to
  pub unpassed : IsPassed old to number → ⊥
  pub is : IsAt old to number message
  pub passed : IsPassed new to number
  pub grew : more ≡ append_at sent to (Item message)
  pub rest : DidNoMessage old new

-- Every message of this round was passed.
abbrev pub IsAllSent : View → Type 0
IsAllSent v = (to number : ℕ) (m : Message) → IsOther v.part.rank v.part.ranks to → IsAt v to number m → IsPassed v to number

-- The next message to a rank is found from some number on, and no other one before it.
pub record IsNext (v : View) (to at number : ℕ) (m : Message) : Type 0 where
  pub from : at ≤ number
  pub small : number ≤ v.part.n
  pub is : IsAt v to number m
  pub first : (k : ℕ) (o : Message) → at ≤ k → k < number → IsAt v to k o → ⊥

abbrev pub IsNoneFrom : View → ℕ → ℕ → Type 0
IsNoneFrom v to at = (k : ℕ) (o : Message) → at ≤ k → IsAt v to k o → ⊥

-- No message that wasn't passed before was passed.
pub record IsFurther (old new : View) : Type 0 where
  pub same : DidNoMessage old new
  pub stays : (to number : ℕ) → IsPassed old to number → IsPassed new to number
  pub none : (to number : ℕ) (m : Message) → IsOther old.part.rank old.part.ranks to → IsAt old to number m → IsPassed new to number → IsPassed old to number

-- The second round of a phase without winners.
pub record IsOver (v : View) : Type 0 where
  pub second : v.stage ≡ stage.Down
  pub none : (l : ℕ) → 1 ≤ l → l < length v.known.labels → slice_index v.known.winners l ≡ NO_KEY
