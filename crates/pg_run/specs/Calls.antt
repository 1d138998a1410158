-- Calls that give a machine its turn.
use Rattle.std.specs.Prelude.{◌≡◌, Bool}
use denote.Ref.{MutBor}
use denote.Param.Members.{Shared}
use Rattle.pg_run.specs.declared.turns.Turn.{Turn}
use Rattle.pg_run.specs.Turns.{is_done}

-- Each such call is a turn of the machine that it is lent, and answers whether that has ended.
pub record TurnsOne {T : Type 0} (Turned : T → T → Type 0) (ended : T → Bool) {F : Type 0} (calls : Shared F (MutBor T × Unit {0}) (Turn × (MutBor T × Unit {0}))) (f : F) : Type 0 where
  pub turned : (old new : MutBor T) (came : Turn) → calls.post f (old, tt) (came, (new, tt)) → Turned old.now new.now
  pub tells : (old new : MutBor T) (came : Turn) → calls.post f (old, tt) (came, (new, tt)) → is_done came ≡ ended new.now
