-- An edge's weight and index in one number, and back.
use Rattle.std.specs.Prelude.{◌≡◌, ℕ, ◌+◌, ◌*◌, ◌/◌, ◌%◌, ◌<◌}
use Rattle.pg_base.specs.declared.TheConstants.{MAX_EDGES}

-- The number gives back the index and the weight.
abbrev pub KeysGiveBack : Type 0
KeysGiveBack = (weight index : ℕ) → index < MAX_EDGES → ((weight * MAX_EDGES + index) % MAX_EDGES ≡ index) × ((weight * MAX_EDGES + index) / MAX_EDGES ≡ weight)
