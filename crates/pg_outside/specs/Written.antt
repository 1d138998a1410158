-- What a failed write leaves.
use Rattle.std.specs.Prelude.{ℕ, Option, List, take}
use Rattle.std.specs.Io.KnownBytes.{Appends}

-- The text, where it is known, grew by a front of these bytes.
abbrev pub AppendsFront : Option (List ℕ) → Option (List ℕ) → List ℕ → Type 0
AppendsFront old new bytes = (n : ℕ) × Appends old new (take n bytes)
