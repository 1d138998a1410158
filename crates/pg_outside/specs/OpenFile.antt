-- The bytes left of a file that may be open, where its reader shows them.
use Rattle.std.specs.Prelude.{ℕ, Option, Some, None, List}

abbrev pub left_of : {F : Type 0} → (F → Option (List ℕ)) → Option F → Option (List ℕ)
left_of remaining None = None
left_of remaining (Some file) = remaining file
