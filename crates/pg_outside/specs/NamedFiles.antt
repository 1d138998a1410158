-- Files that are held as pairs of a name and its bytes.
use Rattle.std.specs.Prelude.{ℕ, zero, suc, List, [], ◌∷◌, map, String, string_bytes}
use Rattle.std.specs.Global.{Vec, Global}
use Rattle.pg_outside.specs.Files.{NamedBytes}

-- One such pair.
abbrev pub named_file : String Global × Vec ℕ → NamedBytes
named_file file = record { name = string_bytes file.0; bytes = file.1.items }

-- All of them, in their order.
abbrev pub named_files : List (String Global × Vec ℕ) → List NamedBytes
named_files files = map named_file files

-- The bytes of the file at this place.
abbrev pub bytes_at : List NamedBytes → ℕ → List ℕ
bytes_at [] place = []
bytes_at (f ∷ files) zero = f.bytes
bytes_at (f ∷ files) (suc place) = bytes_at files place
