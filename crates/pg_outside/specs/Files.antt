-- Files by name, where a source shows them.
use Rattle.std.specs.Prelude.{◌≡◌, ℕ, Bool, true, false, Option, Some, None, List, [], ◌∷◌, ⊤}
use Rattle.std.specs.Str.{bytes_eq}

-- A name, in UTF-8, and the bytes that stand under it.
pub record NamedBytes : Type 0 where
  pub name : List ℕ
  pub bytes : List ℕ

abbrev pub contents_if : Bool → List ℕ → Option (List ℕ) → Option (List ℕ)
contents_if true bytes later = Some bytes
contents_if false bytes later = later

-- The contents of a name: those of the first file that has it.
abbrev pub contents_of : List ℕ → List NamedBytes → Option (List ℕ)
contents_of name [] = None
contents_of name (f ∷ files) = contents_if (bytes_eq f.name name) f.bytes (contents_of name files)

-- The files are known, and none has this name.
abbrev pub IsMissing : List ℕ → Option (List NamedBytes) → Type 0
IsMissing name None = ⊥
IsMissing name (Some files) = contents_of name files ≡ None

-- Where the files are known, so are the bytes left: they are the name's contents.
abbrev pub BeginsAt : List ℕ → Option (List NamedBytes) → Option (List ℕ) → Type 0
BeginsAt name None left = ⊤
BeginsAt name (Some files) None = ⊥
BeginsAt name (Some files) (Some bytes) = contents_of name files ≡ Some bytes
