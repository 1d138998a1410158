-- A search for a name, file by file, and the bytes at the place that it finds.
use Rattle.std.proofs.Common.{◌≡◌, ℕ, zero, suc, ◌+◌, ◌<◌, Bool, true, Some, List, [], ◌∷◌, length, get_or, drop, refl, ap, sym, ◌∙◌, arith}
use Rattle.std.proofs.lemmas.List.{at_drop_more}
use Rattle.std.specs.Global.{Vec, Global}
use Rattle.std.specs.Prelude.{String, string_bytes}
use Rattle.std.specs.Str.{bytes_eq}
use Rattle.pg_outside.specs.Files.{contents_if, contents_of}
use Rattle.pg_outside.specs.NamedFiles.{named_files, bytes_at}

-- The bytes of the file that stands at a place.
pub bytes_at-get_or : (files : List (String Global × Vec ℕ)) (place : ℕ) (file : String Global × Vec ℕ) → place < length files → (get_or files place file).1.items ≡ bytes_at (named_files files) place
bytes_at-get_or [] place file within = absurd (omega arith)
bytes_at-get_or (f ∷ files) zero file within = refl
bytes_at-get_or (f ∷ files) (suc place) file within = bytes_at-get_or files place file (omega arith)

-- What the files from a place on have of a name: by the file there, and else by those after it.
pub contents_of-step : (name : List ℕ) (files : List (String Global × Vec ℕ)) (place : ℕ) (file : String Global × Vec ℕ) → place < length files → file ≡ get_or files place file → contents_of name (named_files (drop place files)) ≡ contents_if (bytes_eq (string_bytes file.0) name) file.1.items (contents_of name (named_files (drop (place + 1) files)))
contents_of-step name files place file within is =
    at_drop_more (λ (xs : List (String Global × Vec ℕ)). contents_of name (named_files xs)) files place file within
    ∙ ap (λ (x : String Global × Vec ℕ). contents_if (bytes_eq (string_bytes x.0) name) x.1.items (contents_of name (named_files (drop (place + 1) files)))) (sym is)

-- The name of the file at a place is the one that is looked for, and no earlier file has it.
pub found_at : (name : List ℕ) (files : List (String Global × Vec ℕ)) (place : ℕ) (file : String Global × Vec ℕ) → place < length files → file ≡ get_or files place file → contents_of name (named_files (drop place files)) ≡ contents_of name (named_files files) → bytes_eq (string_bytes file.0) name ≡ true → contents_of name (named_files files) ≡ Some (bytes_at (named_files files) place)
found_at name files place file within is left same =
    sym left ∙ contents_of-step name files place file within is
    ∙ ap (λ (b : Bool). contents_if b file.1.items (contents_of name (named_files (drop (place + 1) files)))) same
    ∙ ap (λ (x : String Global × Vec ℕ). Some x.1.items) is
    ∙ ap Some (bytes_at-get_or files place file within)
