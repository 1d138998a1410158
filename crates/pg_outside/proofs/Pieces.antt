-- A read of a piece consumes what it gives.
use Rattle.std.proofs.Common.{◌≡◌, ℕ, ◌+◌, ◌-◌, ◌<◌, ◌≤◌, min, List, [], ◌++◌, length, take, drop, Option, Some, sym, ap, ◌∙◌, subst, arith}
use Rattle.std.proofs.lemmas.List.{take-append-drop, drop-drop, drop_all}
use Rattle.std.specs.Io.KnownBytes.{Consumes}
use Rattle.pg_outside.specs.declared.memory_inputs.Place.{Place}
use Rattle.pg_outside.specs.Files.{NamedBytes}
use Rattle.pg_outside.specs.NamedFiles.{bytes_at}
use Rattle.pg_outside.specs.MemoryInputs.{left_from}

-- A list from a place on is its next bytes and then what is left after them.
pub next_bytes : (bytes : List ℕ) (offset n : ℕ) (given : List ℕ) → given ≡ take n (drop offset bytes) → drop offset bytes ≡ given ++ drop (offset + n) bytes
next_bytes bytes offset n given is =
    sym (take-append-drop n (drop offset bytes))
    ∙ ap (λ (xs : List ℕ). xs ++ drop n (drop offset bytes)) (sym is)
    ∙ ap (λ (xs : List ℕ). given ++ xs) (drop-drop n offset bytes)

-- A piece of no bytes, where there was room for one, was read at the end.
pub end_by_none : (bytes : List ℕ) (offset piece room n : ℕ) → 1 ≤ piece → n ≡ min piece (min room (length bytes - offset)) → n ≡ 0 → 0 < room → drop (offset + n) bytes ≡ []
end_by_none bytes offset piece room n gives amount none some = drop_all (offset + n) bytes (omega arith)

pub consumes_piece : (files : List NamedBytes) (begun : Option Place) (place : Place) (n : ℕ) (given : List ℕ) → begun ≡ Some place → given ≡ take n (drop place.offset (bytes_at files place.file)) → Consumes (left_from files begun) (Some (drop (place.offset + n) (bytes_at files place.file))) given
consumes_piece files begun place n given is front =
    subst (λ (b : Option Place). Consumes (left_from files b) (Some (drop (place.offset + n) (bytes_at files place.file))) given) (sym is)
    (next_bytes (bytes_at files place.file) place.offset n given front)
