-- What a contract sees of named bytes in memory.
use Rattle.std.specs.Prelude.{ℕ, ◌==◌, Bool, Option, Some, None, List, drop, length, min, is_some}
use Rattle.std.specs.List.{list_any}
use Rattle.pg_outside.specs.Files.{NamedBytes}
use Rattle.pg_outside.specs.NamedFiles.{named_files, bytes_at}
use Rattle.pg_outside.specs.declared.memory_inputs.Place.{Place}
use Rattle.pg_outside.specs.declared.memory_inputs.MemoryInputs.{MemoryInputs}

-- The files, in their order.
abbrev pub files_of : MemoryInputs → List NamedBytes
files_of inputs = named_files inputs.files.items

-- How many bytes a read gives at most.
abbrev pub piece_of : MemoryInputs → ℕ
piece_of inputs = inputs.piece

-- The numbers of the calls that are to fail.
abbrev pub fails_of : MemoryInputs → List ℕ
fails_of inputs = inputs.fails.items

-- The number of the next call of `begin` or `read`.
abbrev pub call_of : MemoryInputs → ℕ
call_of inputs = inputs.call

-- The next call is to fail.
abbrev pub fails_next : MemoryInputs → Bool
fails_next inputs = list_any (λ number. number == inputs.call) inputs.fails.items

-- How many faults were counted.
abbrev pub faults_of : MemoryInputs → ℕ
faults_of inputs = inputs.faults

-- A name was begun.
abbrev pub is_begun : MemoryInputs → Bool
is_begun inputs = is_some inputs.begun

-- The bytes from a place on.
abbrev pub left_from : List NamedBytes → Option Place → Option (List ℕ)
left_from files None = None
left_from files (Some place) = Some (drop place.offset (bytes_at files place.file))

-- The bytes left of the name that was begun, where one was.
abbrev pub left_of : MemoryInputs → Option (List ℕ)
left_of inputs = left_from (named_files inputs.files.items) inputs.begun

-- How many bytes a read into `room` bytes gives, where these are left.
abbrev pub amount_of : ℕ → ℕ → Option (List ℕ) → ℕ
amount_of piece room None = 0
amount_of piece room (Some left) = min piece (min room (length left))
