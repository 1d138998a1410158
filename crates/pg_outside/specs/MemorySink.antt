-- What a contract sees of a sink in memory.
use Rattle.std.specs.Prelude.{ℕ, ◌-◌, List, length, vec_len}
use Rattle.pg_outside.specs.declared.fronts.Front.{Front}
use Rattle.pg_outside.specs.declared.memory_sink.MemorySink.{MemorySink}
use Rattle.pg_outside.specs.Fronts.{planned_front, front_of}

-- The text so far.
abbrev pub text_of : MemorySink → List ℕ
text_of sink = sink.text.items

-- How many bytes it takes in all.
abbrev pub room_of : MemorySink → ℕ
room_of sink = sink.room

-- The planned failures: the number of a call, and how many bytes of its piece it appends at most.
abbrev pub fails_of : MemorySink → List (ℕ × ℕ)
fails_of sink = sink.fails.items

-- The number of the next call of `write_all`.
abbrev pub call_of : MemorySink → ℕ
call_of sink = sink.call

-- How many calls failed.
abbrev pub faults_of : MemorySink → ℕ
faults_of sink = sink.faults

-- The front of these bytes that the next call appends, and whether it fails.
abbrev pub next_front : MemorySink → List ℕ → Front
next_front sink bytes = front_of (planned_front sink.call sink.fails.items) (sink.room - vec_len sink.text) (length bytes)
