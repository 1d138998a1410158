-- What a contract sees of a stream of the system.
use Rattle.std.specs.Prelude.{ℕ}
use Rattle.pg_outside.specs.declared.std_sink.StdSink.{StdSink}

module _ {W : Type 0} where
  -- The stream.
  abbrev pub stream_of : StdSink W → W
  stream_of sink = sink.stream

  -- How many calls failed.
  abbrev pub faults_of : StdSink W → ℕ
  faults_of sink = sink.faults
