use Rattle.std.proofs.Common.{◌≡◌, ◌+◌, ◌<◌, None, length, map, take, All}
use Rattle.pg_metis.specs.Arcs.{Adds}
use Rattle.pg_metis.specs.Batches.{line_of}
use Rattle.pg_metis.specs.Fault.{lines_fault, named_arcs}
use Rattle.pg_metis.specs.Headers.{header_in}
use Rattle.pg_metis.proofs.parsing.take_rows.Given as goal

-- The first k lines were taken.
abbrev pub invariant-loop-k : goal.invariant-loop-k
invariant-loop-k l = record {
  faultless : lines_fault (header_in l.fn.header) l.fn.first (map (line_of l.fn.bytes) (take l.k l.fn.lines)) ≡ None;
  adds : Adds l.fn.arcs (named_arcs (header_in l.fn.header).format l.fn.first (map (line_of l.fn.bytes) (take l.k l.fn.lines))) l.arcs;
  size : length l.stamps ≡ l.fn.header.n;
  stamps : All (λ stamp. stamp < l.fn.first + l.k) l.stamps;
}
