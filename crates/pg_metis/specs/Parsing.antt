-- What was found in pieces of lines that were looked at side by side.
use Rattle.std.specs.Prelude.{◌≡◌, ℕ, ◌+◌, ⊤, Result, Ok, Err, Some, None, Vec, List, [], ◌∷◌, ◌++◌, length}
use Rattle.std.specs.declared.alloc.Global.{Global}
use Rattle.pg_metis.specs.declared.faults.GraphFault.{GraphFault}
use Rattle.pg_metis.specs.declared.faults.GraphFault.TheVariants.{Refused}
use Rattle.pg_metis.specs.declared.faults.GraphFault.TheVariants as graph
use Rattle.pg_metis.specs.declared.pairing.NamedArc.{NamedArc}
use Rattle.pg_metis.specs.declared.parsing.PieceFault.{PieceFault}
use Rattle.pg_metis.specs.declared.parsing.PieceFault.TheVariants.{Line, OutOfMemory}
use Rattle.pg_metis.specs.Content.{NumberedLine}
use Rattle.pg_metis.specs.Fault.{lines_fault, named_arcs}
use Rattle.pg_metis.specs.File.{Header}
use Rattle.pg_metis.specs.Pairing.{arcs_named}

-- What the lines of the vertices from v on name where none has a fault, or the first fault of them.
abbrev pub IsParsed : Header → ℕ → List NumberedLine → Result (Vec NamedArc Global) PieceFault → Type 0
IsParsed header v lines (Ok arcs) = (lines_fault header v lines ≡ None) × (arcs_named arcs.items ≡ named_arcs header.format v lines)
IsParsed header v lines (Err (Line fault)) = lines_fault header v lines ≡ Some (record { line = fault.line; kind = fault.kind })
IsParsed header v lines (Err OutOfMemory) = ⊤

-- What was found in the first of these lines, and what in those that follow it.
pub record IsDealt (here : List NumberedLine → Type 0) (later : ℕ → List NumberedLine → Type 0) (v : ℕ) (lines : List NumberedLine) : Type 0 where
  pub first : List NumberedLine
  pub rest : List NumberedLine
  pub split : lines ≡ first ++ rest
  pub found : here first
  pub others : later (v + length first) rest

-- What was found in the pieces of the lines of the vertices from v on, one after another.
abbrev pub AreParsed : Header → List (Result (Vec NamedArc Global) PieceFault) → ℕ → List NumberedLine → Type 0
AreParsed header [] v lines = lines ≡ []
AreParsed header (result ∷ results) v lines = IsDealt (λ first. IsParsed header v first result) (AreParsed header results) v lines

-- What a piece's fault is to the reader of a graph.
abbrev pub from_piece : PieceFault → GraphFault
from_piece (Line fault) = Refused fault.line fault.kind
from_piece OutOfMemory = graph.OutOfMemory
