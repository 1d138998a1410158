-- The code's headers as the headers of graph files.
use Rattle.std.specs.Prelude.{◌≡◌, ℕ, List}
use Rattle.pg_metis.specs.declared.headers.Format.{Format as FormatFields}
use Rattle.pg_metis.specs.declared.headers.Header.{Header as HeaderFields}
use Rattle.pg_metis.specs.declared.headers.Marks.{Marks as MarksFields}
use Rattle.pg_metis.specs.File.{Format, Header, Marks, header_of}
use Rattle.pg_metis.specs.Fault.{header_fault}

abbrev pub marks_in : MarksFields → Marks
marks_in marks = record { sizes = marks.sizes; vertices = marks.vertices; edges = marks.edges }

abbrev pub format_in : FormatFields → Format
format_in format = record { sizes = format.sizes; vertex_weights = format.vertex_weights; edge_weights = format.edge_weights }

abbrev pub header_in : HeaderFields → Header
header_in header = record { n = header.n; m = header.m; format = format_in header.format }

-- Words that give the same header and have the same fault.
pub record AreOneHeader (words others : List (List ℕ)) : Type 0 where
  pub header : header_of words ≡ header_of others
  pub fault : header_fault words ≡ header_fault others
