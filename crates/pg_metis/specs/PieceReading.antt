-- What each step of the reader of a graph file has taken and what it found, where the lines of vertices come in batches.
use Rattle.std.specs.Prelude.{◌≡◌, ℕ, Option, None, List, take, IfSome}
use Rattle.pg_metis.specs.declared.batch_files.PieceFile.{PieceFile}
use Rattle.pg_metis.specs.declared.batches.PieceRows.{PieceRows}
use Rattle.pg_metis.specs.Content.{Content, NumberedLine}
use Rattle.pg_metis.specs.Fault.{body_fault}
use Rattle.pg_metis.specs.File.{Header}
use Rattle.pg_metis.specs.Headers.{header_in}
use Rattle.pg_metis.specs.Pieces.{ArePieceRowsOf}
use Rattle.pg_metis.specs.Reading.{HasLines}

-- The lines of all vertices were taken, and what followed them has no fault.
pub record ReadsPieceBody (header : Header) (rows : PieceRows) (before : Option Content) : Type 0 where
  pub lines : List NumberedLine
  pub are : ArePieceRowsOf header header.n rows lines
  pub told : IfSome before (λ was. (body_fault header 1 was ≡ None) × (take header.n was.lines ≡ lines))

-- All lines of a file were taken.
pub record ReadsPieceFile (file : PieceFile) (left : Option (List ℕ)) : Type 0 where
  pub lines : List NumberedLine
  pub are : ArePieceRowsOf (header_in file.header) file.header.n file.rows lines
  pub told : IfSome left (HasLines (header_in file.header) file.header_line lines)
