-- What each step of the reader of a graph file has taken and what it found.
use Rattle.std.specs.Prelude.{◌≡◌, ℕ, ◌+◌, ◌*◌, ◌<◌, Option, Some, None, List, [], ◌∷◌, ◌++◌, length, map, take, All, IfSome}
use Rattle.std.specs.Option.{option_or}
use Rattle.pg_base.specs.Graph.{Graph}
use Rattle.pg_text.specs.Text.{words}
use Rattle.pg_text.specs.Coming.{Told}
use Rattle.pg_metis.specs.declared.reading.FileLines.{FileLines}
use Rattle.pg_metis.specs.declared.reading.Rows.{Rows}
use Rattle.pg_metis.specs.Ahead.{Passes}
use Rattle.pg_metis.specs.Arcs.{Adds, Keeps}
use Rattle.pg_metis.specs.Content.{Content, NumberedLine, content_of}
use Rattle.pg_metis.specs.Fault.{Fault, arcs_or_none, at_line, body_fault, end_fault, extra_fault, header_fault, lines_fault, named_arcs, vertex_fault}
use Rattle.pg_metis.specs.File.{Header, header_of, line_arcs}
use Rattle.pg_metis.specs.Headers.{header_in}
use Rattle.pg_metis.specs.Pairing.{AreEdgesOf}

-- The header was the first line ahead.
pub record TakesHeader (header : Header) (at : ℕ) (was now : Content) : Type 0 where
  pub line : NumberedLine
  pub passes : Passes (line ∷ []) was now
  pub number : line.number ≡ at
  pub faultless : header_fault (words line.bytes) ≡ None
  pub is : header_of (words line.bytes) ≡ Some header

-- The line of v was the first line ahead, and what it says was added to what was known before.
pub record TakesRow (header : Header) (v : ℕ) (old new : Rows) (before after : Option Content) : Type 0 where
  pub line : NumberedLine
  pub told : Told before after (Passes (line ∷ []))
  pub faultless : vertex_fault header v (words line.bytes) ≡ None
  pub arcs : Adds old.arcs (arcs_or_none (line_arcs header.format v line.bytes)) new.arcs
  pub numbers : new.numbers.items ≡ old.numbers.items ++ line.number ∷ []
  pub size : length new.stamps.items ≡ length old.stamps.items
  pub stamps : All (λ stamp. stamp < v + 1) new.stamps.items

-- These are the lines of the first v vertices, and this is what they say.
pub record AreRowsOf (header : Header) (v : ℕ) (rows : Rows) (lines : List NumberedLine) : Type 0 where
  pub count : length lines ≡ v
  pub faultless : lines_fault header 1 lines ≡ None
  pub arcs : Keeps rows.arcs (named_arcs header.format 1 lines)
  pub most : rows.arcs.most ≡ 2 * header.m
  pub numbers : rows.numbers.items ≡ map (λ line. line.number) lines
  pub size : length rows.stamps.items ≡ header.n
  pub stamps : All (λ stamp. stamp < v + 1) rows.stamps.items

-- The lines of the first v vertices were taken.
pub record ReadsRows (header : Header) (v : ℕ) (rows : Rows) (before after : Option Content) : Type 0 where
  pub lines : List NumberedLine
  pub are : AreRowsOf header v rows lines
  pub told : Told before after (Passes lines)

-- What is wrong with lines of which none may have a word.
abbrev pub extra_lines_fault : List NumberedLine → Option Fault
extra_lines_fault [] = None
extra_lines_fault (line ∷ rest) = option_or (at_line line.number (extra_fault (words line.bytes))) (extra_lines_fault rest)

unfoldable pub blank_fault : Content → Option Fault
blank_fault content = option_or (extra_lines_fault content.lines) (end_fault 0 content)

-- The lines of all vertices were taken, and what followed them has no fault.
pub record ReadsBody (header : Header) (rows : Rows) (before : Option Content) : Type 0 where
  pub lines : List NumberedLine
  pub are : AreRowsOf header header.n rows lines
  pub told : IfSome before (λ was. (body_fault header 1 was ≡ None) × (take header.n was.lines ≡ lines))

-- A text whose header stands in the line of this number, and whose lines of vertices are these, without a fault in any line.
pub record HasLines (header : Header) (at : ℕ) (lines : List NumberedLine) (text : List ℕ) : Type 0 where
  pub line : NumberedLine
  pub rest : Content
  pub content : content_of text ≡ record { lines = line ∷ rest.lines; count = rest.count; overlong = rest.overlong }
  pub number : line.number ≡ at
  pub faultless : header_fault (words line.bytes) ≡ None
  pub is : header_of (words line.bytes) ≡ Some header
  pub body : body_fault header 1 rest ≡ None
  pub vertices : take header.n rest.lines ≡ lines

-- All lines of a file were taken.
pub record ReadsFile (file : FileLines) (left : Option (List ℕ)) : Type 0 where
  pub lines : List NumberedLine
  pub are : AreRowsOf (header_in file.header) file.header.n file.rows lines
  pub told : IfSome left (HasLines (header_in file.header) file.header_line lines)

-- The lines of the vertices name each edge of the graph from both ends, and as many as the header says.
pub record AreLinesOf (header : Header) (lines : List NumberedLine) (g : Graph) : Type 0 where
  pub n : g.n ≡ header.n
  pub count : length (named_arcs header.format 1 lines) ≡ 2 * header.m
  pub edges : AreEdgesOf header.n (named_arcs header.format 1 lines) g.edges
