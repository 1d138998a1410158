-- Arcs that are kept in several lists, one after another.
use Rattle.std.specs.Prelude.{◌≡◌, ◌<◌, ◌*◌, true, false, ℕ, None, List, ◌++◌, length, map, flat_map, Vec}
use Rattle.std.specs.declared.alloc.Global.{Global}
use Rattle.pg_base.specs.Graph.{Arc}
use Rattle.pg_metis.specs.declared.batches.PieceRows.{PieceRows}
use Rattle.pg_metis.specs.declared.pairing.NamedArc.{NamedArc}
use Rattle.pg_metis.specs.declared.pieces.Pieces.{Pieces}
use Rattle.pg_metis.specs.Content.{NumberedLine}
use Rattle.pg_metis.specs.Fault.{lines_fault, named_arcs}
use Rattle.pg_metis.specs.File.{Header}
use Rattle.pg_metis.specs.Pairing.{arcs_named}

-- The arcs of all lists, in their order.
abbrev pub arcs_in : List (Vec NamedArc Global) → List Arc
arcs_in lists = flat_map (λ list. arcs_named list.items) lists

-- All arcs are kept, or they are more than there may be.
pub record KeepsPieces (pieces : Pieces) (all : List Arc) : Type 0 where
  pub kept : pieces.more ≡ false → arcs_in pieces.lists.items ≡ all
  pub past : pieces.more ≡ true → pieces.most < length all

-- These arcs follow those that were named before.
pub record AddsPiece (old : Pieces) (named : List Arc) (new : Pieces) : Type 0 where
  pub most : new.most ≡ old.most
  pub keeps : (all : List Arc) → KeepsPieces old all → KeepsPieces new (all ++ named)

-- These are the lines of the first v vertices, and this is what they say.
pub record ArePieceRowsOf (header : Header) (v : ℕ) (rows : PieceRows) (lines : List NumberedLine) : Type 0 where
  pub count : length lines ≡ v
  pub faultless : lines_fault header 1 lines ≡ None
  pub arcs : KeepsPieces rows.pieces (named_arcs header.format 1 lines)
  pub most : rows.pieces.most ≡ 2 * header.m
  pub numbers : rows.numbers.items ≡ map (λ line. line.number) lines
