-- What was found in pieces of lines, taken piece by piece up to the first fault.
use Rattle.std.proofs.Common.{◌≡◌, ℕ, ◌+◌, Some, None, Result, Ok, Err, Vec, Global, List, ◌∷◌, ◌++◌, length, refl, sym, ap, ◌∙◌, subst, arith, append_assoc, length-append}
use Rattle.std.specs.Result.{IsErrAnd}
use Rattle.pg_base.specs.Graph.{Arc}
use Rattle.pg_metis.specs.declared.faults.GraphFault.{GraphFault}
use Rattle.pg_metis.specs.declared.faults.LineFault.{LineFault}
use Rattle.pg_metis.specs.declared.pairing.NamedArc.{NamedArc}
use Rattle.pg_metis.specs.declared.parsing.PieceFault.{PieceFault}
use Rattle.pg_metis.specs.declared.parsing.PieceFault.TheVariants.{Line, OutOfMemory}
use Rattle.pg_metis.specs.declared.pieces.Pieces.{Pieces}
use Rattle.pg_metis.specs.Answers.{OnRefused}
use Rattle.pg_metis.specs.Content.{NumberedLine}
use Rattle.pg_metis.specs.Fault.{lines_fault, named_arcs}
use Rattle.pg_metis.specs.File.{Header}
use Rattle.pg_metis.specs.Pairing.{arcs_named}
use Rattle.pg_metis.specs.Parsing.{AreParsed, from_piece}
use Rattle.pg_metis.specs.Pieces.{AddsPiece, KeepsPieces}
use Rattle.pg_metis.proofs.ReadingLemmas.{arcs-split, lines-split}

-- The lines before have no fault, and their arcs were added. What was found in those that follow is left.
pub record HasAdded (header : Header) (v : ℕ) (lines : List NumberedLine) (old new : Pieces) (left : List (Result (Vec NamedArc Global) PieceFault)) : Type 0 where
  pub before : List NumberedLine
  pub after : List NumberedLine
  pub split : lines ≡ before ++ after
  pub faultless : lines_fault header v before ≡ None
  pub adds : AddsPiece old (named_arcs header.format v before) new
  pub parsed : AreParsed header left (v + length before) after

adds-on : (a b z : Pieces) (xs ys : List Arc) → AddsPiece a xs b → AddsPiece b ys z → AddsPiece a (xs ++ ys) z
adds-on a b z xs ys first second = record {
  most = second.most ∙ first.most;
  keeps = λ all keeps. subst (KeepsPieces z) (append_assoc all xs ys) (second.keeps (all ++ xs) (first.keeps all keeps));
}

-- One more piece without a fault.
pub one-added : (header : Header) (v : ℕ) (lines : List NumberedLine) (old mid new : Pieces) (arcs : Vec NamedArc Global) (left : List (Result (Vec NamedArc Global) PieceFault))
    → HasAdded header v lines old mid (Ok arcs ∷ left) → AddsPiece mid (arcs_named arcs.items) new → HasAdded header v lines old new left
one-added header v lines old mid new arcs left has added =
    let dealt = has.parsed in
    let xs = has.before in
    let ys = dealt.first in
    let here : v + length xs + length ys ≡ v + length (xs ++ ys) = omega (arith, length-append xs ys) in
    record {
      before = xs ++ ys;
      after = dealt.rest;
      split = has.split ∙ ap (λ l. xs ++ l) dealt.split ∙ sym (append_assoc xs ys dealt.rest);
      faultless = lines-split header v xs ys ∙ rw (has.faultless) dealt.found.0;
      adds = subst (λ (l : List Arc). AddsPiece old l new) (sym (arcs-split header.format v xs ys))
          (adds-on old mid new (named_arcs header.format v xs) (named_arcs header.format (v + length xs) ys) has.adds (subst (λ (l : List Arc). AddsPiece mid l new) dealt.found.1 added));
      parsed = subst (λ n. AreParsed header left n dealt.rest) here dealt.others;
    }

-- The first piece with a fault has the first fault of all lines.
pub fault-found : (header : Header) (v : ℕ) (lines : List NumberedLine) (old new : Pieces) (fault : LineFault) (left : List (Result (Vec NamedArc Global) PieceFault))
    → HasAdded header v lines old new (Err (Line fault) ∷ left) → lines_fault header v lines ≡ Some (record { line = fault.line; kind = fault.kind })
fault-found header v lines old new fault left has =
    let dealt = has.parsed in
    let xs = has.before in
    let ys = dealt.first in
    let later : lines_fault header (v + length xs) (ys ++ dealt.rest) ≡ Some (record { line = fault.line; kind = fault.kind }) = lines-split header (v + length xs) ys dealt.rest ∙ rw (dealt.found) refl in
    ap (lines_fault header v) (has.split ∙ ap (λ l. xs ++ l) dealt.split) ∙ lines-split header v xs (ys ++ dealt.rest) ∙ rw (has.faultless) later

pub piece-refused : {A : Type 0} (result : Result A GraphFault) (header : Header) (v : ℕ) (lines : List NumberedLine) (old new : Pieces) (fault : PieceFault) (left : List (Result (Vec NamedArc Global) PieceFault))
    → IsErrAnd result (λ gives. gives ≡ from_piece fault) → HasAdded header v lines old new (Err fault ∷ left) → OnRefused result (λ told. lines_fault header v lines ≡ Some told)
piece-refused (Ok x) header v lines old new fault left is has = absurd is
piece-refused (Err gives) header v lines old new (Line fault) left is has = rw is (fault-found header v lines old new fault left has)
piece-refused (Err gives) header v lines old new OutOfMemory left is has = rw is tt
