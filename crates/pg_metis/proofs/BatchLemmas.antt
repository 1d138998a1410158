-- From batch to batch: what is wrong with the content ahead, and what the lines of a batch tell.
use Rattle.std.proofs.Common.{◌≡◌, ◌≢◌, ◌≤◌, ◌<◌, ℕ, ◌+◌, ◌-◌, true, false, nat_lt, Option, Some, None, List, [], ◌∷◌, ◌++◌, length, map, IfSome, refl, sym, ap, ◌∙◌, subst, arith, length-append}
use Rattle.std.proofs.lemmas.Bool.Decides.{nat_tests}
use Rattle.std.proofs.lemmas.List.{length-map, map-append}
use Rattle.pg_text.specs.declared.faults.TextFault.TheVariants as text
use Rattle.pg_metis.specs.declared.batches.PieceRows.{PieceRows}
use Rattle.pg_metis.specs.declared.faults.Kind.TheVariants.{MissingLines, TooLong}
use Rattle.pg_metis.specs.declared.gathering.LineAt.{LineAt}
use Rattle.pg_metis.specs.declared.gathering.Stop.{Stop}
use Rattle.pg_metis.specs.declared.gathering.Stop.TheVariants.{Full, End, Fault as StopFault}
use Rattle.pg_metis.specs.Ahead.{Passes}
use Rattle.pg_metis.specs.Answers.{OnRefused}
use Rattle.pg_metis.specs.Batches.{Begins, ReadsPieceRows, StopsAt, TakesBatch, TakesLines, line_of, stopped}
use Rattle.pg_metis.specs.Content.{Content, NumberedLine}
use Rattle.pg_metis.specs.Fault.{Fault, body_fault, lines_fault, named_arcs}
use Rattle.pg_metis.specs.File.{Header}
use Rattle.pg_metis.specs.Pieces.{AddsPiece, ArePieceRowsOf, KeepsPieces}
use Rattle.pg_metis.proofs.ReadingLemmas.{arcs-split, body-on, fault-at, lines-split, passes-on}
use Rattle.pg_metis.proofs.ToldLemmas.{if_some-weaker, told-if, told-on}

-- Where lines that were the first ahead have a fault, it is that of all that was ahead.
pub body-bad : (header : Header) (v : ℕ) (lines : List NumberedLine) (was : Content) (fault : Fault) → Begins lines was → lines_fault header v lines ≡ Some fault → body_fault header v was ≡ Some fault
unfolding body_fault
body-bad header v lines was fault begins bad =
    let all : lines_fault header v was.lines ≡ Some fault = rw (begins.lines, lines-split header v lines begins.rest, bad) refl in
    rw all refl

-- Fewer lines than vertices were ahead, and no overlong one.
body-missing : (header : Header) (v number : ℕ) (lines : List NumberedLine) (was : Content) → length lines + v < header.n + 1 → lines_fault header v lines ≡ None → was.lines ≡ lines → was.overlong ≡ false → was.count ≡ number
    → body_fault header v was ≡ Some (record { line = number + 1; kind = MissingLines })
unfolding body_fault
body-missing header v number lines was few fine all none count =
    let some : nat_lt (length lines) (header.n + 1 - v) ≡ true = grind (arith, nat_tests) in
    rw (all, fine, none, count, some) refl

-- An overlong line was ahead behind lines without a fault.
body-long : (header : Header) (v line : ℕ) (lines : List NumberedLine) (was : Content) → lines_fault header v lines ≡ None → was.lines ≡ lines → was.overlong ≡ true → line ≡ was.count + 1
    → body_fault header v was ≡ Some (record { line = line; kind = TooLong })
unfolding body_fault
body-long header v line lines was fine all long is = rw (all, fine, long) (fault-at (was.count + 1) line TooLong (sym is))

-- What stopped the lines is what is wrong with what was ahead.
pub stop-refused : (header : Header) (v number : ℕ) (stop : Stop) (lines : List NumberedLine) (a b : Option Content) → (stop ≡ End → length lines + v < header.n + 1) → lines_fault header v lines ≡ None → StopsAt stop number lines a b
    → OnRefused (stopped stop number) (λ fault. IfSome a (λ was. body_fault header v was ≡ Some fault))
stop-refused header v number Full lines a b few fine stops = tt
stop-refused header v number End lines a b few fine stops = if_some-weaker a _ _ stops (λ was is. body-missing header v number lines was (few refl) fine is.0 is.1 is.2)
stop-refused header v number (StopFault text.Failed) lines a b few fine stops = tt
stop-refused header v number (StopFault (text.TooLong line)) lines a b few fine stops = if_some-weaker a _ _ stops (λ was is. body-long header v line lines was fine is.0 is.1 is.2)
stop-refused header v number (StopFault text.OutOfMemory) lines a b few fine stops = tt

numbers-of : (bytes : List ℕ) (ats : List LineAt) → map (λ (line : NumberedLine). line.number) (map (line_of bytes) ats) ≡ map (λ (at : LineAt). at.number) ats
numbers-of bytes [] = refl
numbers-of bytes (at ∷ ats) = ap (λ l. at.number ∷ l) (numbers-of bytes ats)

-- The lines of a batch more.
rows-more : (header : Header) (old new : PieceRows) (lines more : List NumberedLine) → ArePieceRowsOf header (length old.numbers.items) old lines → TakesLines header old new more → ArePieceRowsOf header (length new.numbers.items) new (lines ++ more)
rows-more header old new lines more are takes =
    let v = length old.numbers.items in
    let next : 1 + length lines ≡ v + 1 = omega (arith, are.count) in
    let named : named_arcs header.format 1 (lines ++ more) ≡ named_arcs header.format 1 lines ++ named_arcs header.format (v + 1) more =
    arcs-split header.format 1 lines more ∙ ap (λ k. named_arcs header.format 1 lines ++ named_arcs header.format k more) next in
    let many : length new.numbers.items ≡ v + length more = ap length takes.numbers ∙ length-append old.numbers.items (map (λ (line : NumberedLine). line.number) more) ∙ ap (λ k. v + k) (length-map more (λ (line : NumberedLine). line.number)) in
    record {
      count = length-append lines more ∙ ap (λ k. k + length more) are.count ∙ sym many;
      faultless = lines-split header 1 lines more ∙ rw (are.faultless, next) takes.faultless;
      arcs = subst (KeepsPieces new.pieces) (sym named) (takes.arcs.keeps (named_arcs header.format 1 lines) are.arcs);
      most = takes.arcs.most ∙ are.most;
      numbers = takes.numbers ∙ ap (λ l. l ++ map (λ (line : NumberedLine). line.number) more) are.numbers ∙ sym (map-append (λ (line : NumberedLine). line.number) lines more);
    }

pub reads-more : (header : Header) (old new : PieceRows) (a b z : Option Content) → ReadsPieceRows header (length old.numbers.items) old a b → TakesBatch header old new b z → ReadsPieceRows header (length new.numbers.items) new a z
reads-more header old new a b z reads batch = record {
  lines = reads.lines ++ batch.lines;
  are = rows-more header old new reads.lines batch.lines reads.are batch.takes;
  told = told-on a b z (Passes reads.lines) (Passes batch.lines) (Passes (reads.lines ++ batch.lines)) reads.told batch.told (λ was mid now first second. passes-on reads.lines batch.lines was mid now first second);
}

some-length : (lines : List NumberedLine) → lines ≢ [] → 0 < length lines
some-length [] some = absurd (some refl)
some-length (line ∷ lines) some = omega arith

-- So many numbers are known after a batch.
pub known-more : (header : Header) (old new : PieceRows) (b z : Option Content) → TakesBatch header old new b z → (length old.numbers.items < length new.numbers.items) × (length new.numbers.items ≤ header.n)
known-more header old new b z batch =
    let many : length new.numbers.items ≡ length old.numbers.items + length batch.lines = ap length batch.takes.numbers ∙ length-append old.numbers.items (map (λ (line : NumberedLine). line.number) batch.lines) ∙ ap (λ k. length old.numbers.items + k) (length-map batch.lines (λ (line : NumberedLine). line.number)) in
    let few = batch.few in
    let more = some-length batch.lines batch.some in
    (omega arith, omega arith)

-- What is wrong with the rest is what is wrong with the whole.
pub rows-fault : (header : Header) (v : ℕ) (rows : PieceRows) (a b : Option Content) (fault : Option Fault) → ReadsPieceRows header v rows a b → IfSome b (λ now. body_fault header (v + 1) now ≡ fault) → IfSome a (λ was. body_fault header 1 was ≡ fault)
rows-fault header v rows a b fault reads rest =
    let next : 1 + length reads.lines ≡ v + 1 = omega (arith, reads.are.count) in
    told-if a b (Passes reads.lines) _ _ reads.told rest (λ was now passes is. body-on header 1 reads.lines was now passes reads.are.faultless ∙ ap (λ k. body_fault header k now) next ∙ is)

-- The lines follow those whose numbers are known.
pub takes-lines : (header : Header) (old new : PieceRows) (bytes : List ℕ) (ats lines : List LineAt) (first : ℕ) → first ≡ length old.numbers.items + 1 → lines_fault header first (map (line_of bytes) ats) ≡ None → AddsPiece old.pieces (named_arcs header.format first (map (line_of bytes) ats)) new.pieces → new.numbers.items ≡ old.numbers.items ++ map (λ (at : LineAt). at.number) lines → lines ≡ ats
    → TakesLines header old new (map (line_of bytes) ats)
takes-lines header old new bytes ats lines first is fine arcs numbers same = record {
  faultless = subst (λ k. lines_fault header k (map (line_of bytes) ats) ≡ None) is fine;
  arcs = subst (λ k. AddsPiece old.pieces (named_arcs header.format k (map (line_of bytes) ats)) new.pieces) is arcs;
  numbers = numbers ∙ ap (λ l. old.numbers.items ++ map (λ (at : LineAt). at.number) l) same ∙ ap (λ l. old.numbers.items ++ l) (sym (numbers-of bytes ats));
}

pub fewer-lines : (bytes : List ℕ) (ats : List LineAt) (known n most : ℕ) → known < n → most ≡ n - known → length ats < most → length (map (line_of bytes) ats) + (known + 1) < n + 1
fewer-lines bytes ats known n most wanted is few = let many = length-map ats (line_of bytes) in omega arith
