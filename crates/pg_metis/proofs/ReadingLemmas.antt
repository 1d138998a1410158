-- From line to line: what is wrong with the content ahead, and what the lines that were taken tell.
use Rattle.std.proofs.Common.{◌≡◌, ◌≢◌, ℕ, suc, ◌+◌, ◌-◌, ◌<◌, ◌≤◌, Bool, true, false, nat_le, nat_lt, Option, Some, None, List, [], ◌∷◌, ◌++◌, length, take, IfSome, refl, sym, ap, ◌∙◌, subst, arith, append_assoc, append-nil, length-append}
use Rattle.std.specs.Option.{option_or}
use Rattle.std.proofs.lemmas.Bool.Decides.{nat_tests}
use Rattle.std.proofs.lemmas.List.{map-append}
use Rattle.std.proofs.Math.Seq.{take-append_seam}
use Rattle.pg_text.specs.Coming.{Told}
use Rattle.pg_text.specs.Text.{words}
use Rattle.pg_metis.specs.declared.faults.Kind.{Kind}
use Rattle.pg_metis.specs.declared.faults.Kind.TheVariants.{ExtraText, MissingLines, NoHeader, TooLong}
use Rattle.pg_metis.specs.declared.faults.LineFault.{LineFault}
use Rattle.pg_metis.specs.declared.reading.Rows.{Rows}
use Rattle.pg_metis.specs.Ahead.{IsPastLimit, Passes, TakesContent}
use Rattle.pg_metis.specs.Arcs.{Keeps}
use Rattle.pg_metis.specs.Content.{Content, NumberedLine, content_of}
use Rattle.pg_metis.specs.Fault.{Fault, arcs_or_none, at_line, body_fault, content_fault, end_fault, extra_fault, fault_of, header_fault, line_fault, lines_fault, named_arcs, pairs_fault, vertex_fault}
use Rattle.pg_metis.specs.File.{Format, Header, line_arcs}
use Rattle.pg_metis.specs.LineFaults.{IsLineFault}
use Rattle.pg_metis.proofs.AheadContent.{same-content}
use Rattle.pg_metis.proofs.ToldLemmas.{if_some-both, if_some-weaker, told-if, told-on, told-then}
use Rattle.pg_metis.specs.Reading.{AreRowsOf, HasLines, ReadsRows, TakesHeader, TakesRow, blank_fault, extra_lines_fault}

pub fault-at : (line at : ℕ) (kind : Kind) → line ≡ at → Some (let f : Fault = record { line = line; kind = kind } in f) ≡ Some (record { line = at; kind = kind })
fault-at line at kind same = ap (λ (x : ℕ). let f : Fault = record { line = x; kind = kind } in Some f) same

-- An overlong line is the fault wherever it is met.
pub past-header : (at : ℕ) (was : Content) → IsPastLimit at was → content_fault was ≡ Some (record { line = at; kind = TooLong })
unfolding content_fault
past-header at was past = rw (past.none, past.overlong) (fault-at (was.count + 1) at TooLong (sym past.number))

pub past-body : (header : Header) (v : ℕ) (at : ℕ) (was : Content) → IsPastLimit at was → body_fault header v was ≡ Some (record { line = at; kind = TooLong })
unfolding body_fault
past-body header v at was past = rw (past.none, past.overlong) (fault-at (was.count + 1) at TooLong (sym past.number))

pub past-blank : (at : ℕ) (was : Content) → IsPastLimit at was → blank_fault was ≡ Some (record { line = at; kind = TooLong })
unfolding blank_fault
past-blank at was past = rw (past.none, past.overlong) (fault-at (was.count + 1) at TooLong (sym past.number))

-- No line was ahead.
pub no-header : (number at : ℕ) (line : List ℕ) (was now : Content) → TakesContent false number line was now → at ≡ number + 1 → content_fault was ≡ Some (record { line = at; kind = NoHeader })
unfolding content_fault
no-header number at line was now takes is = rw (takes.0, takes.1, takes.2) (fault-at (number + 1) at NoHeader (sym is))

pub no-row : (header : Header) (v number at : ℕ) (line : List ℕ) (was now : Content) → v ≤ header.n → TakesContent false number line was now → at ≡ number + 1 → body_fault header v was ≡ Some (record { line = at; kind = MissingLines })
unfolding body_fault
no-row header v number at line was now last takes is =
    let some : nat_lt 0 (header.n + 1 - v) ≡ true = grind (arith, nat_tests) in
    rw (takes.0, takes.1, takes.2, some) (fault-at (number + 1) at MissingLines (sym is))

pub none-blank : (number : ℕ) (line : List ℕ) (was now : Content) → TakesContent false number line was now → blank_fault was ≡ None
unfolding blank_fault
none-blank number line was now takes = rw (takes.0, takes.1) refl

-- The first line ahead has a fault.
pub bad-header : (line : NumberedLine) (at : ℕ) (was now : Content) (kind : Kind) → Passes (line ∷ []) was now → header_fault (words line.bytes) ≡ Some kind → line.number ≡ at → content_fault was ≡ Some (record { line = at; kind = kind })
unfolding content_fault
bad-header line at was now kind passes bad is = rw (passes.lines, bad) (fault-at line.number at kind is)

row-within : (header : Header) (v : ℕ) (ws : List (List ℕ)) → v ≤ header.n → line_fault header v ws ≡ vertex_fault header v ws
row-within header v ws last = let is : nat_le v header.n ≡ true = grind (arith, nat_tests) in rw is refl

pub bad-row : (header : Header) (v : ℕ) (line : NumberedLine) (at : ℕ) (was now : Content) (kind : Kind) → v ≤ header.n → Passes (line ∷ []) was now → vertex_fault header v (words line.bytes) ≡ Some kind → line.number ≡ at → body_fault header v was ≡ Some (record { line = at; kind = kind })
unfolding body_fault
bad-row header v line at was now kind last passes bad is = rw (passes.lines, row-within header v (words line.bytes) last, bad) (fault-at line.number at kind is)

or-assoc : (a b c : Option Fault) → option_or a (option_or b c) ≡ option_or (option_or a b) c
or-assoc None b c = refl
or-assoc (Some fault) b c = refl

-- Lines of vertices one after another.
pub lines-split : (header : Header) (v : ℕ) (xs ys : List NumberedLine) → lines_fault header v (xs ++ ys) ≡ option_or (lines_fault header v xs) (lines_fault header (v + length xs) ys)
lines-split header v [] ys = ap (λ k. lines_fault header k ys) {x = v} {y = v + 0} (omega arith)
lines-split header v (x ∷ xs) ys =
    let later : lines_fault header (v + 1 + length xs) ys ≡ lines_fault header (v + suc (length xs)) ys = ap (λ k. lines_fault header k ys) {x = v + 1 + length xs} {y = v + suc (length xs)} (omega arith) in
    rw (lines-split header (v + 1) xs ys, later) (or-assoc (at_line x.number (line_fault header v (words x.bytes))) (lines_fault header (v + 1) xs) (lines_fault header (v + suc (length xs)) ys))

pub arcs-split : (format : Format) (v : ℕ) (xs ys : List NumberedLine) → named_arcs format v (xs ++ ys) ≡ named_arcs format v xs ++ named_arcs format (v + length xs) ys
arcs-split format v [] ys = ap (λ k. named_arcs format k ys) {x = v} {y = v + 0} (omega arith)
arcs-split format v (x ∷ xs) ys =
    let later : named_arcs format (v + 1 + length xs) ys ≡ named_arcs format (v + suc (length xs)) ys = ap (λ k. named_arcs format k ys) {x = v + 1 + length xs} {y = v + suc (length xs)} (omega arith) in
    rw (arcs-split format (v + 1) xs ys, later) (sym (append_assoc (arcs_or_none (line_arcs format v x.bytes)) (named_arcs format (v + 1) xs) (named_arcs format (v + suc (length xs)) ys)))

fewer : (a b c v : ℕ) → nat_lt (a + b) (c - v) ≡ nat_lt b (c - (v + a))
fewer a b c v = grind (arith, nat_tests)

same-end : (wanted others : ℕ) (was now : Content) → was.count ≡ now.count → was.overlong ≡ now.overlong → nat_lt (length was.lines) wanted ≡ nat_lt (length now.lines) others → end_fault wanted was ≡ end_fault others now
same-end wanted others was now count overlong few = rw (count, overlong, few) refl

-- What is wrong with the content is what is wrong after lines of vertices without a fault.
pub body-on : (header : Header) (v : ℕ) (lines : List NumberedLine) (was now : Content) → Passes lines was now → lines_fault header v lines ≡ None → body_fault header v was ≡ body_fault header (v + length lines) now
unfolding body_fault
body-on header v lines was now passes fine =
    let few : nat_lt (length was.lines) (header.n + 1 - v) ≡ nat_lt (length now.lines) (header.n + 1 - (v + length lines)) =
    rw (passes.lines, length-append lines now.lines) (fewer (length lines) (length now.lines) (header.n + 1) v) in
    let ends = same-end (header.n + 1 - v) (header.n + 1 - (v + length lines)) was now passes.count passes.overlong few in
    let all : lines_fault header v was.lines ≡ lines_fault header (v + length lines) now.lines = rw (passes.lines, lines-split header v lines now.lines, fine) refl in
    rw (all, ends) refl

extra-lines : (header : Header) (v : ℕ) (lines : List NumberedLine) → header.n < v → lines_fault header v lines ≡ extra_lines_fault lines
extra-lines header v [] past = refl
extra-lines header v (line ∷ lines) past =
    let is : nat_le v header.n ≡ false = grind (arith, nat_tests) in
    rw (is, extra-lines header (v + 1) lines (omega arith)) refl

-- After the lines of all vertices no line may have a word.
pub body-blank : (header : Header) (v : ℕ) (was : Content) → header.n < v → body_fault header v was ≡ blank_fault was
unfolding body_fault blank_fault
body-blank header v was past =
    let none : header.n + 1 - v ≡ 0 = omega arith in
    rw (none, extra-lines header v was.lines past) refl

never : (k : ℕ) → nat_lt k 0 ≡ false
never k = grind (arith, nat_tests)

pub blank-on : (line : NumberedLine) (was now : Content) → Passes (line ∷ []) was now → extra_fault (words line.bytes) ≡ None → blank_fault was ≡ blank_fault now
unfolding blank_fault
blank-on line was now passes none =
    let ends : end_fault 0 was ≡ end_fault 0 now = same-end 0 0 was now passes.count passes.overlong (never (length was.lines) ∙ sym (never (length now.lines))) in
    let all : extra_lines_fault was.lines ≡ extra_lines_fault now.lines = rw (passes.lines, none) refl in
    rw (all, ends) refl

pub extra-word : (ws : List (List ℕ)) → ws ≢ [] → extra_fault ws ≡ Some ExtraText
extra-word [] some = absurd (some refl)
extra-word (w ∷ ws) some = refl

pub bad-blank : (line : NumberedLine) (at : ℕ) (was now : Content) → Passes (line ∷ []) was now → extra_fault (words line.bytes) ≡ Some ExtraText → line.number ≡ at → blank_fault was ≡ Some (record { line = at; kind = ExtraText })
unfolding blank_fault
bad-blank line at was now passes bad is = rw (passes.lines, bad) (fault-at line.number at ExtraText is)

pub passes-on : (xs ys : List NumberedLine) (was mid now : Content) → Passes xs was mid → Passes ys mid now → Passes (xs ++ ys) was now
passes-on xs ys was mid now first second = record {
  lines = first.lines ∙ ap (λ l. xs ++ l) second.lines ∙ sym (append_assoc xs ys now.lines);
  count = first.count ∙ second.count;
  overlong = first.overlong ∙ second.overlong;
}

-- One more line of a vertex.
rows-more : (header : Header) (v : ℕ) (old new : Rows) (lines : List NumberedLine) (before after : Option Content) → v < header.n → AreRowsOf header v old lines → (row : TakesRow header (v + 1) old new before after) → AreRowsOf header (v + 1) new (lines ++ row.line ∷ [])
rows-more header v old new lines before after below are row =
    let next : 1 + length lines ≡ v + 1 = omega (arith, are.count) in
    let last : lines_fault header (v + 1) (row.line ∷ []) ≡ None = rw (row-within header (v + 1) (words row.line.bytes) (omega arith), row.faultless) refl in
    let named : named_arcs header.format 1 (lines ++ row.line ∷ []) ≡ named_arcs header.format 1 lines ++ arcs_or_none (line_arcs header.format (v + 1) row.line.bytes) =
    arcs-split header.format 1 lines (row.line ∷ []) ∙ ap (λ k. named_arcs header.format 1 lines ++ named_arcs header.format k (row.line ∷ [])) next ∙ ap (λ l. named_arcs header.format 1 lines ++ l) (append-nil (arcs_or_none (line_arcs header.format (v + 1) row.line.bytes))) in
    record {
      count = length-append lines (row.line ∷ []) ∙ ap (λ k. k + 1) are.count;
      faultless = lines-split header 1 lines (row.line ∷ []) ∙ rw (are.faultless, next) last;
      arcs = subst (Keeps new.arcs) (sym named) (row.arcs.keeps (named_arcs header.format 1 lines) are.arcs);
      most = row.arcs.most ∙ are.most;
      numbers = row.numbers ∙ ap (λ l. l ++ row.line.number ∷ []) are.numbers ∙ sym (map-append (λ (line : NumberedLine). line.number) lines (row.line ∷ []));
      size = row.size ∙ are.size;
      stamps = row.stamps;
    }

pub reads-more : (header : Header) (v : ℕ) (old new : Rows) (a b z : Option Content) → v < header.n → ReadsRows header v old a b → TakesRow header (v + 1) old new b z → ReadsRows header (v + 1) new a z
reads-more header v old new a b z below reads row = record {
  lines = reads.lines ++ row.line ∷ [];
  are = rows-more header v old new reads.lines b z below reads.are row;
  told = told-on a b z (Passes reads.lines) (Passes (row.line ∷ [])) (Passes (reads.lines ++ row.line ∷ [])) reads.told row.told (λ was mid now first second. passes-on reads.lines (row.line ∷ []) was mid now first second);
}

-- What is wrong with the rest is what is wrong with the whole.
pub rows-fault : (header : Header) (v : ℕ) (lines : List NumberedLine) (a b : Option Content) (fault : Option Fault) → length lines ≡ v → lines_fault header 1 lines ≡ None → Told a b (Passes lines) → IfSome b (λ now. body_fault header (v + 1) now ≡ fault) → IfSome a (λ was. body_fault header 1 was ≡ fault)
rows-fault header v lines a b fault count faultless told rest =
    let next : 1 + length lines ≡ v + 1 = omega (arith, count) in
    told-if a b (Passes lines) _ _ told rest (λ was now passes is. body-on header 1 lines was now passes faultless ∙ ap (λ k. body_fault header k now) next ∙ is)

pub blank-fault : (header : Header) (lines : List NumberedLine) (a b : Option Content) (fault : Option Fault) → length lines ≡ header.n → lines_fault header 1 lines ≡ None → Told a b (Passes lines) → IfSome b (λ now. blank_fault now ≡ fault) → IfSome a (λ was. body_fault header 1 was ≡ fault)
blank-fault header lines a b fault count faultless told rest =
    rows-fault header header.n lines a b fault count faultless told (if_some-weaker b _ _ rest (λ now is. body-blank header (header.n + 1) now (omega arith) ∙ is))

-- All lines were taken, and none has a fault.
pub body-told : (header : Header) (lines : List NumberedLine) (a b : Option Content) → length lines ≡ header.n → lines_fault header 1 lines ≡ None → Told a b (Passes lines) → IfSome b (λ now. blank_fault now ≡ None) → IfSome a (λ was. (body_fault header 1 was ≡ None) × (take header.n was.lines ≡ lines))
body-told header lines a b count faultless told rest =
    if_some-both a _ _ _ (blank-fault header lines a b None count faultless told rest)
    (told-then a b (Passes lines) (λ was. take header.n was.lines ≡ lines) told (λ was now passes. ap (take header.n) passes.lines ∙ ap (λ k. take k (lines ++ now.lines)) (sym count) ∙ take-append_seam lines now.lines))
    (λ was fine vertices. (fine, vertices))

headed : (header : Header) (at : ℕ) (was now : Content) → (takes : TakesHeader header at was now) → content_fault was ≡ option_or (body_fault header 1 now) (pairs_fault header takes.line.number (take header.n now.lines))
unfolding content_fault
headed header at was now takes = rw (takes.passes.lines, takes.passes.count, takes.passes.overlong, takes.faultless, takes.is) refl

pub headed-fault : (header : Header) (at : ℕ) (was now : Content) (fault : Fault) → TakesHeader header at was now → body_fault header 1 now ≡ Some fault → content_fault was ≡ Some fault
headed-fault header at was now fault takes bad = headed header at was now takes ∙ rw bad refl

pub has-lines : (header : Header) (at : ℕ) (lines : List NumberedLine) (text : List ℕ) (now : Content) → TakesHeader header at (content_of text) now → body_fault header 1 now ≡ None → take header.n now.lines ≡ lines → HasLines header at lines text
has-lines header at lines text now takes fine vertices = record {
  line = takes.line;
  rest = now;
  content = same-content (content_of text) (record { lines = takes.line ∷ now.lines; count = now.count; overlong = now.overlong }) takes.passes.lines takes.passes.count takes.passes.overlong;
  number = takes.number;
  faultless = takes.faultless;
  is = takes.is;
  body = fine;
  vertices = vertices;
}

-- Where no line has a fault, the lines of the vertices decide together.
pub whole-fault : (header : Header) (at : ℕ) (lines : List NumberedLine) (text : List ℕ) → HasLines header at lines text → fault_of text ≡ pairs_fault header at lines
unfolding fault_of content_fault
whole-fault header at lines text has = rw (has.content, has.faultless, has.is, has.body, has.number, has.vertices) refl

pub takes-at : (more others : Bool) (number : ℕ) (line : List ℕ) (a b : Option Content) → more ≡ others → Told a b (TakesContent more number line) → Told a b (TakesContent others number line)
takes-at more others number line a b same told = subst (λ (m : Bool). Told a b (TakesContent m number line)) same told

pub text-fault : (text : List ℕ) (fault : Option Fault) → content_fault (content_of text) ≡ fault → fault_of text ≡ fault
unfolding fault_of
text-fault text fault is = is

-- The fault of the header's line, or that there is none.
pub header-refused : (more : Bool) (number : ℕ) (line : List ℕ) (was now : Content) (fault : LineFault) → TakesContent more number line was now → IsLineFault header_fault NoHeader more number line fault → content_fault was ≡ Some (record { line = fault.line; kind = fault.kind })
header-refused true number line was now fault takes (at, bad) = bad-header (record { number = number; bytes = line }) fault.line was now fault.kind takes bad (sym at)
header-refused false number line was now fault takes (at, kind) = rw kind (no-header number fault.line line was now takes at)

-- The fault of a vertex's line, or that there is none.
pub row-refused : (header : Header) (v : ℕ) (more : Bool) (number : ℕ) (line : List ℕ) (was now : Content) (fault : LineFault) → v ≤ header.n → TakesContent more number line was now → IsLineFault (vertex_fault header v) MissingLines more number line fault → body_fault header v was ≡ Some (record { line = fault.line; kind = fault.kind })
row-refused header v true number line was now fault last takes (at, bad) = bad-row header v (record { number = number; bytes = line }) fault.line was now fault.kind last takes bad (sym at)
row-refused header v false number line was now fault last takes (at, kind) = rw kind (no-row header v number fault.line line was now last takes at)

-- A line after those of the vertices that has a word.
pub blank-refused : (line : NumberedLine) (was now : Content) (fault : LineFault) → Passes (line ∷ []) was now → words line.bytes ≢ [] → fault.line ≡ line.number → fault.kind ≡ ExtraText → blank_fault was ≡ Some (record { line = fault.line; kind = fault.kind })
blank-refused line was now fault passes some at kind = rw kind (bad-blank line fault.line was now passes (extra-word (words line.bytes) some) (sym at))
