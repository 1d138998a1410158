-- From line to line of a partition file: what is wrong with the content ahead, and which ranks the lines that were taken give.
use Rattle.std.proofs.Common.{◌≡◌, ◌≢◌, ℕ, zero, suc, ◌+◌, ◌<◌, ◌≤◌, Bool, true, false, nat_lt, Option, Some, None, is_some, MatchOption, List, [], ◌∷◌, ◌++◌, length, map, All, IfSome, Bor, refl, sym, ap, ◌∙◌, arith, length-append}
use Rattle.std.proofs.lemmas.Bool.Decides.{nat_tests}
use Rattle.std.proofs.lemmas.List.{map-append}
use Rattle.std.proofs.lemmas.List.Elements.{All-head, All-tail}
use Rattle.pg_text.specs.Text.{decimal_value, number, numbers, words}
use Rattle.pg_metis.specs.declared.parts_faults.PartsKind.{PartsKind}
use Rattle.pg_metis.specs.declared.parts_faults.PartsKind.TheVariants.{BadNumber, OutOfRange, ExtraText, MissingLines, TooLong}
use Rattle.pg_metis.specs.declared.parts_faults.PartsLineFault.{PartsLineFault}
use Rattle.pg_metis.specs.Ahead.{IsPastLimit, Passes, TakesContent}
use Rattle.pg_metis.specs.LineFaults.{IsPartsLineFault}
use Rattle.pg_metis.specs.Content.{Content, NumberedLine}
use Rattle.pg_metis.specs.Parts.{FirstPartsFault, part_fault, part_lines_fault, parts_content_fault, parts_end_fault, surplus_fault}
use Rattle.pg_metis.specs.PartsReading.{TakesPart, TakesParts}
use Rattle.pg_metis.proofs.NumberLemmas.{not-number, number-is}
use Rattle.pg_metis.proofs.PartLines.{part_passes}
use Rattle.pg_metis.proofs.ReadingLemmas.{passes-on}
use Rattle.pg_metis.proofs.ToldLemmas.{told-if, told-on}

-- What the first word of a line asks for.
abbrev Next : List (List ℕ) → Option (Bor (List ℕ)) → List (List ℕ) → Type 0
Next ws r rest = MatchOption r ((ws ≡ []) × (rest ≡ [])) (λ x. ws ≡ x.now ∷ rest)

surplus : (ws rest : List (List ℕ)) (r : Option (Bor (List ℕ))) → Next ws r rest → true ≡ is_some r → surplus_fault ws ≡ Some ExtraText
surplus ws rest None first some = cc
surplus ws rest (Some x) first some = rw first refl

-- The words of a line, one after another.
pub bad-word : (ranks : ℕ) (ws all rest : List (List ℕ)) (word : List ℕ) → ws ≡ all → ws ≡ word ∷ rest → number word ≡ None → part_fault ranks all ≡ Some BadNumber
bad-word ranks ws all rest word same first none = rw (sym same, first, not-number word none) refl

pub past-ranks : (ranks : ℕ) (ws all rest : List (List ℕ)) (word : List ℕ) (part : ℕ) → ws ≡ all → ws ≡ word ∷ rest → number word ≡ Some part → ranks ≤ part → part_fault ranks all ≡ Some OutOfRange
past-ranks ranks ws all rest word part same first is past =
    let both = number-is word part is in
    let not : nat_lt (decimal_value word) ranks ≡ false = grind (arith, nat_tests, both.1) in
    rw (sym same, first, both.0, not) refl

below-ranks : (ranks : ℕ) (word : List ℕ) (more : List (List ℕ)) (part : ℕ) → number word ≡ Some part → part < ranks → part_fault ranks (word ∷ more) ≡ surplus_fault more
below-ranks ranks word more part is below =
    let both = number-is word part is in
    let less : nat_lt (decimal_value word) ranks ≡ true = grind (arith, nat_tests, both.1) in
    rw (both.0, less) refl

pub second-word : (ranks : ℕ) (ws all more rest : List (List ℕ)) (word : List ℕ) (part : ℕ) (r : Option (Bor (List ℕ))) → ws ≡ all → ws ≡ word ∷ more → number word ≡ Some part → part < ranks → Next more r rest → true ≡ is_some r → part_fault ranks all ≡ Some ExtraText
second-word ranks ws all more rest word part r same first is below next some =
    rw (sym same, first) (below-ranks ranks word more part is below ∙ surplus more rest r next some)

pub one-word : (ws all more rest : List (List ℕ)) (word : List ℕ) (part : ℕ) (r : Option (Bor (List ℕ))) → ws ≡ all → ws ≡ word ∷ more → number word ≡ Some part → Next more r rest → false ≡ is_some r → numbers all ≡ Some (part ∷ [])
unfolding numbers
one-word ws all more rest word part None same first is next none = rw (sym same, first, next.0, is) refl
one-word ws all more rest word part (Some x) same first is next none = cc

fault-at : (line at : ℕ) (kind : PartsKind) → line ≡ at → Some (let f : FirstPartsFault = record { line = line; kind = kind } in f) ≡ Some (record { line = at; kind = kind })
fault-at line at kind same = ap (λ (x : ℕ). let f : FirstPartsFault = record { line = x; kind = kind } in Some f) same

-- An overlong line is the fault wherever it is met.
pub past-parts : (at : ℕ) (was : Content) → IsPastLimit at was → (wanted ranks : ℕ) → parts_content_fault wanted ranks was ≡ Some (record { line = at; kind = TooLong })
unfolding parts_content_fault
past-parts at was past wanted ranks = rw (past.none, past.overlong) (fault-at (was.count + 1) at TooLong (sym past.number))

-- No line was ahead.
pub no-part : (ranks number at : ℕ) (line : List ℕ) (was now : Content) → TakesContent false number line was now → at ≡ number + 1 → (wanted : ℕ) → 1 ≤ wanted → parts_content_fault wanted ranks was ≡ Some (record { line = at; kind = MissingLines })
unfolding parts_content_fault
no-part ranks number at line was now takes is wanted some =
    let short : nat_lt 0 wanted ≡ true = grind (arith, nat_tests) in
    rw (takes.0, takes.1, takes.2, short) (fault-at (number + 1) at MissingLines (sym is))

pub no-more : (number : ℕ) (line : List ℕ) (was now : Content) → TakesContent false number line was now → (ranks : ℕ) → parts_content_fault 0 ranks was ≡ None
unfolding parts_content_fault
no-more number line was now takes ranks = rw (takes.0, takes.1) refl

-- The first line ahead has a fault.
pub bad-part : (ranks : ℕ) (line : NumberedLine) (at : ℕ) (was now : Content) (kind : PartsKind) → Passes (line ∷ []) was now → part_fault ranks (words line.bytes) ≡ Some kind → line.number ≡ at → (wanted : ℕ) → 1 ≤ wanted → parts_content_fault wanted ranks was ≡ Some (record { line = at; kind = kind })
unfolding parts_content_fault
bad-part ranks line at was now kind passes bad is zero some = absurd (omega arith)
bad-part ranks line at was now kind passes bad is (suc more) some = rw (passes.lines, bad) (fault-at line.number at kind is)

pub extra-part : (line : NumberedLine) (at : ℕ) (was now : Content) → Passes (line ∷ []) was now → words line.bytes ≢ [] → line.number ≡ at → (ranks : ℕ) → parts_content_fault 0 ranks was ≡ Some (record { line = at; kind = ExtraText })
unfolding parts_content_fault
extra-part line at was now passes some is ranks =
    let bad = some-surplus (words line.bytes) some in
    rw (passes.lines, bad) (fault-at line.number at ExtraText is)
  where
    some-surplus : (ws : List (List ℕ)) → ws ≢ [] → surplus_fault ws ≡ Some ExtraText
    some-surplus [] some = absurd (some refl)
    some-surplus (w ∷ ws) some = refl

same-end : (wanted others : ℕ) (was now : Content) → was.count ≡ now.count → was.overlong ≡ now.overlong → nat_lt (length was.lines) wanted ≡ nat_lt (length now.lines) others → parts_end_fault wanted was ≡ parts_end_fault others now
same-end wanted others was now count overlong few = rw (count, overlong, few) refl

fewer : (a b c : ℕ) → a ≡ c + b → (w : ℕ) → nat_lt a (c + w) ≡ nat_lt b w
fewer a b c is w = grind (arith, nat_tests)

-- Lines that give ranks have no fault.
lines-pass : (ranks wanted more : ℕ) (lines rest : List NumberedLine) (parts : List ℕ) → wanted ≡ length parts + more → map (λ line. numbers (words line.bytes)) lines ≡ map (λ part. Some (part ∷ [])) parts → All (λ part. part < ranks) parts → part_lines_fault ranks wanted (lines ++ rest) ≡ part_lines_fault ranks more rest
lines-pass ranks wanted more [] rest [] count give below = ap (λ k. part_lines_fault ranks k rest) (omega arith)
lines-pass ranks wanted more [] rest (part ∷ parts) count give below = cc
lines-pass ranks wanted more (line ∷ lines) rest [] count give below = cc
lines-pass ranks zero more (line ∷ lines) rest (part ∷ parts) count give below = absurd (omega arith)
lines-pass ranks (suc wanted) more (line ∷ lines) rest (part ∷ parts) count give below =
    let here : numbers (words line.bytes) ≡ Some (part ∷ []) = cc in
    let later : map (λ (line : NumberedLine). numbers (words line.bytes)) lines ≡ map (λ (part : ℕ). Some (part ∷ [])) parts = cc in
    let fine = part_passes ranks (words line.bytes) part here (All-head (λ part. part < ranks) part parts below) in
    rw fine (lines-pass ranks wanted more lines rest parts (omega arith) later (All-tail (λ part. part < ranks) part parts below))

-- What is wrong with the content is what is wrong after lines that give ranks.
pub parts-on : (ranks wanted more : ℕ) (lines : List NumberedLine) (parts : List ℕ) (was now : Content) → wanted ≡ length parts + more → Passes lines was now → map (λ line. numbers (words line.bytes)) lines ≡ map (λ part. Some (part ∷ [])) parts → All (λ part. part < ranks) parts → parts_content_fault wanted ranks was ≡ parts_content_fault more ranks now
unfolding parts_content_fault
parts-on ranks wanted more lines parts was now count passes give below =
    let long : length lines ≡ length parts = same-length lines parts give in
    let all : length was.lines ≡ length parts + length now.lines = ap length passes.lines ∙ length-append lines now.lines ∙ ap (λ k. k + length now.lines) long in
    let few : nat_lt (length was.lines) wanted ≡ nat_lt (length now.lines) more = rw count (fewer (length was.lines) (length now.lines) (length parts) all more) in
    let ends = same-end wanted more was now passes.count passes.overlong few in
    let fine : part_lines_fault ranks wanted was.lines ≡ part_lines_fault ranks more now.lines = rw passes.lines (lines-pass ranks wanted more lines now.lines parts count give below) in
    rw (fine, ends) refl
  where
    same-length : (lines : List NumberedLine) (parts : List ℕ) → map (λ line. numbers (words line.bytes)) lines ≡ map (λ part. Some (part ∷ [])) parts → length lines ≡ length parts
    same-length [] [] give = refl
    same-length [] (part ∷ parts) give = cc
    same-length (line ∷ lines) [] give = cc
    same-length (line ∷ lines) (part ∷ parts) give = ap suc (same-length lines parts (cc))

never : (k : ℕ) → nat_lt k 0 ≡ false
never k = grind (arith, nat_tests)

-- A line without a word after those of the vertices has no fault.
pub blank-passes : (line : NumberedLine) (was now : Content) → Passes (line ∷ []) was now → words line.bytes ≡ [] → (ranks : ℕ) → parts_content_fault 0 ranks was ≡ parts_content_fault 0 ranks now
unfolding parts_content_fault
blank-passes line was now passes none ranks =
    let ends : parts_end_fault 0 was ≡ parts_end_fault 0 now = same-end 0 0 was now passes.count passes.overlong (never (length was.lines) ∙ sym (never (length now.lines))) in
    let all : part_lines_fault ranks 0 was.lines ≡ part_lines_fault ranks 0 now.lines = rw (passes.lines, none) refl in
    rw (all, ends) refl

-- One more line of a vertex.
pub takes-more : (parts : List ℕ) (part : ℕ) (a b z : Option Content) → TakesParts parts a b → TakesPart part b z → TakesParts (parts ++ part ∷ []) a z
takes-more parts part a b z takes one = record {
  lines = takes.lines ++ one.line ∷ [];
  told = told-on a b z (Passes takes.lines) (Passes (one.line ∷ [])) (Passes (takes.lines ++ one.line ∷ [])) takes.told one.told (λ was mid now first second. passes-on takes.lines (one.line ∷ []) was mid now first second);
  give = map-append (λ (line : NumberedLine). numbers (words line.bytes)) takes.lines (one.line ∷ []) ∙ ap (λ (l : List (Option (List ℕ))). l ++ numbers (words one.line.bytes) ∷ []) takes.give ∙ ap (λ (o : Option (List ℕ)). map (λ part. Some (part ∷ [])) parts ++ o ∷ []) one.gives ∙ sym (map-append (λ (part : ℕ). Some (part ∷ [])) parts (part ∷ []));
}

-- What is wrong with the rest is what is wrong with the whole.
pub rest-fault : (ranks wanted more : ℕ) (parts : List ℕ) (a b : Option Content) (fault : Option FirstPartsFault) → wanted ≡ length parts + more → TakesParts parts a b → All (λ part. part < ranks) parts → IfSome b (λ now. parts_content_fault more ranks now ≡ fault) → IfSome a (λ was. parts_content_fault wanted ranks was ≡ fault)
rest-fault ranks wanted more parts a b fault count takes below rest =
    told-if a b (Passes takes.lines) _ _ takes.told rest (λ was now passes is. parts-on ranks wanted more takes.lines parts was now count passes takes.give below ∙ is)

-- The fault of a vertex's line, or that there is none.
pub part-refused : (ranks : ℕ) (more : Bool) (number : ℕ) (line : List ℕ) (was now : Content) (fault : PartsLineFault) → TakesContent more number line was now → IsPartsLineFault (part_fault ranks) MissingLines more number line fault → (wanted : ℕ) → 1 ≤ wanted → parts_content_fault wanted ranks was ≡ Some (record { line = fault.line; kind = fault.kind })
part-refused ranks true number line was now fault takes (at, bad) wanted some = bad-part ranks (record { number = number; bytes = line }) fault.line was now fault.kind takes bad (sym at) wanted some
part-refused ranks false number line was now fault takes (at, kind) wanted some = rw kind (no-part ranks number fault.line line was now takes at wanted some)

-- A line after those of the vertices that has a word.
pub surplus-refused : (line : NumberedLine) (was now : Content) (fault : PartsLineFault) → Passes (line ∷ []) was now → words line.bytes ≢ [] → fault.line ≡ line.number → fault.kind ≡ ExtraText → (ranks : ℕ) → parts_content_fault 0 ranks was ≡ Some (record { line = fault.line; kind = fault.kind })
surplus-refused line was now fault passes some at kind ranks = rw kind (extra-part line fault.line was now passes some (sym at) ranks)
