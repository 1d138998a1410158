-- From the lines of vertices without a fault to the graph of the text, or to the fault of all lines together.
use Rattle.std.proofs.Common.{◌≡◌, ◌≢◌, ℕ, ◌-◌, ◌*◌, ◌≤◌, Bool, true, false, ◌==◌, Option, Some, None, Result, Ok, Err, List, [], ◌∷◌, length, map, All, IfOk, IfSome, refl, sym, ap, ◌∙◌, subst, arith, slice_index_or}
use Rattle.std.specs.Option.{option_map, option_or}
use Rattle.std.proofs.lemmas.Bool.Decides.{nat_tests}
use Rattle.std.proofs.lemmas.List.Elements.{All-head, All-tail}
use Rattle.pg_base.specs.declared.edges.Edge.{Edge}
use Rattle.pg_base.specs.Graph.{Arc, Graph}
use Rattle.pg_metis.specs.declared.faults.GraphFault.{GraphFault}
use Rattle.pg_metis.specs.declared.faults.GraphFault.TheVariants.{Refused, Failed, OutOfMemory}
use Rattle.pg_metis.specs.declared.faults.Kind.{Kind}
use Rattle.pg_metis.specs.declared.faults.Kind.TheVariants.{WrongCount}
use Rattle.pg_metis.specs.declared.pairing.PairFault.{PairFault}
use Rattle.pg_metis.specs.declared.pairing.PairFault.TheVariants.{NotPaired, OutOfMemory as NoMemory}
use Rattle.pg_metis.specs.Answers.{IsNotRefused, IsRefusedAs, OnRefused}
use Rattle.pg_metis.specs.Content.{NumberedLine}
use Rattle.pg_metis.specs.Fault.{Fault, Unmirrored, fault_of, first_unmirrored, lines_fault, mirror_kind, named_arcs, number_of, pairs_fault}
use Rattle.pg_metis.specs.File.{FileOf, Header}
use Rattle.pg_metis.specs.Pairing.{AreEdgesOf, AreNamed, IsNamed, OnNotPaired}
use Rattle.pg_metis.specs.Reading.{AreLinesOf, HasLines}
use Rattle.pg_metis.specs.Refusals.{LeavesWithin, told_at}
use Rattle.pg_metis.proofs.FaultLemmas.{are_named}
use Rattle.pg_metis.proofs.FaultLaws.{files_have_no_fault}
use Rattle.pg_metis.proofs.FileFromEdges.{file_from_edges}
use Rattle.pg_metis.proofs.ReadingLemmas.{whole-fault}

-- The lines name more or fewer arcs than the header tells.
pub wrong-count : (header : Header) (at : ℕ) (lines : List NumberedLine) → length (named_arcs header.format 1 lines) ≢ 2 * header.m → pairs_fault header at lines ≡ Some (record { line = at; kind = WrongCount })
unfolding pairs_fault
wrong-count header at lines other =
    let is : (length (named_arcs header.format 1 lines) == 2 * header.m) ≡ false = grind (arith, nat_tests) in
    rw is refl

pub as-named : (header : Header) (lines : List NumberedLine) (arcs : List Arc) → lines_fault header 1 lines ≡ None → length lines ≡ header.n → arcs ≡ named_arcs header.format 1 lines → AreNamed header.n arcs
as-named header lines arcs faultless count same = subst (AreNamed header.n) (sym same) (are_named header lines faultless count)

unmirrored-first : (n : ℕ) (arcs : List Arc) (a : Arc) (later : List Arc) (found : Unmirrored) (kind : Option Kind) → IsNamed n a → ((u : Unmirrored) → first_unmirrored arcs later ≡ Some u → (1 ≤ u.vertex) × (u.vertex ≤ n))
    → option_or (option_map (λ k. let u : Unmirrored = record { vertex = a.from; kind = k } in u) kind) (first_unmirrored arcs later) ≡ Some found → (1 ≤ found.vertex) × (found.vertex ≤ n)
unmirrored-first n arcs a later found None named rest e = rest found e
unmirrored-first n arcs a later found (Some kind) named rest e =
    let same : (let u : Unmirrored = record { vertex = a.from; kind = kind } in u) ≡ found = cc in
    subst (λ (u : Unmirrored). (1 ≤ u.vertex) × (u.vertex ≤ n)) same (named.from_first, named.from_last)

-- An arc without an equal mirror leaves a vertex.
pub unmirrored-within : (n : ℕ) (arcs later : List Arc) (found : Unmirrored) → All (IsNamed n) later → first_unmirrored arcs later ≡ Some found → (1 ≤ found.vertex) × (found.vertex ≤ n)
unmirrored-within n arcs [] found named e = cc
unmirrored-within n arcs (a ∷ later) found named e =
    unmirrored-first n arcs a later found (mirror_kind arcs a) (All-head (IsNamed n) a later named) (λ u is. unmirrored-within n arcs later u (All-tail (IsNamed n) a later named) is) e

-- As many arcs as the header tells, of which one has no equal mirror.
pub not-paired : (header : Header) (at line : ℕ) (lines : List NumberedLine) (found : Unmirrored) → length (named_arcs header.format 1 lines) ≡ 2 * header.m → first_unmirrored (named_arcs header.format 1 lines) (named_arcs header.format 1 lines) ≡ Some found → line ≡ number_of lines found.vertex → pairs_fault header at lines ≡ Some (record { line = line; kind = found.kind })
unfolding pairs_fault
not-paired header at line lines found count first is =
    let same : (length (named_arcs header.format 1 lines) == 2 * header.m) ≡ true = grind (arith, nat_tests) in
    rw (same, first, is) refl

pub pair-within : (n : ℕ) (arcs : List Arc) (fault : PairFault) (count : ℕ) → AreNamed n arcs → n ≡ count → OnNotPaired {A = Bool} (Err fault) (λ found. first_unmirrored arcs arcs ≡ Some found) → LeavesWithin count fault
pair-within n arcs (NotPaired vertex kind) count named same first =
    let within = unmirrored-within n arcs arcs (record { vertex = vertex; kind = kind }) named.within first in
    (within.0, subst (λ (k : ℕ). vertex ≤ k) same within.1)
pair-within n arcs NoMemory count named same first = tt

pub pair-refused : (fault : PairFault) (numbers : List ℕ) (P : Unmirrored → Type 0) (Q : Fault → Type 0) → ((found : Unmirrored) → P found → Q (record { line = slice_index_or numbers (found.vertex - 1) 0; kind = found.kind })) → OnNotPaired {A = Bool} (Err fault) P → OnRefused {A = Bool} (Err (told_at numbers fault)) Q
pair-refused (NotPaired vertex kind) numbers P Q f h = f (record { vertex = vertex; kind = kind }) h
pair-refused NoMemory numbers P Q f h = tt

kept-count : (header : Header) (lines : List NumberedLine) (kept : List Arc) → kept ≡ named_arcs header.format 1 lines → length kept ≡ 2 * header.m → length (named_arcs header.format 1 lines) ≡ 2 * header.m
kept-count header lines kept same full = ap length (sym same) ∙ full

-- The edges that all arcs are make the graph of the lines.
pub lines-of : (header : Header) (lines : List NumberedLine) (kept : List Arc) (edges : List Edge) (g : Graph) → kept ≡ named_arcs header.format 1 lines → length kept ≡ 2 * header.m → AreEdgesOf header.n kept edges → g ≡ record { n = header.n; edges = edges } → AreLinesOf header lines g
lines-of header lines kept edges g same full edges_are is = record {
  n = ap (λ (h : Graph). h.n) is;
  count = kept-count header lines kept same full;
  edges = rw is (subst (λ (arcs : List Arc). AreEdgesOf header.n arcs edges) same edges_are);
}

-- An arc without an equal mirror is told at the line of its vertex, where the lines are those whose arcs were kept.
pub told-refused : (header : Header) (at : ℕ) (Are : List NumberedLine → Type 0) (kept : List Arc) (fault : PairFault) (numbers : List ℕ) → ((lines : List NumberedLine) → Are lines → kept ≡ named_arcs header.format 1 lines)
    → ((lines : List NumberedLine) → Are lines → length kept ≡ 2 * header.m) → ((lines : List NumberedLine) → Are lines → numbers ≡ map (λ line. line.number) lines)
    → OnNotPaired {A = Bool} (Err fault) (λ found. first_unmirrored kept kept ≡ Some found) → OnRefused {A = Bool} (Err (told_at numbers fault)) (λ f. (lines : List NumberedLine) → Are lines → pairs_fault header at lines ≡ Some f)
told-refused header at Are kept fault numbers all full given first =
    pair-refused fault numbers (λ found. first_unmirrored kept kept ≡ Some found) (λ f. (lines : List NumberedLine) → Are lines → pairs_fault header at lines ≡ Some f)
    (λ found is lines are.
    let same = all lines are in
    not-paired header at _ lines found (kept-count header lines kept same (full lines are)) (ap (λ (arcs : List Arc). first_unmirrored arcs arcs) (sym same) ∙ is) (ap (λ l. slice_index_or l (found.vertex - 1) 0) (given lines are)))
    first

file-of : (header : Header) (at : ℕ) (lines : List NumberedLine) (text : List ℕ) (g : Graph) → HasLines header at lines text → AreLinesOf header lines g → FileOf text g
file-of header at lines text g has are =
    let arcs = ap (named_arcs header.format 1) has.vertices in
    let file = file_from_edges text has.line header has.rest g.edges has.content has.faultless has.is has.body (ap length arcs ∙ are.count) (subst (λ l. AreEdgesOf header.n l g.edges) (sym arcs) are.edges) in
    subst (λ (n : ℕ). FileOf text (record { n = n; edges = g.edges })) (sym are.n) file

-- The text is a file of the graph that its lines name.
pub made-file : (r : Result Graph GraphFault) (header : Header) (at : ℕ) (Are : List NumberedLine → Type 0) (lines : List NumberedLine) (left : Option (List ℕ)) → Are lines → IfSome left (HasLines header at lines) → IfOk r (λ g. (ls : List NumberedLine) → Are ls → AreLinesOf header ls g) → IfOk r (λ g. IfSome left (λ text. FileOf text g))
made-file (Ok g) header at Are lines None are has made = tt
made-file (Ok g) header at Are lines (Some text) are has made = file-of header at lines text g has (made lines are)
made-file (Err fault) header at Are lines left are has made = tt

refused-if : (left : Option (List ℕ)) (header : Header) (at : ℕ) (lines : List NumberedLine) (fault : Fault) → IfSome left (HasLines header at lines) → pairs_fault header at lines ≡ Some fault → IfSome left (λ text. fault_of text ≡ Some fault)
refused-if None header at lines fault has bad = tt
refused-if (Some text) header at lines fault has bad = whole-fault header at lines text has ∙ bad

-- The fault of all lines together is the text's.
pub refused-text : (r : Result Graph GraphFault) (header : Header) (at : ℕ) (Are : List NumberedLine → Type 0) (lines : List NumberedLine) (left : Option (List ℕ)) → Are lines → IfSome left (HasLines header at lines) → OnRefused r (λ fault. (ls : List NumberedLine) → Are ls → pairs_fault header at ls ≡ Some fault) → OnRefused r (λ fault. IfSome left (λ text. fault_of text ≡ Some fault))
refused-text (Ok g) header at Are lines left are has refused = tt
refused-text (Err (Refused line kind)) header at Are lines left are has refused = refused-if left header at lines (record { line = line; kind = kind }) has (refused lines are)
refused-text (Err Failed) header at Are lines left are has refused = tt
refused-text (Err OutOfMemory) header at Are lines left are has refused = tt

same-parts : (line : ℕ) (kind : Kind) (fault : Fault) (o : Option Fault) → o ≡ Some (record { line = line; kind = kind }) → o ≡ Some fault → (line ≡ fault.line) × (kind ≡ fault.kind)
same-parts line kind fault o first second =
    let same : (let f : Fault = record { line = line; kind = kind } in f) ≡ fault = cc in
    (ap (λ (f : Fault). f.line) same, ap (λ (f : Fault). f.kind) same)

-- A text with a fault is refused with it.
pub malformed : (r : Result Graph GraphFault) (left : Option (List ℕ)) → IfOk r (λ g. IfSome left (λ text. FileOf text g)) → OnRefused r (λ fault. IfSome left (λ text. fault_of text ≡ Some fault)) → IfSome left (λ text. (fault : Fault) → fault_of text ≡ Some fault → IsRefusedAs r fault)
malformed r None ok refused = tt
malformed (Ok g) (Some text) ok refused = λ fault bad. let fine = files_have_no_fault text g ok in cc
malformed (Err (Refused line kind)) (Some text) ok refused = λ fault bad. same-parts line kind fault (fault_of text) refused bad
malformed (Err Failed) (Some text) ok refused = λ fault bad. tt
malformed (Err OutOfMemory) (Some text) ok refused = λ fault bad. tt

-- A file of a graph isn't refused.
pub well_formed : (r : Result Graph GraphFault) (left : Option (List ℕ)) → OnRefused r (λ fault. IfSome left (λ text. fault_of text ≡ Some fault)) → IfSome left (λ text. (g : Graph) → FileOf text g → IsNotRefused r)
well_formed r None refused = tt
well_formed (Ok g) (Some text) refused = λ h file. tt
well_formed (Err (Refused line kind)) (Some text) refused = λ h file. let fine = files_have_no_fault text h file in cc
well_formed (Err Failed) (Some text) refused = λ h file. tt
well_formed (Err OutOfMemory) (Some text) refused = λ h file. tt
