-- From the words of a vertex's line to its first fault and to the arcs that it names.
use Rattle.std.proofs.Common.{◌≡◌, ℕ, zero, suc, ◌+◌, ◌-◌, ◌<◌, Bool, true, false, ◌==◌, nat_lt, Option, Some, None, Result, Ok, Err, OnOk, List, [], ◌∷◌, ◌++◌, length, drop, map, All, refl, sym, ap, ◌∙◌, arith, if◌then◌else◌, append_assoc, length-append}
use Rattle.std.specs.Option.{option_or}
use Rattle.std.proofs.lemmas.List.Elements.{All-append, All-cons, All-head, All-push, All-tail}
use Rattle.std.proofs.lemmas.List.{length-map, map-append}
use Rattle.std.proofs.Math.Seq.{drop-append_seam}
use Rattle.std.proofs.lemmas.Bool.Decides.{nat_tests}
use Rattle.pg_text.specs.Text.{words, numbers, is_number, decimal_value}
use Rattle.pg_metis.specs.declared.faults.Kind.{Kind}
use Rattle.pg_metis.specs.declared.faults.Kind.TheVariants.{BadNumber, ShortLine, ZeroWeight}
use Rattle.pg_metis.specs.Fault.{arcs_or_none, named_fault, neighbours_fault, number_fault, row_fault, vertex_fault, weight_fault, weighted_fault}
use Rattle.pg_metis.specs.File.{Format, Header, arcs_in, leading, line_arcs, plain_arc, weighted_arcs}
use Rattle.pg_metis.specs.Rows.{Skips, arcs_by}
use Rattle.pg_metis.proofs.NeighbourLemmas.{left_fault}
use Rattle.pg_metis.proofs.NumberLemmas.{is-number}

-- Numbers before the neighbours have no fault.
past-numbers : (header : Header) (v : ℕ) (passed left : List (List ℕ)) (more many : ℕ) → All (λ word. is_number word ≡ true) passed → many ≡ length passed + more → row_fault header v many (passed ++ left) ≡ row_fault header v more left
past-numbers header v [] left more many are e = ap (λ k. row_fault header v k left) {y = more} (omega arith)
past-numbers header v (word ∷ passed) left more zero are e = absurd (omega arith)
past-numbers header v (word ∷ passed) left more (suc many) are e =
    rw (All-head (λ word. is_number word ≡ true) word passed are) (past-numbers header v passed left more many (All-tail (λ word. is_number word ≡ true) word passed are) (omega arith))

pub skips-more : (many : ℕ) (ws left rest : List (List ℕ)) (word : List ℕ) → Skips many ws left → left ≡ word ∷ rest → is_number word ≡ true → Skips (many + 1) ws rest
skips-more many ws left rest word skips next is = record {
  passed = skips.passed ++ word ∷ [];
  split = skips.split ∙ ap (λ l. skips.passed ++ l) next ∙ sym (append_assoc skips.passed (word ∷ []) rest);
  count = length-append skips.passed (word ∷ []) ∙ ap (λ k. k + 1) skips.count;
  numbers = All-push (λ word. is_number word ≡ true) skips.passed word skips.numbers is;
}

pub rest-of-row : (header : Header) (v many more all : ℕ) (ws left : List (List ℕ)) → Skips many ws left → all ≡ many + more → row_fault header v all ws ≡ row_fault header v more left
rest-of-row header v many more all ws left skips e =
    ap (row_fault header v all) skips.split ∙ past-numbers header v skips.passed left more all skips.numbers (let c = skips.count in omega arith)

pub skips-at : (many count : ℕ) (ws others left : List (List ℕ)) → Skips many ws left → many ≡ count → ws ≡ others → Skips count others left
skips-at many count ws others left skips same are = record {
  passed = skips.passed;
  split = sym are ∙ skips.split;
  count = skips.count ∙ same;
  numbers = skips.numbers;
}

-- What is wrong with a line is what is wrong with its neighbours, where the numbers before them were passed.
pub vertex-left : (header : Header) (v : ℕ) (ws left : List (List ℕ)) → Skips (leading header.format) ws left → vertex_fault header v ws ≡ row_fault header v 0 left
unfolding vertex_fault
vertex-left header v ws left skips = rest-of-row header v (leading header.format) 0 (leading header.format) ws left skips (omega arith)

-- The line ends where a number should stand.
pub short-line : (header : Header) (v many all : ℕ) (ws left : List (List ℕ)) → Skips many ws left → left ≡ [] → many < all → row_fault header v all ws ≡ Some ShortLine
short-line header v many all ws left skips none below =
    rest-of-row header v many (suc (all - many - 1)) all ws left skips (omega arith) ∙ rw none refl

-- A word that should be a number is none.
pub bad-number : (header : Header) (v many all : ℕ) (ws left rest : List (List ℕ)) (word : List ℕ) (kind : Kind) → Skips many ws left → left ≡ word ∷ rest → number_fault word ≡ Some kind → many < all → row_fault header v all ws ≡ Some kind
bad-number header v many all ws left rest word kind skips next bad below =
    rest-of-row header v many (suc (all - many - 1)) all ws left skips (omega arith) ∙ rw (next, bad) refl

numbers-all : (ws : List (List ℕ)) → All (λ word. is_number word ≡ true) ws → numbers ws ≡ Some (map decimal_value ws)
unfolding numbers
numbers-all [] are = refl
numbers-all (word ∷ ws) are =
    rw (is-number word (decimal_value word) (All-head (λ word. is_number word ≡ true) word ws are) refl, numbers-all ws (All-tail (λ word. is_number word ≡ true) word ws are)) refl

-- A word before others that have no fault is a number where its own fault begins with that.
when-none : (is : Bool) (inner fault : Option Kind) → option_or (if is then inner else Some BadNumber) fault ≡ None → (is ≡ true) × (inner ≡ None) × (fault ≡ None)
when-none true None fault e = (refl, refl, e)
when-none true (Some kind) fault e = cc
when-none false inner fault e = cc

all-numbers : (weighted : Bool) (n v : ℕ) (earlier : List ℕ) (ws : List (List ℕ)) → left_fault weighted n v earlier ws ≡ None → All (λ word. is_number word ≡ true) ws
all-numbers weighted n v earlier [] e = λ k d h. absurd (omega arith)
all-numbers false n v earlier (word ∷ ws) e =
    let t = when-none (is_number word) (named_fault n v earlier (decimal_value word)) (neighbours_fault n v (decimal_value word ∷ earlier) ws) e in
    All-cons (λ word. is_number word ≡ true) word ws t.0 (all-numbers false n v (decimal_value word ∷ earlier) ws t.2)
all-numbers true n v earlier (word ∷ []) e =
    let t = when-none (is_number word) (named_fault n v earlier (decimal_value word)) (Some ShortLine) e in
    cc
all-numbers true n v earlier (word ∷ x ∷ ws) e =
    let t = when-none (is_number word) (named_fault n v earlier (decimal_value word)) (option_or (weight_fault x) (weighted_fault n v (decimal_value word ∷ earlier) ws)) e in
    let u = when-none (is_number x) (if decimal_value x == 0 then Some ZeroWeight else None) (weighted_fault n v (decimal_value word ∷ earlier) ws) t.2 in
    All-cons (λ word. is_number word ≡ true) word (x ∷ ws) t.0 (All-cons (λ word. is_number word ≡ true) x ws u.0 (all-numbers true n v (decimal_value word ∷ earlier) ws u.2))

plain-arcs : (v : ℕ) (ws : List (List ℕ)) → map (plain_arc v) (map decimal_value ws) ≡ arcs_by false v ws
plain-arcs v [] = refl
plain-arcs v (word ∷ ws) = ap (λ l. plain_arc v (decimal_value word) ∷ l) (plain-arcs v ws)

weighted-arcs : (n v : ℕ) (earlier : List ℕ) (ws : List (List ℕ)) → weighted_fault n v earlier ws ≡ None → weighted_arcs v (map decimal_value ws) ≡ Some (arcs_by true v ws)
weighted-arcs n v earlier [] e = refl
weighted-arcs n v earlier (word ∷ []) e =
    let t = when-none (is_number word) (named_fault n v earlier (decimal_value word)) (Some ShortLine) e in
    cc
weighted-arcs n v earlier (word ∷ x ∷ ws) e =
    let t = when-none (is_number word) (named_fault n v earlier (decimal_value word)) (option_or (weight_fault x) (weighted_fault n v (decimal_value word ∷ earlier) ws)) e in
    let u = when-none (is_number x) (if decimal_value x == 0 then Some ZeroWeight else None) (weighted_fault n v (decimal_value word ∷ earlier) ws) t.2 in
    rw (weighted-arcs n v (decimal_value word ∷ earlier) ws u.2) refl

left-arcs : (weighted : Bool) (n v : ℕ) (ws : List (List ℕ)) → left_fault weighted n v [] ws ≡ None → (if weighted then weighted_arcs v (map decimal_value ws) else Some (map (plain_arc v) (map decimal_value ws))) ≡ Some (arcs_by weighted v ws)
left-arcs true n v ws e = weighted-arcs n v [] ws e
left-arcs false n v ws e = ap Some (plain-arcs v ws)

row-left : (weighted : Bool) (n v : ℕ) (ws : List (List ℕ)) → (if weighted then weighted_fault n v [] ws else neighbours_fault n v [] ws) ≡ left_fault weighted n v [] ws
row-left true n v ws = refl
row-left false n v ws = refl

enough : (xs ys : List ℕ) (many : ℕ) → length xs ≡ many → nat_lt (length (xs ++ ys)) many ≡ false
enough xs ys many e = let h = length-append xs ys in grind (arith, nat_tests)

arcs-after : (format : Format) (v : ℕ) (xs ys : List ℕ) (many : ℕ) → length xs ≡ many → (if nat_lt (length (xs ++ ys)) many then None else arcs_in format v (drop many (xs ++ ys))) ≡ arcs_in format v ys
arcs-after format v xs ys many e =
    let rest : drop many (xs ++ ys) ≡ ys = ap (λ k. drop k (xs ++ ys)) (sym e) ∙ drop-append_seam xs ys in
    rw (enough xs ys many e, rest) refl

-- The arcs that a line without a fault names.
pub row-arcs : (header : Header) (v : ℕ) (line : List ℕ) (left : List (List ℕ)) → Skips (leading header.format) (words line) left → row_fault header v 0 left ≡ None → arcs_or_none (line_arcs header.format v line) ≡ arcs_by header.format.edge_weights v left
unfolding line_arcs
row-arcs header v line left skips fine =
    let weighted = header.format.edge_weights in
    let none : left_fault weighted header.n v [] left ≡ None = sym (row-left weighted header.n v left) ∙ fine in
    let all : All (λ word. is_number word ≡ true) (skips.passed ++ left) = All-append (λ word. is_number word ≡ true) skips.passed left skips.numbers (all-numbers weighted header.n v [] left none) in
    let given : numbers (words line) ≡ Some (map decimal_value skips.passed ++ map decimal_value left) = ap numbers skips.split ∙ numbers-all (skips.passed ++ left) all ∙ ap Some (map-append decimal_value skips.passed left) in
    let many : length (map decimal_value skips.passed) ≡ leading header.format = length-map skips.passed decimal_value ∙ skips.count in
    rw given (ap arcs_or_none (arcs-after header.format v (map decimal_value skips.passed) (map decimal_value left) (leading header.format) many ∙ left-arcs weighted header.n v left none))

pub ok-both : {T E : Type 0} (r : Result T E) (P Q R : Type 0) → (P → Q → R) → OnOk r P → OnOk r Q → OnOk r R
ok-both (Ok x) P Q R f p q = f p q
ok-both (Err e) P Q R f p q = tt
