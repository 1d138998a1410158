-- A header without a fault has its numbers, and they keep within the limits.
use Rattle.std.proofs.Common.{◌≡◌, ℕ, ◌≤◌, Bool, true, false, cond, leb, Option, Some, None, List, [], ◌∷◌, refl, arith}
use Rattle.std.specs.Prelude.{is_some}
use Rattle.std.specs.Option.{option_or}
use Rattle.std.proofs.lemmas.Bool.{cond-true, le-leb, leb-true}
use Rattle.pg_base.specs.declared.TheConstants.{MAX_EDGES, MAX_VERTICES}
use Rattle.pg_text.specs.Text.{decimal_value, is_number, number}
use Rattle.pg_metis.specs.declared.faults.Kind.{Kind}
use Rattle.pg_metis.specs.declared.faults.Kind.TheVariants.{BadNumber, OverLimit}
use Rattle.pg_metis.specs.File.{Header, Marks, header_of, header_with, marks_of}
use Rattle.pg_metis.specs.Fault.{count_fault, format_fault, header_fault, number_fault}

-- Neither of two has a fault where there is no first one.
pub none_parts : {A : Type 0} (x y : Option A) → option_or x y ≡ None → (x ≡ None) × (y ≡ None)
none_parts None y e = (refl, e)
none_parts (Some a) y e = cc

pub none_if : (b : Bool) (kind : Kind) → cond b None (Some kind) ≡ None → b ≡ true
none_if true kind e = refl
none_if false kind e = cc

pub number_is : (word : List ℕ) → is_number word ≡ true → number word ≡ Some (decimal_value word)
unfolding number
number_is word is = cond-true (is_number word) (Some (decimal_value word)) None is

pub number_of_word : (word : List ℕ) → number_fault word ≡ None → number word ≡ Some (decimal_value word)
number_of_word word none = number_is word (none_if (is_number word) BadNumber none)

count_cases : (a b : Bool) → cond a (cond b None (Some OverLimit)) (Some BadNumber) ≡ None → (a ≡ true) × (b ≡ true)
count_cases true b e = (refl, none_if b OverLimit e)
count_cases false b e = cc

-- A word that should be a number of at most so much is one.
pub count_of_word : (most : ℕ) (word : List ℕ) → count_fault most word ≡ None → (number word ≡ Some (decimal_value word)) × (decimal_value word ≤ most)
count_of_word most word none =
    let both = count_cases (is_number word) (leb (decimal_value word) most) none in
    (number_is word both.0, leb-true (decimal_value word) most both.1)

marks_known : (digits : List ℕ) → format_fault digits ≡ None → (marks : Marks) × (marks_of digits ≡ Some marks)
marks_known digits none = go (marks_of digits) (none_if (is_some (marks_of digits)) _ none)
  where
    go : (o : Option Marks) → is_some o ≡ true → (marks : Marks) × (o ≡ Some marks)
    go None e = cc
    go (Some marks) e = (marks, refl)

with_known : (n m : Option ℕ) (marks : Option Marks) (ncon : Option ℕ) (a b c : ℕ) (k : Marks) → n ≡ Some a → m ≡ Some b → marks ≡ Some k → ncon ≡ Some c → (header : Header) × (header_with n m marks ncon ≡ Some header)
with_known n m marks ncon a b c k p q r s = rw (p, q, r, s) (_, refl)

with_parts : (n m : ℕ) (marks : Option Marks) (ncon : Option ℕ) (header : Header) → header_with (Some n) (Some m) marks ncon ≡ Some header → (header.n ≡ n) × (header.m ≡ m)
with_parts n m None ncon header e = cc
with_parts n m (Some marks) None header e = cc
with_parts n m (Some marks) (Some ncon) header e = (cc, cc)

-- The limits hold of a header of two counts.
counts_within : (n m : List ℕ) (marks : Option Marks) (ncon : Option ℕ) (header : Header) → count_fault MAX_VERTICES n ≡ None → count_fault MAX_EDGES m ≡ None → header_with (number n) (number m) marks ncon ≡ Some header → (header.n ≤ MAX_VERTICES) × (header.m ≤ MAX_EDGES)
counts_within n m marks ncon header p q e =
    let vertices = count_of_word MAX_VERTICES n p in
    let edges = count_of_word MAX_EDGES m q in
    let given : header_with (Some (decimal_value n)) (Some (decimal_value m)) marks ncon ≡ Some header = rw (vertices.0, edges.0) at e in
    let parts = with_parts (decimal_value n) (decimal_value m) marks ncon header given in
    let first = vertices.1 in
    let second = edges.1 in
    (omega arith, omega arith)

pub header_within : (ws : List (List ℕ)) (header : Header) → header_fault ws ≡ None → header_of ws ≡ Some header → (header.n ≤ MAX_VERTICES) × (header.m ≤ MAX_EDGES)
unfolding header_fault header_of
header_within [] header none e = cc
header_within (n ∷ []) header none e = cc
header_within (n ∷ m ∷ []) header none e =
    let counts = none_parts (count_fault MAX_VERTICES n) (count_fault MAX_EDGES m) none in
    counts_within n m (marks_of (48 ∷ [])) (Some 1) header counts.0 counts.1 e
header_within (n ∷ m ∷ fmt ∷ []) header none e =
    let first = none_parts (count_fault MAX_VERTICES n) _ none in
    let second = none_parts (count_fault MAX_EDGES m) _ first.1 in
    counts_within n m (marks_of fmt) (Some 1) header first.0 second.0 e
header_within (n ∷ m ∷ fmt ∷ ncon ∷ []) header none e =
    let first = none_parts (count_fault MAX_VERTICES n) _ none in
    let second = none_parts (count_fault MAX_EDGES m) _ first.1 in
    counts_within n m (marks_of fmt) (number ncon) header first.0 second.0 e
header_within (a ∷ b ∷ c ∷ d ∷ f ∷ ws) header none e = cc

pub header_known : (ws : List (List ℕ)) → header_fault ws ≡ None → (header : Header) × (header_of ws ≡ Some header)
unfolding header_fault header_of
header_known [] none = cc
header_known (n ∷ []) none = cc
header_known (n ∷ m ∷ []) none =
    let counts = none_parts (count_fault MAX_VERTICES n) (count_fault MAX_EDGES m) none in
    with_known (number n) (number m) (marks_of (48 ∷ [])) (Some 1) _ _ _ _ (count_of_word MAX_VERTICES n counts.0).0 (count_of_word MAX_EDGES m counts.1).0 refl refl
header_known (n ∷ m ∷ fmt ∷ []) none =
    let first = none_parts (count_fault MAX_VERTICES n) _ none in
    let second = none_parts (count_fault MAX_EDGES m) _ first.1 in
    let marks = marks_known fmt second.1 in
    with_known (number n) (number m) (marks_of fmt) (Some 1) _ _ _ marks.0 (count_of_word MAX_VERTICES n first.0).0 (count_of_word MAX_EDGES m second.0).0 marks.1 refl
header_known (n ∷ m ∷ fmt ∷ ncon ∷ []) none =
    let first = none_parts (count_fault MAX_VERTICES n) _ none in
    let second = none_parts (count_fault MAX_EDGES m) _ first.1 in
    let third = none_parts (format_fault fmt) _ second.1 in
    let marks = marks_known fmt third.0 in
    with_known (number n) (number m) (marks_of fmt) (number ncon) _ _ _ marks.0 (count_of_word MAX_VERTICES n first.0).0 (count_of_word MAX_EDGES m second.0).0 marks.1 (number_of_word ncon third.1)
header_known (a ∷ b ∷ c ∷ d ∷ f ∷ ws) none = cc

-- A number's word is one, and is worth it.
pub word_of_number : (word : List ℕ) (x : ℕ) → number word ≡ Some x → (is_number word ≡ true) × (decimal_value word ≡ x)
unfolding number
word_of_number word x e = go (is_number word) e
  where
    go : (b : Bool) → cond b (Some (decimal_value word)) None ≡ Some x → (b ≡ true) × (decimal_value word ≡ x)
    go true p = (refl, cc)
    go false p = cc

count_passes : (most : ℕ) (word : List ℕ) (x : ℕ) → number word ≡ Some x → x ≤ most → count_fault most word ≡ None
count_passes most word x given small =
    let parts = word_of_number word x given in
    let same = parts.1 in
    let fits : leb (decimal_value word) most ≡ true = le-leb (decimal_value word) most (omega arith) in
    rw (parts.0, fits) refl

format_passes : (digits : List ℕ) (marks : Marks) → marks_of digits ≡ Some marks → format_fault digits ≡ None
format_passes digits marks e = rw e refl

pub number_passes : (word : List ℕ) (x : ℕ) → number word ≡ Some x → number_fault word ≡ None
number_passes word x given = rw (word_of_number word x given).0 refl

with_some : (n m : Option ℕ) (marks : Option Marks) (ncon : Option ℕ) (header : Header) → header_with n m marks ncon ≡ Some header → (n ≡ Some header.n) × (m ≡ Some header.m) × ((k : Marks) × (marks ≡ Some k)) × ((c : ℕ) × (ncon ≡ Some c))
with_some None m marks ncon header e = cc
with_some (Some n) None marks ncon header e = cc
with_some (Some n) (Some m) None ncon header e = cc
with_some (Some n) (Some m) (Some marks) None header e = cc
with_some (Some n) (Some m) (Some marks) (Some ncon) header e = (cc, cc, (marks, refl), (ncon, refl))

-- A header within the limits has no fault.
pub header_passes : (ws : List (List ℕ)) (header : Header) → header_of ws ≡ Some header → header.n ≤ MAX_VERTICES → header.m ≤ MAX_EDGES → header_fault ws ≡ None
unfolding header_fault header_of
header_passes [] header e vertices edges = cc
header_passes (n ∷ []) header e vertices edges = cc
header_passes (n ∷ m ∷ []) header e vertices edges =
    let parts = with_some (number n) (number m) (marks_of (48 ∷ [])) (Some 1) header e in
    rw (count_passes MAX_VERTICES n header.n parts.0 vertices) (count_passes MAX_EDGES m header.m parts.1 edges)
header_passes (n ∷ m ∷ fmt ∷ []) header e vertices edges =
    let parts = with_some (number n) (number m) (marks_of fmt) (Some 1) header e in
    rw (count_passes MAX_VERTICES n header.n parts.0 vertices, count_passes MAX_EDGES m header.m parts.1 edges) (format_passes fmt parts.2.0 parts.2.1)
header_passes (n ∷ m ∷ fmt ∷ ncon ∷ []) header e vertices edges =
    let parts = with_some (number n) (number m) (marks_of fmt) (number ncon) header e in
    rw (count_passes MAX_VERTICES n header.n parts.0 vertices, count_passes MAX_EDGES m header.m parts.1 edges, format_passes fmt parts.2.0 parts.2.1) (number_passes ncon parts.3.0 parts.3.1)
header_passes (a ∷ b ∷ c ∷ d ∷ f ∷ ws) header e vertices edges = cc
