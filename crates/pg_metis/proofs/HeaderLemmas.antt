-- From the words of a line to the header that they tell, and its first fault.
use Rattle.std.proofs.Common.{◌≡◌, ℕ, true, false, Option, Some, None, is_some, option_and_then, MatchOption, List, [], ◌∷◌, unwrap_or, Bor, max, refl, sym, ap, ◌∙◌, if◌then◌else◌}
use Rattle.std.specs.Option.{option_map, option_or}
use Rattle.pg_base.specs.declared.TheConstants.{MAX_EDGES, MAX_VERTICES}
use Rattle.pg_text.specs.Text.{number, decimal_value}
use Rattle.pg_metis.specs.declared.faults.Kind.{Kind}
use Rattle.pg_metis.specs.declared.faults.Kind.TheVariants.{HeaderWords}
use Rattle.pg_metis.specs.declared.headers.Marks.{Marks as MarksFields}
use Rattle.pg_metis.specs.Fault.{header_fault, count_fault, format_fault, number_fault}
use Rattle.pg_metis.specs.File.{Format, Header, Marks, header_of, format_of, header_with, marks_of}
use Rattle.pg_metis.specs.Headers.{AreOneHeader, marks_in}

-- The first of these words was taken where there was one.
abbrev Next : List (List ℕ) → Option (Bor (List ℕ)) → List (List ℕ) → Type 0
Next ws r rest = MatchOption r ((ws ≡ []) × (rest ≡ [])) (λ x. ws ≡ x.now ∷ rest)

pub no-word : (ws : List (List ℕ)) → ws ≡ [] → header_fault ws ≡ Some HeaderWords
unfolding header_fault
no-word ws e = rw e refl

pub one-word : (ws : List (List ℕ)) (n : List ℕ) (rest : List (List ℕ)) → ws ≡ n ∷ rest → rest ≡ [] → header_fault ws ≡ Some HeaderWords
unfolding header_fault
one-word ws n rest e none = rw (e, none) refl

five-words : (n m a b c : List ℕ) (rest : List (List ℕ)) → header_fault (n ∷ m ∷ a ∷ b ∷ c ∷ rest) ≡ Some HeaderWords
unfolding header_fault
five-words n m a b c rest = refl

five-left : (n m : List ℕ) (ws2 ws3 ws4 ws5 : List (List ℕ)) (r3 r4 r5 : Option (Bor (List ℕ))) → Next ws2 r3 ws3 → Next ws3 r4 ws4 → Next ws4 r5 ws5 → true ≡ is_some r5 → header_fault (n ∷ m ∷ ws2) ≡ Some HeaderWords
five-left n m ws2 ws3 ws4 ws5 r3 r4 None x y z more = cc
five-left n m ws2 ws3 ws4 ws5 r3 None (Some c) x y z more = let e : [] ≡ c.now ∷ ws5 = sym y.1 ∙ z in cc
five-left n m ws2 ws3 ws4 ws5 None (Some b) (Some c) x y z more = let e : [] ≡ b.now ∷ ws4 = sym x.1 ∙ y in cc
five-left n m ws2 ws3 ws4 ws5 (Some a) (Some b) (Some c) x y z more = rw (x, y, z) (five-words n m a.now b.now c.now ws5)

-- More than four words were there.
pub past-four : (ws ws1 ws2 ws3 ws4 ws5 : List (List ℕ)) (n m : List ℕ) (r3 r4 r5 : Option (Bor (List ℕ))) → ws ≡ n ∷ ws1 → ws1 ≡ m ∷ ws2 → Next ws2 r3 ws3 → Next ws3 r4 ws4 → Next ws4 r5 ws5 → true ≡ is_some r5 → header_fault ws ≡ Some HeaderWords
past-four ws ws1 ws2 ws3 ws4 ws5 n m r3 r4 r5 first second x y z more = rw (first, second) (five-left n m ws2 ws3 ws4 ws5 r3 r4 r5 x y z more)

or-none : (fault : Option Kind) → fault ≡ option_or fault None
or-none None = refl
or-none (Some kind) = refl

two-words : (n m : List ℕ) → AreOneHeader (n ∷ m ∷ []) (n ∷ m ∷ (48 ∷ []) ∷ (49 ∷ []) ∷ [])
unfolding header_of header_fault number decimal_value
two-words n m = record {
  header = refl;
  fault = ap (option_or (count_fault MAX_VERTICES n)) (or-none (count_fault MAX_EDGES m));
}

three-words : (n m digits : List ℕ) → AreOneHeader (n ∷ m ∷ digits ∷ []) (n ∷ m ∷ digits ∷ (49 ∷ []) ∷ [])
unfolding header_of header_fault number decimal_value
three-words n m digits = record {
  header = refl;
  fault = ap (λ f. option_or (count_fault MAX_VERTICES n) (option_or (count_fault MAX_EDGES m) f)) (or-none (format_fault digits));
}

four-left : (n m : List ℕ) (ws2 ws3 ws4 ws5 : List (List ℕ)) (r3 r4 r5 : Option (Bor (List ℕ))) (d e : Bor (List ℕ)) → Next ws2 r3 ws3 → Next ws3 r4 ws4 → Next ws4 r5 ws5 → false ≡ is_some r5 → d.now ≡ 48 ∷ [] → e.now ≡ 49 ∷ [] → AreOneHeader (n ∷ m ∷ ws2) (n ∷ m ∷ (unwrap_or r3 d).now ∷ (unwrap_or r4 e).now ∷ [])
four-left n m ws2 ws3 ws4 ws5 None None r5 d e x y z end is_d is_e = rw (x.0, is_d, is_e) (two-words n m)
four-left n m ws2 ws3 ws4 ws5 None (Some b) r5 d e x y z end is_d is_e = let h : [] ≡ b.now ∷ ws4 = sym x.1 ∙ y in cc
four-left n m ws2 ws3 ws4 ws5 (Some a) None r5 d e x y z end is_d is_e = rw (x, y.0, is_e) (three-words n m a.now)
four-left n m ws2 ws3 ws4 ws5 (Some a) (Some b) None d e x y z end is_d is_e = rw (x, y, z.0) (record { header = refl; fault = refl })
four-left n m ws2 ws3 ws4 ws5 (Some a) (Some b) (Some c) d e x y z end is_d is_e = cc

-- Two to four words were there.
pub at-most-four : (ws ws1 ws2 ws3 ws4 ws5 : List (List ℕ)) (n m : List ℕ) (r3 r4 r5 : Option (Bor (List ℕ))) (d e : Bor (List ℕ)) → ws ≡ n ∷ ws1 → ws1 ≡ m ∷ ws2 → Next ws2 r3 ws3 → Next ws3 r4 ws4 → Next ws4 r5 ws5 → false ≡ is_some r5 → d.now ≡ 48 ∷ [] → e.now ≡ 49 ∷ [] → AreOneHeader ws (n ∷ m ∷ (unwrap_or r3 d).now ∷ (unwrap_or r4 e).now ∷ [])
at-most-four ws ws1 ws2 ws3 ws4 ws5 n m r3 r4 r5 d e first second x y z end is_d is_e = rw (first, second) (four-left n m ws2 ws3 ws4 ws5 r3 r4 r5 d e x y z end is_d is_e)

-- The format that marks and a number of weights tell.
pub format-told : (digits ncon : List ℕ) (marks : MarksFields) (c weights : ℕ) → Some (marks_in marks) ≡ marks_of digits → number ncon ≡ Some c → weights ≡ (if marks.vertices then max c 1 else 0) → option_and_then (λ (m : Marks). option_map (format_of m) (number ncon)) (marks_of digits) ≡ Some (record { sizes = marks.sizes; vertex_weights = weights; edge_weights = marks.edges })
format-told digits ncon marks c weights e is w = rw (sym e, is, w) refl

pub fault-first : (ws : List (List ℕ)) (n m digits ncon : List ℕ) (kind : Kind) → AreOneHeader ws (n ∷ m ∷ digits ∷ ncon ∷ []) → count_fault MAX_VERTICES n ≡ Some kind → header_fault ws ≡ Some kind
unfolding header_fault
fault-first ws n m digits ncon kind same first = same.fault ∙ rw first refl

pub fault-second : (ws : List (List ℕ)) (n m digits ncon : List ℕ) (kind : Kind) → AreOneHeader ws (n ∷ m ∷ digits ∷ ncon ∷ []) → count_fault MAX_VERTICES n ≡ None → count_fault MAX_EDGES m ≡ Some kind → header_fault ws ≡ Some kind
unfolding header_fault
fault-second ws n m digits ncon kind same first second = same.fault ∙ rw (first, second) refl

-- The fault of the last two words is the header's where the first two have none.
pub fault-last : (ws : List (List ℕ)) (n m digits ncon : List ℕ) → AreOneHeader ws (n ∷ m ∷ digits ∷ ncon ∷ []) → count_fault MAX_VERTICES n ≡ None → count_fault MAX_EDGES m ≡ None → header_fault ws ≡ option_or (format_fault digits) (number_fault ncon)
unfolding header_fault
fault-last ws n m digits ncon same first second = same.fault ∙ rw (first, second) refl

header-with : (n m : ℕ) (marks : Option Marks) (ncon : Option ℕ) (format : Format) → option_and_then (λ (t : Marks). option_map (format_of t) ncon) marks ≡ Some format → header_with (Some n) (Some m) marks ncon ≡ Some (record { n = n; m = m; format = format })
header-with n m None ncon format e = cc
header-with n m (Some marks) None format e = cc
header-with n m (Some marks) (Some c) format e =
    let same : format_of marks c ≡ format = cc in
    ap (λ (f : Format). let h : Header = record { n = n; m = m; format = f } in Some h) same

pub header-told : (ws : List (List ℕ)) (n m digits ncon : List ℕ) (a b : ℕ) (format : Format) → AreOneHeader ws (n ∷ m ∷ digits ∷ ncon ∷ []) → number n ≡ Some a → number m ≡ Some b → option_and_then (λ (t : Marks). option_map (format_of t) (number ncon)) (marks_of digits) ≡ Some format → header_of ws ≡ Some (record { n = a; m = b; format = format })
unfolding header_of
header-told ws n m digits ncon a b format same first second told = same.header ∙ rw (first, second) (header-with a b (marks_of digits) (number ncon) format told)
