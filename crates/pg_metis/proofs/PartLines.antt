-- Which ranks lines give, and that they have no fault exactly where they give some.
use Rattle.std.proofs.Common.{◌≡◌, ℕ, zero, suc, ◌<◌, ◌≤◌, Bool, true, false, cond, nat_lt, Option, Some, None, List, [], ◌∷◌, length, drop, get_or, refl, sym, ap, ◌∙◌, subst, arith, All}
use Rattle.std.proofs.lemmas.Bool.{cond-true, lt-ltb, ltb-true}
use Rattle.std.proofs.lemmas.List.Elements.{All-cons, All-head, All-nil, All-tail}
use Rattle.pg_text.specs.Text.{decimal_value, is_number, numbers, words}
use Rattle.pg_metis.specs.declared.parts_faults.PartsKind.{PartsKind}
use Rattle.pg_metis.specs.declared.parts_faults.PartsKind.TheVariants.{BadNumber, OutOfRange}
use Rattle.pg_metis.specs.Content.{NumberedLine}
use Rattle.pg_metis.specs.Parts.{part_at_line, part_fault, part_lines_fault, surplus_fault}
use Rattle.pg_metis.proofs.ContentLemmas.{bytes_of}
use Rattle.pg_metis.proofs.HeaderFaults.{none_parts, number_is, word_of_number}
use Rattle.pg_metis.proofs.LineFaults.{numbers_more, numbers_start, no_numbers}

-- The lines give these ranks, one each, and those that follow have no word.
abbrev pub GivesParts : ℕ → List (List ℕ) → List ℕ → Type 0
GivesParts ranks ls [] = All (λ line. words line ≡ []) ls
GivesParts ranks [] (part ∷ parts) = ⊥
GivesParts ranks (line ∷ ls) (part ∷ parts) = (numbers (words line) ≡ Some (part ∷ [])) × (part < ranks) × GivesParts ranks ls parts

fault_cases : (a b : Bool) (more : Option PartsKind) → cond a (cond b more (Some OutOfRange)) (Some BadNumber) ≡ None → (a ≡ true) × (b ≡ true) × (more ≡ None)
fault_cases true true more e = (refl, refl, e)
fault_cases true false more e = cc
fault_cases false b more e = cc

no_surplus : (ws : List (List ℕ)) → surplus_fault ws ≡ None → ws ≡ []
no_surplus [] e = refl
no_surplus (w ∷ ws) e = cc

no_part_fault : (line : ℕ) (o : Option PartsKind) → part_at_line line o ≡ None → o ≡ None
no_part_fault line None e = refl
no_part_fault line (Some kind) e = cc

-- The words of a line without a fault are one number below the number of ranks.
part_of_words : (ranks : ℕ) (ws : List (List ℕ)) → part_fault ranks ws ≡ None → (part : ℕ) × (numbers ws ≡ Some (part ∷ [])) × (part < ranks)
unfolding numbers
part_of_words ranks [] none = cc
part_of_words ranks (word ∷ more) none =
    let parts = fault_cases (is_number word) (nat_lt (decimal_value word) ranks) (surplus_fault more) none in
    let alone : [] ≡ more = sym (no_surplus more parts.2) in (
      decimal_value word,
      subst (λ (ws : List (List ℕ)). numbers (word ∷ ws) ≡ Some (decimal_value word ∷ [])) alone (numbers_more word [] (decimal_value word) [] (number_is word parts.0) refl),
      ltb-true (decimal_value word) ranks parts.1,
    )

pub part_passes : (ranks : ℕ) (ws : List (List ℕ)) (part : ℕ) → numbers ws ≡ Some (part ∷ []) → part < ranks → part_fault ranks ws ≡ None
unfolding numbers
part_passes ranks [] part given below = cc
part_passes ranks (word ∷ w ∷ ws) part given below = absurd (no_numbers w ws (numbers_start word (w ∷ ws) part [] given).1)
part_passes ranks (word ∷ []) part given below =
    let is = word_of_number word part (numbers_start word [] part [] given).0 in
    let less : nat_lt (decimal_value word) ranks ≡ true = lt-ltb (decimal_value word) ranks (let same = is.1 in omega arith) in
    cond-true (is_number word) _ (Some BadNumber) is.0 ∙ cond-true (nat_lt (decimal_value word) ranks) None (Some OutOfRange) less

pub blank_lines : (ranks : ℕ) (rows : List NumberedLine) → part_lines_fault ranks 0 rows ≡ None → All (λ line. words line ≡ []) (bytes_of rows)
blank_lines ranks [] none = All-nil (λ line. words line ≡ [])
blank_lines ranks (line ∷ rest) none =
    let parts = none_parts (part_at_line line.number (surplus_fault (words line.bytes))) _ none in
    let here = no_surplus (words line.bytes) (no_part_fault line.number (surplus_fault (words line.bytes)) parts.0) in
    All-cons (λ line. words line ≡ []) line.bytes (bytes_of rest) here (blank_lines ranks rest parts.1)

blank_lines_pass : (ranks : ℕ) (rows : List NumberedLine) → All (λ line. words line ≡ []) (bytes_of rows) → part_lines_fault ranks 0 rows ≡ None
blank_lines_pass ranks [] all = refl
blank_lines_pass ranks (line ∷ rest) all =
    let here = All-head (λ line. words line ≡ []) line.bytes (bytes_of rest) all in
    let later = blank_lines_pass ranks rest (All-tail (λ line. words line ≡ []) line.bytes (bytes_of rest) all) in
    rw (here, later) refl

-- Lines without a fault, of which there are enough, give a rank each.
pub lines_give : (ranks n : ℕ) (rows : List NumberedLine) → part_lines_fault ranks n rows ≡ None → n ≤ length rows → (parts : List ℕ) × (length parts ≡ n) × GivesParts ranks (bytes_of rows) parts
lines_give ranks zero rows none enough = ([], refl, blank_lines ranks rows none)
lines_give ranks (suc n) [] none enough = absurd (omega arith)
lines_give ranks (suc n) (line ∷ rest) none enough =
    let split = none_parts (part_at_line line.number (part_fault ranks (words line.bytes))) _ none in
    let here = part_of_words ranks (words line.bytes) (no_part_fault line.number (part_fault ranks (words line.bytes)) split.0) in
    let later = lines_give ranks n rest split.1 (omega arith) in
    (here.0 ∷ later.0, ap suc later.1, (here.1, here.2, later.2))

-- Lines that give ranks are enough, and have no fault.
pub lines_pass : (ranks n : ℕ) (rows : List NumberedLine) (parts : List ℕ) → length parts ≡ n → GivesParts ranks (bytes_of rows) parts → (part_lines_fault ranks n rows ≡ None) × (n ≤ length rows)
lines_pass ranks zero rows [] count gives = (blank_lines_pass ranks rows gives, omega arith)
lines_pass ranks (suc n) rows [] count gives = absurd (omega arith)
lines_pass ranks zero rows (part ∷ parts) count gives = absurd (omega arith)
lines_pass ranks (suc n) [] (part ∷ parts) count gives = absurd gives
lines_pass ranks (suc n) (line ∷ rest) (part ∷ parts) count gives =
    let here = part_passes ranks (words line.bytes) part gives.0 gives.1 in
    let later = lines_pass ranks n rest parts (omega arith) gives.2 in
    let enough = later.1 in
    (rw (here, later.0) refl, omega arith)

-- What each place of the lines and of the ranks has.
pub record AreGiven (ranks : ℕ) (ls : List (List ℕ)) (parts : List ℕ) : Type 0 where
  pub enough : length parts ≤ length ls
  pub each : (i : ℕ) → i < length parts → numbers (words (get_or ls i [])) ≡ Some (get_or parts i 0 ∷ [])
  pub below : All (λ part. part < ranks) parts
  pub nothing_after : All (λ line. words line ≡ []) (drop (length parts) ls)

pub given_each : (ranks : ℕ) (ls : List (List ℕ)) (parts : List ℕ) → GivesParts ranks ls parts → AreGiven ranks ls parts
given_each ranks ls [] gives = record {
  enough = omega arith;
  each = λ i within. absurd (omega arith);
  below = All-nil (λ part. part < ranks);
  nothing_after = gives;
}
given_each ranks [] (part ∷ parts) gives = absurd gives
given_each ranks (line ∷ ls) (part ∷ parts) gives =
    let later = given_each ranks ls parts gives.2 in
    let enough = later.enough in
    record {
      enough = omega arith;
      each = first_each (λ i. numbers (words (get_or (line ∷ ls) i [])) ≡ Some (get_or (part ∷ parts) i 0 ∷ [])) (length parts) gives.0 later.each;
      below = All-cons (λ part. part < ranks) part parts gives.1 later.below;
      nothing_after = later.nothing_after;
    }
  where
    first_each : (P : ℕ → Type 0) (n : ℕ) → P zero → ((i : ℕ) → i < n → P (suc i)) → (i : ℕ) → i < suc n → P i
    first_each P n first later zero within = first
    first_each P n first later (suc i) within = later i (omega arith)

pub each_given : (ranks : ℕ) (ls : List (List ℕ)) (parts : List ℕ) → AreGiven ranks ls parts → GivesParts ranks ls parts
each_given ranks ls [] given = given.nothing_after
each_given ranks [] (part ∷ parts) given = let enough = given.enough in absurd (omega arith)
each_given ranks (line ∷ ls) (part ∷ parts) given =
    let enough = given.enough in (
      given.each zero (omega arith),
      All-head (λ part. part < ranks) part parts given.below,
      each_given ranks ls parts (record {
        enough = omega arith;
        each = λ i within. given.each (suc i) (omega arith);
        below = All-tail (λ part. part < ranks) part parts given.below;
        nothing_after = given.nothing_after;
      }),
    )
