-- The bits of a set of ranks.
use Rattle.std.proofs.Common.{◌≡◌, ◌≢◌, ℕ, ◌+◌, ◌*◌, ◌^◌, ◌/◌, ◌%◌, ◌<◌, ◌≤◌, Bool, true, false, not, ◌&&◌, ◌||◌, cond, eqb, List, [], ◌∷◌, All, length, get_or, filter, bit_and, bit_or, w32, sym, ap, refl, ◌∙◌, inl, inr, arith, zero, suc}
use Rattle.std.specs.Int.{bit_at, trailing_zeros, bit_not}
use Rattle.std.specs.Int.Count.{ones, ones_step}
use Rattle.std.proofs.Math.Nat.{mul-div-le, pow-suc}
use Rattle.std.proofs.lemmas.Nat.{ones-le}
use Rattle.std.proofs.lemmas.List.Filters.{length-filter_both}
use Rattle.std.proofs.lemmas.List.FromFn.{length-range_with_len}
use Rattle.std.proofs.lemmas.Bool.{cases_eq, cases_lt, eq-eqb, ne_eqb}
use Rattle.std.proofs.lemmas.Nat.Bits.{bit_at_set_same, bit_at_set_other, bit_at_clear_same, bit_at_clear_other, bit_at-trailing_zeros, bit_at_above, bit_at-zero, bit_at-suc, bit_at-lt, bit_at_lowest}
use Rattle.std.proofs.lemmas.List.Elements.{filter_passes}
use Rattle.pg_adj.specs.declared.rank_sets.RankSet.{RankSet}
use Rattle.std.specs.List.{range_with_len}
use Rattle.pg_adj.specs.RankSets.{has, members}

or_true : (a : Bool) → (a || true) ≡ true
or_true true = refl
or_true false = refl

or_false : (a : Bool) → (a || false) ≡ a
or_false true = refl
or_false false = refl

and_false : (a : Bool) → (a && false) ≡ false
and_false true = refl
and_false false = refl

and_true : (a : Bool) → (a && true) ≡ a
and_true true = refl
and_true false = refl

pub put_in : (n k r : ℕ) → k < 32 → eqb (bit_at (bit_or n (1 * 2 ^ k % 4294967296)) r) 1 ≡ (eqb (bit_at n r) 1 || eqb r k)
put_in n k r l = elim (cases_eq r k) [
  | inl same ↦
      let at : bit_at (bit_or n (1 * 2 ^ k % 4294967296)) r ≡ 1 = ap (λ (i : ℕ). bit_at (bit_or n (1 * 2 ^ k % 4294967296)) i) same ∙ bit_at_set_same w32 n k l in
      ap (λ (b : ℕ). eqb b 1) at ∙ sym (ap (λ (b : Bool). eqb (bit_at n r) 1 || b) (eq-eqb r k same) ∙ or_true (eqb (bit_at n r) 1))
  | inr other ↦
      ap (λ (b : ℕ). eqb b 1) (bit_at_set_other w32 n k l r other) ∙ sym (ap (λ (b : Bool). eqb (bit_at n r) 1 || b) (ne_eqb r k other) ∙ or_false (eqb (bit_at n r) 1))
]

pub took_out : (n k r : ℕ) → k < 32 → n < 4294967296 → bit_and n (bit_not w32 (1 * 2 ^ k % 4294967296)) < 4294967296
    → eqb (bit_at (bit_and n (bit_not w32 (1 * 2 ^ k % 4294967296))) r) 1 ≡ (eqb (bit_at n r) 1 && not (eqb r k))
took_out n k r l fits fits' = elim (cases_eq r k) [
  | inl same ↦
      let m : ℕ = bit_and n (bit_not w32 (1 * 2 ^ k % 4294967296)) in
      let at : bit_at m r ≡ 0 = ap (λ (i : ℕ). bit_at m i) same ∙ bit_at_clear_same w32 n k l in
      ap (λ (b : ℕ). eqb b 1) at ∙ sym (ap (λ (b : Bool). eqb (bit_at n r) 1 && not b) (eq-eqb r k same) ∙ and_false (eqb (bit_at n r) 1))
  | inr other ↦
      let m : ℕ = bit_and n (bit_not w32 (1 * 2 ^ k % 4294967296)) in
      let at : bit_at m r ≡ bit_at n r = elim (cases_lt r 32) [
        | inl less ↦ bit_at_clear_other w32 n k l r less other
        | inr least ↦ bit_at_above m 32 r fits' least ∙ sym (bit_at_above n 32 r fits least)
      ] in
      ap (λ (b : ℕ). eqb b 1) at ∙ sym (ap (λ (b : Bool). eqb (bit_at n r) 1 && not b) (ne_eqb r k other) ∙ and_true (eqb (bit_at n r) 1))
]

keep_same : (x : ℕ) (b b' : Bool) (xs ys : List ℕ) → b' ≡ b → ys ≡ xs → cond b' (x ∷ ys) ys ≡ cond b (x ∷ xs) xs
keep_same x b b' xs ys e f = rw (e, f) refl

-- without the lowest rank there are the ranks above it
module _ (p p' : ℕ → Bool) (q : ℕ) (others : (r : ℕ) → p' r ≡ (p r && not (eqb r q))) where
  above_same : (first count : ℕ) → q < first → filter p' (range_with_len first count) ≡ filter p (range_with_len first count)
  above_same first zero l = refl
  above_same first (suc count) l =
      let same : p' first ≡ p first = others first ∙ (ap (λ (b : Bool). p first && not b) (ne_eqb first q (λ e. absurd (omega arith))) ∙ and_true (p first)) in
      keep_same first (p first) (p' first) (filter p (range_with_len (first + 1) count)) (filter p' (range_with_len (first + 1) count)) same (above_same (first + 1) count (omega arith))

  pub lowest_first : (first count : ℕ) → first ≤ q → q < first + count → p q ≡ true → ((r : ℕ) → r < q → p r ≡ false)
      → filter p (range_with_len first count) ≡ q ∷ filter p' (range_with_len first count)
  lowest_first first zero l m at below = absurd (omega arith)
  lowest_first first (suc count) l m at below = elim (cases_eq first q) [
    | inl same ↦
        let here : p first ≡ true = ap p same ∙ at in
        let gone : p' first ≡ false = others first ∙ (ap (λ (b : Bool). p first && not b) (eq-eqb first q same) ∙ and_false (p first)) in
        rw (here, gone) (ap (λ (x : ℕ). x ∷ filter p (range_with_len (first + 1) count)) same
        ∙ ap (λ (xs : List ℕ). q ∷ xs) (sym (above_same (first + 1) count (omega arith))))
    | inr other ↦
        let absent : p first ≡ false = below first (omega arith) in
        let gone : p' first ≡ false = others first ∙ ap (λ (b : Bool). b && not (eqb first q)) absent in
        rw (absent, gone) (lowest_first (first + 1) count (omega arith) (omega arith) at below)
  ]

-- the lowest one that is set
pub lowest_set : (n : ℕ) → n ≢ 0 → n < 4294967296 → (trailing_zeros w32 n < 32) × (bit_at n (trailing_zeros w32 n) ≡ 1) × ((i : ℕ) → i < trailing_zeros w32 n → bit_at n i ≡ 0)
lowest_set n some fits = bit_at-trailing_zeros w32 n (omega arith) fits

pub lowest_member : (set rest : RankSet) (q : ℕ) → q < 32 → ((r : ℕ) → has rest r ≡ (has set r && not (eqb r q))) → has set q ≡ true → ((r : ℕ) → r < q → has set r ≡ false)
    → members set ≡ q ∷ members rest
unfolding members
lowest_member set rest q l others at below = lowest_first (has set) (has rest) q others 0 32 (omega arith) (omega arith) at below

none_passes : (p : ℕ → Bool) → ((r : ℕ) → p r ≡ false) → (first count : ℕ) → filter p (range_with_len first count) ≡ []
none_passes p none first zero = refl
none_passes p none first (suc count) = rw (none first) (none_passes p none (first + 1) count)

pub no_member : (set : RankSet) → set.0 ≡ 0 → members set ≡ []
unfolding members
no_member set none = none_passes (has set) (λ r. ap (λ (n : ℕ). eqb (bit_at n r) 1) none ∙ ap (λ (b : ℕ). eqb b 1) (bit_at-zero r)) 0 32

pub members_within : (set : RankSet) (ranks : ℕ) → ((r : ℕ) → ranks ≤ r → has set r ≡ false) → All (λ r. r < ranks) (members set)
unfolding members
members_within set ranks none = λ k d l.
    let at : has set (get_or (members set) k d) ≡ true = filter_passes (has set) (range_with_len 0 32) k d l in
    elim (cases_lt (get_or (members set) k d) ranks) [
      | inl less ↦ less
      | inr least ↦ let absent = none (get_or (members set) k d) least in cc (at, absent)
    ]

same_count : (x y : ℕ) (b b' : Bool) (xs ys : List ℕ) → b ≡ b' → length xs ≡ length ys → length (cond b (x ∷ xs) xs) ≡ length (cond b' (y ∷ ys) ys)
same_count x y b true xs ys e f = rw e (omega (arith, f))
same_count x y b false xs ys e f = rw e f

next_counted : (p p' : ℕ → Bool) → ((r : ℕ) → p (suc r) ≡ p' r) → (first first' count : ℕ) → first ≡ suc first'
    → length (filter p (range_with_len first count)) ≡ length (filter p' (range_with_len first' count))
next_counted p p' next first first' zero at = refl
next_counted p p' next first first' (suc count) at =
    same_count first first' (p first) (p' first') (filter p (range_with_len (first + 1) count)) (filter p' (range_with_len (first' + 1) count)) (ap p at ∙ next first')
    (next_counted p p' next (first + 1) (first' + 1) count (omega arith))

lowest_counted : (b : ℕ) (xs : List ℕ) → b < 2 → length (cond (eqb b 1) (0 ∷ xs) xs) ≡ b + length xs
lowest_counted b xs l = elim (cases_eq b 1) [
  | inl one ↦ rw (eq-eqb b 1 one) (omega arith)
  | inr other ↦ rw (ne_eqb b 1 other) (omega arith)
]

-- as many bits are set as there are places with a set bit
bits_counted : (k n : ℕ) → n < 2 ^ k → ones n ≡ length (filter (λ r. eqb (bit_at n r) 1) (range_with_len 0 k))
bits_counted zero n l = omega (arith, ones-le 0 n l)
bits_counted (suc k) n l =
    let half : n / 2 < 2 ^ k = omega (arith, mul-div-le n 2, pow-suc 2 k, l) in
    let above : List ℕ = filter (λ r. eqb (bit_at n r) 1) (range_with_len 1 k) in
    let rest : length above ≡ length (filter (λ r. eqb (bit_at (n / 2) r) 1) (range_with_len 0 k)) =
    next_counted (λ r. eqb (bit_at n r) 1) (λ r. eqb (bit_at (n / 2) r) 1) (λ r. ap (λ (b : ℕ). eqb b 1) (bit_at-suc n r)) 1 0 k refl in
    omega (arith, ones_step n, bits_counted k (n / 2) half, rest, bit_at_lowest n, lowest_counted (bit_at n 0) above (bit_at-lt n 0))

pub members_counted : (set : RankSet) → set.0 < 4294967296 → ones set.0 ≡ length (members set)
unfolding members
members_counted set l = bits_counted 32 set.0 l

pub members-le : (set : RankSet) → length (members set) ≤ 32
unfolding members
members-le set = omega (arith, length-filter_both (has set) (λ r. not (has set r)) (λ r. refl) (range_with_len 0 32), length-range_with_len 0 32)
