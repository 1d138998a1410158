-- The lanes of a group counted in order. Each rank has w lanes out, side by side, so the lane of r to s has the number
-- r * w + place_of r s.
use Rattle.std.proofs.Common.{◌≡◌, ◌≢◌, inl, inr, ℕ, zero, suc, ◌+◌, ◌-◌, ◌*◌, ◌/◌, ◌%◌, ◌<◌, ◌≤◌, sym, ap, ◌∙◌, arith}
use Rattle.std.specs.Prelude.{nat_lt, if◌then◌else◌}
use Rattle.std.proofs.lemmas.Bool.{cases_lt}
use Rattle.std.proofs.lemmas.Bool.Decides.{nat_tests}
use Rattle.std.proofs.lemmas.Nat.{same_from_place, row_fits, div-add-mod', div_below, mod_below}
use Rattle.pg_group.specs.Ranked.{place_of}
use Rattle.pg_group.proofs.ByRank.{place_below, place_above, place_stands}

-- the number of the lane at place k among the lanes out of r
abbrev pub lane_out : ℕ → ℕ → ℕ → ℕ
lane_out w r k = r * w + k

-- the number of the lane at place k among the lanes in of s: from rank k, or from the next one where k isn't below s
abbrev pub lane_in : ℕ → ℕ → ℕ → ℕ
lane_in w s k = if nat_lt k s then k * w + (s - 1) else (k + 1) * w + s

in_below : (w s k : ℕ) → k < s → lane_in w s k ≡ k * w + (s - 1)
in_below w s k h = grind (arith, nat_tests)

in_above : (w s k : ℕ) → s ≤ k → lane_in w s k ≡ (k + 1) * w + s
in_above w s k h = grind (arith, nat_tests)

-- the lane of r to s, found among the lanes in of s
pub in_of : (w r s : ℕ) → r ≢ s → lane_in w s (place_of s r) ≡ r * w + place_of r s
in_of w r s apart =
    elim (cases_lt r s) [
      | inl h ↦
          let e : place_of s r ≡ r = place_below s r h in
          let f : place_of r s ≡ s - 1 = omega (arith, place_above r s h) in
          ap (lane_in w s) e ∙ in_below w s r h ∙ ap (λ x. r * w + x) (sym f)
      | inr h ↦
          let below : s < r = omega arith in
          let e : place_of s r + 1 ≡ r = omega (arith, place_above s r below) in
          let f : place_of r s ≡ s = place_below r s below in
          in_above w s (place_of s r) (omega arith) ∙ ap (λ x. x * w + s) e ∙ ap (λ x. r * w + x) (sym f)
    ]

pub out_up : (w r j k : ℕ) → j < k → lane_out w r j < lane_out w r k
out_up w r j k h = omega arith

pub in_up : (w s j k : ℕ) → 0 < w → j < k → lane_in w s j < lane_in w s k
in_up w s j k some h =
    elim (cases_lt k s) [
      | inl b ↦ omega (arith, in_below w s j (omega arith), in_below w s k b, row_fits j w k w h (omega arith))
      | inr b ↦ elim (cases_lt j s) [
        | inl a ↦ omega (arith, in_below w s j a, in_above w s k b, row_fits j w (k + 1) w (omega arith) (omega arith))
        | inr a ↦ omega (arith, in_above w s j a, in_above w s k b, row_fits (j + 1) w (k + 1) w (omega arith) (omega arith))
      ]
    ]

pub out_apart : (w r k t l : ℕ) → k < w → l < w → lane_out w r k ≡ lane_out w t l → r ≡ t
out_apart w r k t l k_in l_in same = (same_from_place r k t l w k_in l_in same).0

pub in_apart : (w s k t l : ℕ) → s ≤ w → t ≤ w → k < w → l < w → lane_in w s k ≡ lane_in w t l → s ≡ t
in_apart w s k t l s_in t_in k_in l_in same =
    elim (cases_lt k s) [
      | inl a ↦ elim (cases_lt l t) [
        | inl b ↦ let e = same_from_place k (s - 1) l (t - 1) w (omega arith) (omega arith) (sym (in_below w s k a) ∙ same ∙ in_below w t l b) in omega (arith, e.0, e.1)
        | inr b ↦ let e = same_from_place k (s - 1) (l + 1) t w (omega arith) (omega arith) (sym (in_below w s k a) ∙ same ∙ in_above w t l b) in omega (arith, e.0, e.1)
      ]
      | inr a ↦ elim (cases_lt l t) [
        | inl b ↦ let e = same_from_place (k + 1) s l (t - 1) w (omega arith) (omega arith) (sym (in_above w s k a) ∙ same ∙ in_below w t l b) in omega (arith, e.0, e.1)
        | inr b ↦ let e = same_from_place (k + 1) s (l + 1) t w (omega arith) (omega arith) (sym (in_above w s k a) ∙ same ∙ in_above w t l b) in omega (arith, e.0, e.1)
      ]
    ]

-- each lane's number is below the number of all lanes of n ranks
pub out_inside : (n w r k : ℕ) → r < n → k < w → lane_out w r k < n * w
out_inside n w r k r_in k_in = omega (arith, row_fits r w n w r_in (omega arith))

pub in_inside : (n w s k : ℕ) → w ≡ n - 1 → s < n → k < w → lane_in w s k < n * w
in_inside n w s k size s_in k_in =
    elim (cases_lt k s) [
      | inl a ↦ omega (arith, in_below w s k a, row_fits k w n w (omega arith) (omega arith))
      | inr a ↦ omega (arith, in_above w s k a, row_fits (k + 1) w n w (omega arith) (omega arith))
    ]

-- two ranks at one place are one
pub place_same : (own r s : ℕ) → own ≢ r → own ≢ s → place_of own r ≡ place_of own s → r ≡ s
place_same own r s r_other s_other same =
    elim (place_stands own r (λ e. r_other (sym e))) [
      | inl a ↦ elim (place_stands own s (λ e. s_other (sym e))) [ inl b ↦ omega arith | inr b ↦ omega arith ]
      | inr a ↦ elim (place_stands own s (λ e. s_other (sym e))) [ inl b ↦ omega arith | inr b ↦ omega arith ]
    ]

-- The ranks r and s, of n, that the lane of this number joins.
pub record Joins (n w number r s : ℕ) : Type 0 where
  pub some : 0 < w
  pub sender : r < n
  pub receiver : s < n
  pub apart : r ≢ s
  pub place : place_of r s < w
  pub is : r * w + place_of r s ≡ number

positive : (n number x : ℕ) → number < n * x → 0 < x
positive n number zero h = absurd (omega arith)
positive n number (suc x) h = omega arith

near : (r s : ℕ) → r ≢ s → s ≤ place_of r s + 1
near r s apart = elim (place_stands r s (λ e. apart (sym e))) [ inl a ↦ omega arith | inr a ↦ omega arith ]

-- the lane before the first `left` ones end, and the rank that stands at its place in its row
pub joins : (n w count left s : ℕ) → w ≡ n - 1 → count ≡ n → left ≤ count * w → 0 < left → s ≢ (left - 1) / w → place_of ((left - 1) / w) s ≡ (left - 1) % w → Joins n w (left - 1) ((left - 1) / w) s
joins n w count left s size all inside some_left other stands =
    let number = left - 1 in
    let low : number < n * w = omega (arith, ap (λ x. x * w) all) in
    let some : 0 < w = positive n number w low in
    let r_in : number / w < n = div_below number w n some low in
    let k_in : number % w < w = mod_below number w some in
    let apart : number / w ≢ s = λ e. other (sym e) in
    record {
      some = some;
      sender = r_in;
      receiver = omega (arith, near (number / w) s apart);
      apart = apart;
      place = omega arith;
      is = ap (λ x. number / w * w + x) stands ∙ div-add-mod' number w;
    }
