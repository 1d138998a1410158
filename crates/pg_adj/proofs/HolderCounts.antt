-- How many holders the vertices of a rank have together.
use Rattle.std.proofs.Common.{◌≡◌, ◌≢◌, ◌==◌, ℕ, ◌+◌, ◌-◌, ◌*◌, ◌<◌, ◌≤◌, List, length, get_or, set, sym, ap, subst, ◌∙◌, inl, inr, arith, zero, suc, if◌then◌else◌}
use Rattle.std.specs.List.{sum_by}
use Rattle.std.proofs.lemmas.Bool.{cases_eq, cond_both, eq-eqb, ne_eqb}
use Rattle.std.proofs.lemmas.List.{get_or-set_same, get_or-set_other}
use Rattle.std.proofs.lemmas.List.Sums.{sum_by_push}
use Rattle.pg_adj.specs.Division.{vertices_to}
use Rattle.pg_adj.specs.RankSets.{members, no_ranks, ranks_holding}
use Rattle.pg_adj.specs.declared.rank_sets.RankSet.{RankSet}
use Rattle.pg_adj.proofs.RankSets.{members-le}

-- those of the rank's vertices up to k
abbrev pub holders_to : List RankSet → (ℕ → ℕ) → ℕ → ℕ → ℕ
holders_to sets owner r k = sum_by (λ v. if owner v == r then length (members (ranks_holding sets v)) else 0) (vertices_to k)

holders_next : (sets : List RankSet) (owner : ℕ → ℕ) (r k : ℕ)
    → holders_to sets owner r (suc k) ≡ holders_to sets owner r k + (if owner (k + 1) == r then length (members (get_or sets k no_ranks)) else 0)
holders_next sets owner r k =
    let place : k + 1 - 1 ≡ k = omega arith in
    sum_by_push (λ v. if owner v == r then length (members (ranks_holding sets v)) else 0) (vertices_to k) (k + 1)
    ∙ ap (λ (j : ℕ). holders_to sets owner r k + (if owner (k + 1) == r then length (members (get_or sets j no_ranks)) else 0)) place

pub holders-le : (sets : List RankSet) (owner : ℕ → ℕ) (r k : ℕ) → holders_to sets owner r k ≤ 32 * k
holders-le sets owner r zero = omega arith
holders-le sets owner r (suc k) =
    let next = holders_next sets owner r k in
    let rest = holders-le sets owner r k in
    let more : (if owner (k + 1) == r then length (members (get_or sets k no_ranks)) else 0) ≤ 32 =
    cond_both (owner (k + 1) == r) (length (members (get_or sets k no_ranks))) 0 (λ j. j ≤ 32) (λ e. members-le (get_or sets k no_ranks)) (λ e. omega arith) in
    omega (arith, next, rest, more)

pub own_holders : (sets : List RankSet) (owner : ℕ → ℕ) (r k : ℕ) → r ≡ owner (k + 1)
    → holders_to sets owner r (k + 1) ≡ holders_to sets owner r k + length (members (get_or sets k no_ranks))
own_holders sets owner r k own =
    let next : k + 1 ≡ suc k = omega arith in
    ap (holders_to sets owner r) next ∙ (holders_next sets owner r k
    ∙ ap (λ b. holders_to sets owner r k + (if b then length (members (get_or sets k no_ranks)) else 0)) (eq-eqb (owner (k + 1)) r (sym own)))

pub no_holders : (sets : List RankSet) (owner : ℕ → ℕ) (r k : ℕ) → r ≢ owner (k + 1) → holders_to sets owner r (k + 1) ≡ holders_to sets owner r k
no_holders sets owner r k other =
    let next : k + 1 ≡ suc k = omega arith in
    let none : holders_to sets owner r k + 0 ≡ holders_to sets owner r k = omega arith in
    ap (holders_to sets owner r) next ∙ (holders_next sets owner r k
    ∙ (ap (λ b. holders_to sets owner r k + (if b then length (members (get_or sets k no_ranks)) else 0)) (ne_eqb (owner (k + 1)) r (λ e. other (sym e))) ∙ none))

pub holders_mono : (sets : List RankSet) (owner : ℕ → ℕ) (r k m : ℕ) → holders_to sets owner r k ≤ holders_to sets owner r (k + m)
holders_mono sets owner r k zero = let same : k ≡ k + 0 = omega arith in omega (arith, ap (holders_to sets owner r) same)
holders_mono sets owner r k (suc m) =
    let next : k + suc m ≡ suc (k + m) = omega arith in
    omega (arith, holders_mono sets owner r k m, holders_next sets owner r (k + m), ap (holders_to sets owner r) next)

pub counts_more : (sets : List RankSet) (owner : ℕ → ℕ) (ranks k q was more : ℕ) (counts : List ℕ) → q ≡ owner (k + 1) → q < length counts → was ≡ get_or counts q 0
    → more ≡ length (members (get_or sets k no_ranks)) → ((r : ℕ) → r < ranks → get_or counts r 0 ≡ holders_to sets owner r k) → length counts ≡ ranks
    → (r : ℕ) → r < ranks → get_or (set counts q (was + more)) r 0 ≡ holders_to sets owner r (k + 1)
counts_more sets owner ranks k q was more counts own below at size had each r l = elim (cases_eq r q) [
  | inl same ↦
      let now = get_or-set_same counts q (was + more) 0 below in
      let sum = own_holders sets owner q k own in
      let old = had q (omega arith) in
      subst (λ (i : ℕ). get_or (set counts q (was + more)) i 0 ≡ holders_to sets owner i (k + 1)) (sym same) (omega (arith, now, sum, old, at, size))
  | inr other ↦ get_or-set_other counts q r (was + more) 0 other ∙ (had r l ∙ sym (no_holders sets owner r k (λ e. other (e ∙ sym own))))
]
