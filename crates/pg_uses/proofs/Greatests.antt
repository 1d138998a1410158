-- The greatest of some numbers, as one more is known and as they are told in another way.
use Rattle.std.proofs.Common.{◌≡◌, ◌⊎◌, inl, inr, ℕ, ◌≤◌, max, subst, sym, ◌∙◌, arith}
use Rattle.std.specs.Ordering.{nat_cmp, ord_max}
use Rattle.std.proofs.lemmas.Grind.{common_steps}
use Rattle.std.proofs.Math.Nat.{le-max_left, le-max_right, max-eq_left, max-eq_right}
use Rattle.std.proofs.lemmas.Bool.{cases_lt}
use Rattle.pg_uses.specs.Greatest.{IsGreatest}

-- what `max` answers
pub maxed : (a b now : ℕ) → now ≡ ord_max nat_cmp a b → now ≡ max a b
maxed a b now is = grind (arith, common_steps, is)

pub greatest_alike : (P Q : ℕ → Type 0) (x : ℕ) → ((y : ℕ) → P y → Q y) → ((y : ℕ) → Q y → P y) → IsGreatest P x → IsGreatest Q x
greatest_alike P Q x there back is = record {
  bounds = λ y q. is.bounds y (back y q);
  reached = elim is.reached [ inl none ↦ inl none | inr at ↦ inr (there x at) ];
}

pub greatest_more : (P Q : ℕ → Type 0) (x more : ℕ) → ((y : ℕ) → P y → Q y) → ((y : ℕ) → Q y → P y ⊎ (y ≡ more)) → Q more → IsGreatest P x → IsGreatest Q (max x more)
greatest_more P Q x more there back new is = record {
  bounds = λ y q. elim (back y q) [
    | inl p ↦ omega (arith, is.bounds y p, le-max_left x more)
    | inr same ↦ omega (arith, same, le-max_right x more)
  ];
  reached = elim (cases_lt x more) [
    | inl below ↦ inr (subst Q (sym (max-eq_right (omega (arith, below)))) new)
    | inr above ↦
        let same : max x more ≡ x = max-eq_left above in
        elim is.reached [ inl none ↦ inl (same ∙ none) | inr at ↦ inr (subst Q (sym same) (there x at)) ]
  ];
}

-- the greatest of the greatest of each
pub greatest_of_greatest : (P Q : ℕ → Type 0) (x : ℕ) → IsGreatest P x → ((y : ℕ) → P y → Q y ⊎ (y ≡ 0)) → ((y : ℕ) → Q y → (z : ℕ) × P z × (y ≤ z)) → IsGreatest Q x
greatest_of_greatest P Q x is there back = record {
  bounds = λ y q. let z = back y q in omega (arith, is.bounds z.0 z.1, z.2);
  reached = elim is.reached [
    | inl none ↦ inl none
    | inr at ↦ elim (there x at) [ inl q ↦ inr q | inr none ↦ inl none ]
  ];
}

pub one_greatest : (Q : ℕ → Type 0) (x y : ℕ) → IsGreatest Q x → IsGreatest Q y → x ≡ y
one_greatest Q x y a b = elim a.reached [
  | inl none_x ↦ elim b.reached [
    | inl none_y ↦ omega (arith, none_x, none_y)
    | inr at_y ↦ omega (arith, none_x, a.bounds y at_y)
  ]
  | inr at_x ↦ elim b.reached [
    | inl none_y ↦ omega (arith, none_y, b.bounds x at_x)
    | inr at_y ↦ omega (arith, a.bounds y at_y, b.bounds x at_x)
  ]
]
