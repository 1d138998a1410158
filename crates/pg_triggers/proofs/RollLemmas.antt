-- The last round of a roll, by its number alone.
use Rattle.std.proofs.Common.{◌≡◌, inl, inr, ℕ, ◌+◌, ◌<◌, ◌≤◌, true, false, sym, ap, ◌∙◌, arith}
use Rattle.std.specs.Prelude.{Option, Some, None, nat_eq}
use Rattle.std.proofs.lemmas.Bool.{cases_eq}
use Rattle.std.proofs.lemmas.Bool.Decides.{nat_tests}
use Rattle.pg_group.specs.declared.messages.Vote.{Vote}
use Rattle.pg_group.specs.Rolls.{voted}

same_next : (k n : ℕ) → nat_eq (k + 1) (n + 1) ≡ nat_eq k n
same_next k n =
    elim (cases_eq k n) [
      | inl e ↦ let one : nat_eq (k + 1) (n + 1) ≡ true = grind (arith, nat_tests) in let two : nat_eq k n ≡ true = grind (arith, nat_tests) in one ∙ sym two
      | inr e ↦ let one : nat_eq (k + 1) (n + 1) ≡ false = grind (arith, nat_tests) in let two : nat_eq k n ≡ false = grind (arith, nat_tests) in one ∙ sym two
    ]

-- the rule of a roll that has ended
pub rolls_last : (round rounds k : ℕ) (cast : Option Vote) → round < rounds → voted round cast ≡ rounds → k ≤ round → nat_eq (k + 1) rounds ≡ nat_eq k round
rolls_last round rounds k None in_rounds last early = absurd (omega arith)
rolls_last round rounds k (Some vote) in_rounds last early = ap (nat_eq (k + 1)) (sym last) ∙ same_next k round
