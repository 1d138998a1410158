-- The cut of places into groups by the block rule.
use Rattle.std.proofs.Common.{◌≡◌, ℕ, zero, suc, ◌+◌, ◌*◌, ◌/◌, ◌%◌, ◌<◌, ◌≤◌, arith, inl, inr}
use Rattle.std.specs.Prelude.{min}
use Rattle.std.proofs.lemmas.Bool.{cases_lt, lt-ltb, le-ltb}
use Rattle.std.proofs.lemmas.Nat.{div-add-mod', mod_below}
use Rattle.pg_run.specs.Blocks.{group_start}

-- where a group begins, counted by its number
pub start_counted : (places groups group : ℕ) → group_start places groups group ≡ group * (places / groups) + min group (places % groups)
start_counted places groups zero = omega arith
start_counted places groups (suc group) =
    let before = start_counted places groups group in
    elim (cases_lt group (places % groups)) [
      | inl low ↦ rw (lt-ltb group (places % groups) low) (omega (arith, before, low))
      | inr high ↦ rw (le-ltb group (places % groups) high) (omega (arith, before, high))
    ]

-- the groups hold all places
pub start_of_all : (places groups : ℕ) → 1 ≤ groups → group_start places groups groups ≡ places
start_of_all places groups some =
    let counted = start_counted places groups groups in
    let rest : places % groups < groups = mod_below places groups some in
    let split = div-add-mod' places groups in
    omega (arith, counted, rest, split)
