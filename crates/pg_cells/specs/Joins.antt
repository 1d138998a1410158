-- The lesser and the greater of two numbers as joins.
use Rattle.std.proofs.Common.{◌≡◌, ℕ, arith}
use Rattle.std.specs.Prelude.{min, max}

pub min-assoc : (a b c : ℕ) → min (min a b) c ≡ min a (min b c)
min-assoc a b c = omega arith

pub max-assoc : (a b c : ℕ) → max (max a b) c ≡ max a (max b c)
max-assoc a b c = omega arith

pub min-comm : (a b : ℕ) → min a b ≡ min b a
min-comm a b = omega arith

pub max-comm : (a b : ℕ) → max a b ≡ max b a
max-comm a b = omega arith

pub min-idem : (a : ℕ) → min a a ≡ a
min-idem a = omega arith

pub max-idem : (a : ℕ) → max a a ≡ a
max-idem a = omega arith
