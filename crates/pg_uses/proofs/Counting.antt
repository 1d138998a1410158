-- The greatest degree of the first places of a part.
use Rattle.std.proofs.Common.{◌≡◌, inl, inr, ℕ, ◌+◌, ◌<◌, max, length, refl, sym, ap, ◌∙◌, arith}
use Rattle.std.proofs.lemmas.Bool.{cases_lt}
use Rattle.pg_base.specs.Keyed.{row_of}
use Rattle.pg_adj.specs.Portions.{Portion}
use Rattle.pg_uses.specs.Degrees.{IsOwnDegree}
use Rattle.pg_uses.specs.Greatest.{IsGreatest}
use Rattle.pg_uses.proofs.Greatests.{greatest_alike, greatest_more}

-- One of the first places has this many arcs.
pub record IsDegreeBelow (p : Portion) (count d : ℕ) : Type 0 where
  pub place : ℕ
  pub within : place < count
  pub has : length (row_of p.bounds p.arcs place) ≡ d

pub none_below : (p : Portion) → IsGreatest (IsDegreeBelow p 0) 0
none_below p = record { bounds = λ y d. absurd (omega (arith, d.within)); reached = inl refl }

pub one_more : (p : Portion) (count x more : ℕ) → more ≡ length (row_of p.bounds p.arcs count) → IsGreatest (IsDegreeBelow p count) x → IsGreatest (IsDegreeBelow p (count + 1)) (max x more)
one_more p count x more has is =
    greatest_more (IsDegreeBelow p count) (IsDegreeBelow p (count + 1)) x more
    (λ y d. record { place = d.place; within = omega (arith, d.within); has = d.has })
    (λ y d. elim (cases_lt d.place count) [
      | inl below ↦ inl (record { place = d.place; within = below; has = d.has })
      | inr above ↦
          let same : d.place ≡ count = omega (arith, above, d.within) in
          inr (sym d.has ∙ (ap (λ i. length (row_of p.bounds p.arcs i)) same ∙ sym has))
    ])
    (record { place = count; within = omega arith; has = sym has })
    is

pub all_below : (p : Portion) (count x : ℕ) → count ≡ length p.vertices → IsGreatest (IsDegreeBelow p count) x → IsGreatest (IsOwnDegree p) x
all_below p count x all is =
    greatest_alike (IsDegreeBelow p count) (IsOwnDegree p) x
    (λ y d. record { place = d.place; within = omega (arith, d.within, all); has = d.has })
    (λ y d. record { place = d.place; within = omega (arith, d.within, all); has = d.has })
    is
