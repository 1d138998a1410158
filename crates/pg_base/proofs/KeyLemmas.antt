-- The order of keys as facts on numbers, and its laws.
use Rattle.std.proofs.Common.{◌≡◌, ℕ, ◌<◌, ◌⊎◌, true, get_or, ap, sym, inl, inr, ⊎_elim, arith}
use Rattle.std.proofs.lemmas.Bool.{cases_order}
use Rattle.std.proofs.lemmas.Bool.Decides.{nat_tests}
use Rattle.pg_base.specs.declared.TheConstants.{MAX_EDGES}
use Rattle.pg_base.specs.declared.edges.Edge.{Edge}
use Rattle.pg_base.specs.Graph.{Precedes}
use Rattle.pg_base.specs.Forest.{key_lt}
use Rattle.pg_base.specs.KeyLaws.{KeysAreStrict, KeysCarryOver, KeysTellApart, NumbersOrderKeys, key_number}

-- (d.u, d.v) is less than (e.u, e.v).
abbrev PairBelow : Edge → Edge → Type 0
PairBelow d e = (d.u < e.u) ⊎ ((d.u ≡ e.u) × (d.v < e.v))

-- What it means that d's key is less than e's.
abbrev pub KeyBelow : Edge → Edge → Type 0
KeyBelow d e = (d.w < e.w) ⊎ ((d.w ≡ e.w) × PairBelow d e)

pub key_lt-true : (d e : Edge) → key_lt d e ≡ true → KeyBelow d e
key_lt-true d e h = grind (arith, nat_tests)

pub key_lt-from : (d e : Edge) → KeyBelow d e → key_lt d e ≡ true
key_lt-from d e h = grind (arith, nat_tests)

pub keys_are_strict : KeysAreStrict
keys_are_strict e = grind (arith, nat_tests)

pub keys_carry_over : KeysCarryOver
keys_carry_over d e f first second = grind (arith, nat_tests)

same_edge : (d e : Edge) → d.u ≡ e.u → d.v ≡ e.v → d.w ≡ e.w → d ≡ e
same_edge d e u v w = λ k. record { u = u k; v = v k; w = w k }

pub keys_tell_apart : KeysTellApart
keys_tell_apart d e left right =
    same_edge d e (grind (arith, nat_tests)) (grind (arith, nat_tests)) (grind (arith, nat_tests))

pair_from : (d e : Edge) → Precedes d e → PairBelow d e
pair_from d e before =
    ⊎_elim
    (λ same. inr (same, before.second same))
    (λ apart. inl (⊎_elim (λ less. less) (λ more. absurd (omega (arith, before.first))) apart))
    (cases_order d.u e.u)

pair_not_back : (d e : Edge) → Precedes d e → PairBelow e d → ⊥
pair_not_back d e before back = omega (arith, before.first, before.second)

pair_not_same : (d e : Edge) → d ≡ e → PairBelow e d → ⊥
pair_not_same d e same below =
    let first : d.u ≡ e.u = ap (λ (x : Edge). x.u) same in
    let second : d.v ≡ e.v = ap (λ (x : Edge). x.v) same in
    omega arith

module _ (a b : Edge) (i j : ℕ) (left : i < MAX_EDGES) (right : j < MAX_EDGES) (ahead : i < j → Precedes a b) (behind : j < i → Precedes b a) (same : i ≡ j → a ≡ b) where
  places : PairBelow a b → i < j
  places below =
      ⊎_elim
      (λ here. absurd (pair_not_same b a (sym (same here)) below))
      (λ apart. ⊎_elim (λ less. less) (λ more. absurd (pair_not_back b a (behind more) below)) apart)
      (cases_order i j)

  number_from_key : KeyBelow a b → key_number a i < key_number b j
  number_from_key below =
      ⊎_elim
      (λ less. omega arith)
      (λ tied. let weights : a.w ≡ b.w = tied.0 in let first = places tied.1 in omega arith)
      below

  key_from_number : key_number a i < key_number b j → KeyBelow a b
  key_from_number less =
      ⊎_elim
      (λ weights. inr (weights, pair_from a b (ahead (omega arith))))
      (λ apart. ⊎_elim (λ lighter. inl lighter) (λ heavier. absurd (omega arith)) apart)
      (cases_order a.w b.w)

pub numbers_order_keys : NumbersOrderKeys
numbers_order_keys g is i j other left right =
    let a = get_or g.edges i other in
    let b = get_or g.edges j other in
    let size = is.size in
    let within : i < MAX_EDGES = omega arith in
    let reached : j < MAX_EDGES = omega arith in
    let ahead : i < j → Precedes a b = λ h. is.ascending i j other h right in
    let behind : j < i → Precedes b a = λ h. is.ascending j i other h left in
    let same : i ≡ j → a ≡ b = λ h. ap (λ (k : ℕ). get_or g.edges k other) h in (
      λ below. number_from_key a b i j within reached ahead behind same (key_lt-true a b below),
      λ less. key_lt-from a b (key_from_number a b i j within reached ahead behind same less),
    )
