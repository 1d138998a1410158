-- The laws of distributions for blocks, over numbers: n vertices, p ranks, q = n / p and e = n mod p.
use Rattle.std.proofs.Common.{◌≡◌, ℕ, ◌+◌, ◌-◌, ◌*◌, ◌/◌, ◌%◌, ◌<◌, ◌≤◌, arith, inl, inr, ap}
use Rattle.std.proofs.lemmas.Bool.{cases_lt, lt-ltb, le-ltb}
use Rattle.std.proofs.lemmas.Nat.{div-mul-add, mod-mul-add, div_below, mod_below, div-add-mod'}
use Rattle.std.proofs.Math.Nat.{mul-le-mul_right}
use Rattle.pg_base.specs.declared.TheConstants.{MAX_VERTICES}
use Rattle.pg_dist.specs.Blocks.{count_of, first_of, in_long, owner_of, place_of}
use Rattle.pg_dist.specs.Sharing.{IsSharing}

-- the vertices are those of the longer blocks and those of the shorter ones
parts : (n p q e : ℕ) → n ≡ p * q + e → e < p → n ≡ in_long q e + (p - e) * q
parts n p q e split below =
    let whole : p ≡ e + (p - e) = omega arith in
    let rows : p * q ≡ (e + (p - e)) * q = ap (λ x. x * q) whole in omega arith

-- the longer blocks end within the n vertices
pub in_long-le : (n p q e : ℕ) → n ≡ p * q + e → e < p → in_long q e ≤ n
in_long-le n p q e split below = omega (arith, parts n p q e split below)

-- past the longer blocks the shorter ones have room
past_long : (n p q e v : ℕ) → n ≡ p * q + e → e < p → 1 ≤ v → v ≤ n → in_long q e ≤ v - 1
    → v - 1 - in_long q e < (p - e) * q
past_long n p q e v split below first last past = omega (arith, parts n p q e split below)

-- what is below a product has factors
pos_from_room : (k d q : ℕ) → k < d * q → 0 < q
pos_from_room k d q room = elim (cases_lt 0 q) [
  | inl pos ↦ pos
  | inr none ↦ let zero : q ≡ 0 = omega arith in
      let empty : d * q ≡ d * 0 = ap (λ x. d * x) zero in omega arith
]

-- past the longer blocks the shorter ones have vertices
pub share_pos : (n p q e v : ℕ) → n ≡ p * q + e → e < p → 1 ≤ v → v ≤ n → in_long q e ≤ v - 1 → 0 < q
share_pos n p q e v split below first last past =
    pos_from_room (v - 1 - in_long q e) (p - e) q (past_long n p q e v split below first last past)

pub owner_below : (n p q e v : ℕ) → n ≡ p * q + e → e < p → 1 ≤ v → v ≤ n → owner_of q e v < p
owner_below n p q e v split below first last = elim (cases_lt (v - 1) (in_long q e)) [
  | inl long ↦ rw (lt-ltb (v - 1) (in_long q e) long) (
      let row : (v - 1) / (q + 1) < e = div_below (v - 1) (q + 1) e (omega arith) long in omega arith)
  | inr past ↦ rw (le-ltb (v - 1) (in_long q e) past) (
      let pos : 0 < q = share_pos n p q e v split below first last past in
      let row : (v - 1 - in_long q e) / q < p - e = div_below (v - 1 - in_long q e) q (p - e) pos
      (past_long n p q e v split below first last past) in omega arith)
]

pub place_below : (n p q e v : ℕ) → n ≡ p * q + e → e < p → 1 ≤ v → v ≤ n
    → place_of q e v < count_of q e (owner_of q e v)
place_below n p q e v split below first last = elim (cases_lt (v - 1) (in_long q e)) [
  | inl long ↦ rw (lt-ltb (v - 1) (in_long q e) long) (
      let row : (v - 1) / (q + 1) < e = div_below (v - 1) (q + 1) e (omega arith) long in
      rw (lt-ltb ((v - 1) / (q + 1)) e row) (mod_below (v - 1) (q + 1) (omega arith)))
  | inr past ↦ rw (le-ltb (v - 1) (in_long q e) past) (
      let pos : 0 < q = share_pos n p q e v split below first last past in
      rw (le-ltb (e + (v - 1 - in_long q e) / q) e (omega arith)) (mod_below (v - 1 - in_long q e) q pos))
]

pub at_place : (n p q e v : ℕ) → n ≡ p * q + e → e < p → 1 ≤ v → v ≤ n
    → first_of q e (owner_of q e v) + place_of q e v ≡ v
at_place n p q e v split below first last = elim (cases_lt (v - 1) (in_long q e)) [
  | inl long ↦ rw (lt-ltb (v - 1) (in_long q e) long) (
      let row : (v - 1) / (q + 1) < e = div_below (v - 1) (q + 1) e (omega arith) long in
      let whole : (v - 1) / (q + 1) * (q + 1) + (v - 1) % (q + 1) ≡ v - 1 = div-add-mod' (v - 1) (q + 1) in
      omega arith)
  | inr past ↦ rw (le-ltb (v - 1) (in_long q e) past) (
      let whole : (v - 1 - in_long q e) / q * q + (v - 1 - in_long q e) % q ≡ v - 1 - in_long q e
      = div-add-mod' (v - 1 - in_long q e) q in omega arith)
]

-- Where a rank's place lies: within the longer blocks for the first ranks, and past them for the others.
place_long : (q e r i : ℕ) → r < e → i < q + 1 → r * (q + 1) + i < in_long q e
place_long q e r i row place =
    let rows : (r + 1) * (q + 1) ≤ e * (q + 1) = mul-le-mul_right (q + 1) (omega arith) in omega arith

first_long : (q e r i : ℕ) → r < e → first_of q e r + i - 1 ≡ r * (q + 1) + i
first_long q e r i row = omega arith

past_short : (q e r i : ℕ) → e ≤ r → first_of q e r + i - 1 ≡ in_long q e + ((r - e) * q + i)
past_short q e r i row =
    let whole : r ≡ e + (r - e) = omega arith in
    let rows : r * q ≡ (e + (r - e)) * q = ap (λ x. x * q) whole in omega arith

taken : (a b : ℕ) → a + b - a ≡ b
taken a b = omega arith

pub within : (n p q e r i : ℕ) → n ≡ p * q + e → e < p → r < p → i < count_of q e r → first_of q e r + i ≤ n
within n p q e r i split below rank = elim (cases_lt r e) as (λ c. i < count_of q e r → first_of q e r + i ≤ n) [
  | inl row ↦ rw (lt-ltb r e row) (λ place. omega (
    arith,
    place_long q e r i row place,
    first_long q e r i row,
    in_long-le n p q e split below,
  ))
  | inr row ↦ rw (le-ltb r e row) (λ place.
      let rows : (r + 1) * q ≤ p * q = mul-le-mul_right q (omega arith) in omega arith)
]

pub count-within : (n p q e r : ℕ) → n ≡ p * q + e → e < p → r < p → count_of q e r ≤ n
count-within n p q e r split below rank = elim (cases_lt 0 (count_of q e r)) [
  | inl some ↦ omega (arith, within n p q e r (count_of q e r - 1) split below rank (omega arith))
  | inr none ↦ omega arith
]

pub owner_at : (q e r i : ℕ) → i < count_of q e r → owner_of q e (first_of q e r + i) ≡ r
owner_at q e r i = elim (cases_lt r e) as (λ c. i < count_of q e r → owner_of q e (first_of q e r + i) ≡ r) [
  | inl row ↦ rw (lt-ltb r e row, first_long q e r i row) (λ place.
      rw (lt-ltb (r * (q + 1) + i) (in_long q e) (place_long q e r i row place)) (div-mul-add r (q + 1) i place))
  | inr row ↦ rw (le-ltb r e row, past_short q e r i row) (λ place.
      rw (
        le-ltb (in_long q e + ((r - e) * q + i)) (in_long q e) (omega arith),
        taken (in_long q e) ((r - e) * q + i),
        div-mul-add (r - e) q i place,
      ) (omega arith))
]

pub place_at : (q e r i : ℕ) → i < count_of q e r → place_of q e (first_of q e r + i) ≡ i
place_at q e r i = elim (cases_lt r e) as (λ c. i < count_of q e r → place_of q e (first_of q e r + i) ≡ i) [
  | inl row ↦ rw (lt-ltb r e row, first_long q e r i row) (λ place.
      rw (lt-ltb (r * (q + 1) + i) (in_long q e) (place_long q e r i row place)) (mod-mul-add r (q + 1) i place))
  | inr row ↦ rw (le-ltb r e row, past_short q e r i row) (λ place.
      rw (le-ltb (in_long q e + ((r - e) * q + i)) (in_long q e) (omega arith), taken (in_long q e) ((r - e) * q + i))
      (mod-mul-add (r - e) q i place))
]

first_at : (q e r i : ℕ) → 1 ≤ first_of q e r + i
first_at q e r i = omega arith

ascends_at : (q e r i j : ℕ) → i < j → first_of q e r + i < first_of q e r + j
ascends_at q e r i j less = omega arith

-- All laws together.
pub block_laws : (n p q e : ℕ) → n ≤ MAX_VERTICES → n ≡ p * q + e → e < p
    → IsSharing (record { n = n; ranks = p; owner = owner_of q e; local = place_of q e; count = count_of q e; global = λ r i. first_of q e r + i })
block_laws n p q e few split below = record {
  n_within = few;
  owner_is_rank = λ v first last. owner_below n p q e v split below first last;
  local_below = λ v first last. place_below n p q e v split below first last;
  global_of_local = λ v first last. at_place n p q e v split below first last;
  count_within = λ r rank. count-within n p q e r split below rank;
  global_first = λ r i rank place. first_at q e r i;
  global_last = λ r i rank place. within n p q e r i split below rank place;
  owner_of_global = λ r i rank place. owner_at q e r i place;
  local_of_global = λ r i rank place. place_at q e r i place;
  global_ascends = λ r i j rank order place. ascends_at q e r i j order;
}
