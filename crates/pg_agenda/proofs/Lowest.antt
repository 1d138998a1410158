-- The least bucket of a queue, by the entries of its window and a bound of its far places.
use Rattle.std.proofs.Common.{◌≡◌, ◌≢◌, ◌+◌, ◌-◌, ◌<◌, ◌≤◌, ℕ, true, Option, None, Some, List, [], length, refl, sym, ap, ◌∙◌, inl, inr, arith}
use Rattle.std.specs.Prelude.{unwrap_or, IfSome, IsNone, ◌↔◌}
use Rattle.std.proofs.lemmas.Bool.{cases_Bool, cases_lt}
use Rattle.std.proofs.lemmas.List.Elements.{All-get_or, at_from_Contains}
use Rattle.pg_simd.specs.Kernels.{IsLeast}
use Rattle.pg_agenda.specs.Shares.{NONE}
use Rattle.pg_agenda.specs.PlaceLists.{AreLinked}
use Rattle.pg_agenda.specs.BucketPhases.{bucket_of, IsLowest}
use Rattle.pg_agenda.specs.BucketQueues.{is_near, head_of}
use Rattle.pg_agenda.proofs.BucketSteps.{past_end}
use Rattle.pg_agenda.proofs.Linked.{bare, first_within, first_home}
use Rattle.pg_agenda.proofs.Queues.{near_from, near_to, near_head, far_head, head_pending, head_none}

pub least_some : (xs : List ℕ) (answer : Option ℕ) → IsNone answer ↔ (xs ≡ []) → IfSome answer (λ least. IsLeast xs least) → 0 < length xs → IsLeast xs (unwrap_or answer NONE)
least_some xs None none some more = let empty : xs ≡ [] = none.0 refl in absurd (omega (arith, ap length empty))
least_some xs (Some least) none some more = some

-- the bucket of a place in a list of the window
pub bucket_by_head : (heads first : ℕ) (buckets : List ℕ) (place slot : ℕ) → place < heads → slot < 1024 → head_of heads first buckets place ≡ heads + slot
    → bucket_of buckets place ≡ first + slot
bucket_by_head heads first buckets place slot before lt e = elim (cases_lt (bucket_of buckets place) NONE) [
  | inr none ↦ absurd (omega (arith, head_none heads first buckets place none))
  | inl some ↦ elim (cases_Bool (is_near first (bucket_of buckets place))) [
    | inl n ↦ omega (arith, head_pending heads first buckets place some, near_head heads first (bucket_of buckets place) n, near_from first (bucket_of buckets place) n)
    | inr n ↦ absurd (omega (arith, head_pending heads first buckets place some, far_head heads first (bucket_of buckets place) n))
  ]
]

module _ {count nodes : ℕ} {next prev home stamp : ℕ → ℕ} {clock : ℕ} where
  -- the entry of a place's list is its bucket
  pub entry_of : AreLinked count nodes next prev home stamp clock → count ≤ nodes → (buckets lowest : List ℕ) (heads first : ℕ) → count ≡ length buckets → count ≤ heads → heads + 1024 < nodes
      → ((place : ℕ) → place < length buckets → home place ≡ head_of heads first buckets place)
      → ((slot : ℕ) → slot < 1024 → bucket_of lowest slot ≡ bucket_of buckets (next (heads + slot)))
      → (place : ℕ) → place < count → bucket_of buckets place < NONE → is_near first (bucket_of buckets place) ≡ true
      → bucket_of lowest (bucket_of buckets place - first) ≡ bucket_of buckets place
  entry_of l le buckets lowest heads first as_many after within kept told place lt some n =
      let slot : ℕ = bucket_of buckets place - first in
      let short : slot < 1024 = omega (arith, near_from first (bucket_of buckets place) n, near_to first (bucket_of buckets place) n) in
      let its : home place ≡ heads + slot = kept place (omega arith) ∙ head_pending heads first buckets place some ∙ near_head heads first (bucket_of buckets place) n in
      let filled : next (heads + slot) ≢ heads + slot = λ e. bare l le (heads + slot) (omega arith) e place lt its in
      let in_places : next (heads + slot) < count = first_within l (heads + slot) (omega arith) (omega arith) filled in
      let of_first : head_of heads first buckets (next (heads + slot)) ≡ heads + slot = sym (kept (next (heads + slot)) (omega arith)) ∙ first_home l (heads + slot) (omega arith) (omega arith) in
      omega (arith, told slot short, bucket_by_head heads first buckets (next (heads + slot)) slot (omega arith) short of_first, near_from first (bucket_of buckets place) n)

  pub lowest_by : AreLinked count nodes next prev home stamp clock → count ≤ nodes → (buckets lowest : List ℕ) (heads first : ℕ) → count ≡ length buckets → count ≤ heads → heads + 1024 < nodes
      → ((place : ℕ) → place < length buckets → home place ≡ head_of heads first buckets place)
      → ((slot : ℕ) → slot < 1024 → bucket_of lowest slot ≡ bucket_of buckets (next (heads + slot)))
      → length lowest ≡ 1024 → (near answer : ℕ) → IsLeast lowest near → answer ≤ near → answer ≤ NONE
      → ((place : ℕ) → place < length buckets → home place ≡ heads + 1024 → answer ≤ bucket_of buckets place)
      → (place : ℕ) × (bucket_of buckets place ≡ answer) → IsLowest buckets answer
  lowest_by l le buckets lowest heads first as_many after within kept told long near answer is below fits far stands = record {
    lowest = λ place. elim (cases_lt place count) [
      | inr past ↦ omega (arith, past_end buckets place (omega arith), fits)
      | inl lt ↦ elim (cases_lt (bucket_of buckets place) NONE) [
        | inr none ↦ omega (arith, none, fits)
        | inl some ↦ elim (cases_Bool (is_near first (bucket_of buckets place))) [
          | inl n ↦
              let short : bucket_of buckets place - first < length lowest = omega (arith, near_from first (bucket_of buckets place) n, near_to first (bucket_of buckets place) n, long) in
              let least : near ≤ bucket_of lowest (bucket_of buckets place - first) = All-get_or (λ other. near ≤ other) lowest (bucket_of buckets place - first) NONE short is.lowest in
              omega (arith, below, least, entry_of l le buckets lowest heads first as_many after within kept told place lt some n)
          | inr n ↦ far place (omega arith) (kept place (omega arith) ∙ head_pending heads first buckets place some ∙ far_head heads first (bucket_of buckets place) n)
        ]
      ]
    ];
    stands = stands;
  }

pub near_stands : (buckets lowest : List ℕ) (next : ℕ → ℕ) (heads near : ℕ) → length lowest ≡ 1024
    → ((slot : ℕ) → slot < 1024 → bucket_of lowest slot ≡ bucket_of buckets (next (heads + slot)))
    → IsLeast lowest near → (place : ℕ) × (bucket_of buckets place ≡ near)
near_stands buckets lowest next heads near long told is =
    let (k, within, there) = at_from_Contains lowest near is.stands in
    (next (heads + k), sym (told k (omega arith)) ∙ there NONE)
