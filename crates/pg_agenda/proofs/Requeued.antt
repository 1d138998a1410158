-- A queue of buckets stays what it is as a place enters, leaves or changes its bucket.
use Rattle.std.proofs.Common.{◌≡◌, ◌≢◌, ◌+◌, ◌-◌, ◌<◌, ◌≤◌, ◌⊎◌, ℕ, zero, suc, true, List, length, set, replicate, refl, sym, ap, ◌∙◌, inl, inr, arith}
use Rattle.std.specs.Prelude.{nat_lt, if◌then◌else◌}
use Rattle.std.proofs.lemmas.Bool.{cases_Bool, cases_eq, cases_lt, both_ways}
use Rattle.std.proofs.lemmas.List.{get_or-set_same, get_or-set_other, length-set}
use Rattle.pg_agenda.specs.Shares.{NONE}
use Rattle.pg_agenda.specs.PlaceLists.{AreLinked}
use Rattle.pg_agenda.specs.BucketPhases.{bucket_of}
use Rattle.pg_agenda.specs.BucketQueues.{is_near, far_or_near, head_of}
use Rattle.pg_agenda.proofs.Linked.{first_home}
use Rattle.pg_agenda.proofs.Queues.{near_head, far_head, head_pending, head_none}

pub bucket_here : (buckets : List ℕ) (p b : ℕ) → p < length buckets → bucket_of (set buckets p b) p ≡ b
bucket_here buckets p b lt = get_or-set_same buckets p b NONE lt

pub bucket_there : (buckets : List ℕ) (p b x : ℕ) → x ≢ p → bucket_of (set buckets p b) x ≡ bucket_of buckets x
bucket_there buckets p b x ne = get_or-set_other buckets p x b NONE ne

head_same : (heads first : ℕ) (xs ys : List ℕ) (x : ℕ) → bucket_of ys x ≡ bucket_of xs x → head_of heads first ys x ≡ head_of heads first xs x
head_same heads first xs ys x e = ap (λ b. if nat_lt b NONE then far_or_near heads first b else x) e

-- places are kept where their buckets tell after one place's bucket changed
pub kept_after : (heads first : ℕ) (buckets : List ℕ) (p b : ℕ) (home home' : ℕ → ℕ) → p < length buckets
    → ((x : ℕ) → x < length buckets → home x ≡ head_of heads first buckets x) → home' p ≡ head_of heads first (set buckets p b) p
    → ((x : ℕ) → x ≢ p → home' x ≡ home x)
    → (x : ℕ) → x < length (set buckets p b) → home' x ≡ head_of heads first (set buckets p b) x
kept_after heads first buckets p b home home' lt kept here others x in_range = elim (cases_eq x p) [
  | inl e ↦ ap home' e ∙ here ∙ ap (head_of heads first (set buckets p b)) (sym e)
  | inr ne ↦ others x ne ∙ kept x (omega (arith, length-set buckets p b)) ∙ sym (head_same heads first buckets (set buckets p b) x (bucket_there buckets p b x ne))
]

-- an entry of the window is that of this bucket, or it isn't
pub its_or_not : (first bucket slot : ℕ) → ((is_near first bucket ≡ true) × (slot ≡ bucket - first)) ⊎ (is_near first bucket ≡ true → slot ≢ bucket - first)
its_or_not first bucket slot = elim (cases_Bool (is_near first bucket)) [
  | inl n ↦ elim (cases_eq slot (bucket - first)) [
    | inl e ↦ inl (n, e)
    | inr ne ↦ inr (λ t. ne)
  ]
  | inr f ↦ inr (λ t e. both_ways (is_near first bucket) f t)
]

pub head_differs : (heads first bucket slot : ℕ) → slot < 1024 → (is_near first bucket ≡ true → slot ≢ bucket - first) → heads + slot ≢ far_or_near heads first bucket
head_differs heads first bucket slot lt ne e = elim (cases_Bool (is_near first bucket)) [
  | inl n ↦ ne n (omega (arith, e, near_head heads first bucket n))
  | inr f ↦ omega (arith, e, far_head heads first bucket f)
]

pub home_differs : (heads first : ℕ) (buckets : List ℕ) (p slot : ℕ) → p < heads → slot < 1024
    → (is_near first (bucket_of buckets p) ≡ true → slot ≢ bucket_of buckets p - first) → heads + slot ≢ head_of heads first buckets p
home_differs heads first buckets p slot before lt ne e = elim (cases_lt (bucket_of buckets p) NONE) [
  | inl some ↦ head_differs heads first (bucket_of buckets p) slot lt ne (e ∙ head_pending heads first buckets p some)
  | inr none ↦ omega (arith, e, head_none heads first buckets p none)
]

module _ {count nodes : ℕ} {next prev home stamp : ℕ → ℕ} {clock : ℕ} where
  -- the entry of a list that p neither leaves nor enters stays right
  pub told_still : AreLinked count nodes next prev home stamp clock → (heads slot : ℕ) → count ≤ heads → heads + slot < nodes → (buckets : List ℕ) (p b : ℕ) (next' : ℕ → ℕ)
      → heads + slot ≢ home p → next' (heads + slot) ≡ next (heads + slot) → (entry : ℕ) → entry ≡ bucket_of buckets (next (heads + slot))
      → entry ≡ bucket_of (set buckets p b) (next' (heads + slot))
  told_still l heads slot after within buckets p b next' apart same entry told =
      let its : home (next (heads + slot)) ≡ heads + slot = first_home l (heads + slot) (omega arith) within in
      let other : next (heads + slot) ≢ p = λ e. apart (sym its ∙ ap home e) in
      told ∙ sym (bucket_there buckets p b (next (heads + slot)) other) ∙ ap (bucket_of (set buckets p b)) (sym same)

-- what bounds the far places still does
pub bounded_after : (heads first : ℕ) (buckets : List ℕ) (p b : ℕ) (home home' : ℕ → ℕ) (bound bound' : ℕ) → p < length buckets
    → ((x : ℕ) → x < length buckets → home x ≡ heads + 1024 → bound ≤ bucket_of buckets x) → bound' ≤ bound
    → (home' p ≡ heads + 1024 → bound' ≤ b) → ((x : ℕ) → x ≢ p → home' x ≡ home x)
    → (x : ℕ) → x < length (set buckets p b) → home' x ≡ heads + 1024 → bound' ≤ bucket_of (set buckets p b) x
bounded_after heads first buckets p b home home' bound bound' lt bounded lower here others x in_range h = elim (cases_eq x p) [
  | inl e ↦ omega (arith, here (ap home' (sym e) ∙ h), ap (bucket_of (set buckets p b)) e, bucket_here buckets p b lt)
  | inr ne ↦ omega (arith, lower, bounded x (omega (arith, length-set buckets p b)) (sym (others x ne) ∙ h), bucket_there buckets p b x ne)
]

pub none_everywhere : (n x : ℕ) → bucket_of (replicate n NONE) x ≡ NONE
none_everywhere zero x = refl
none_everywhere (suc n) zero = refl
none_everywhere (suc n) (suc x) = none_everywhere n x
