-- A walk round a list of places sees each of them.
use Rattle.std.proofs.Common.{◌≡◌, ◌+◌, ◌<◌, ◌≤◌, ℕ, suc, min, List, sym, ap, ◌∙◌, inl, inr, arith}
use Rattle.std.proofs.lemmas.Bool.{cases_lt}
use Rattle.pg_agenda.specs.PlaceLists.{AreLinked}
use Rattle.pg_agenda.specs.BucketPhases.{bucket_of}
use Rattle.pg_agenda.proofs.Linked.{covered, steps}
use Rattle.pg_agenda.proofs.Queues.{min_left, min_right}

-- The walk from the head came to the node, and no place on its way is in a lesser bucket.
pub record IsWalked (next : ℕ → ℕ) (buckets : List ℕ) (list node bucket : ℕ) : Type 0 where
  pub many : ℕ
  pub here : node ≡ steps next (suc many) list
  pub seen : (j : ℕ) → j < many → bucket ≤ bucket_of buckets (steps next (suc j) list)

pub walk_begun : (next : ℕ → ℕ) (buckets : List ℕ) (list node bucket : ℕ) → node ≡ next list → IsWalked next buckets list node bucket
walk_begun next buckets list node bucket e = record { many = 0; here = e; seen = λ j lt. absurd (omega arith) }

pub walk_more : (next : ℕ → ℕ) (buckets : List ℕ) (list node bucket after lesser : ℕ) → IsWalked next buckets list node bucket → after ≡ next node
    → lesser ≡ min bucket (bucket_of buckets node) → IsWalked next buckets list after lesser
walk_more next buckets list node bucket after lesser w e f = record {
  many = suc w.many;
  here = e ∙ ap next w.here;
  seen = λ j lt. elim (cases_lt j w.many) [
    | inl more ↦ omega (arith, w.seen j more, f, min_left bucket (bucket_of buckets node))
    | inr last ↦
        let same : w.many ≡ j = omega arith in
        let at : node ≡ steps next (suc j) list = w.here ∙ ap (λ i. steps next (suc i) list) same in
        omega (arith, f, min_right bucket (bucket_of buckets node), ap (bucket_of buckets) at)
  ];
}

pub walk_done : {count nodes : ℕ} {next prev home stamp : ℕ → ℕ} {clock : ℕ} → AreLinked count nodes next prev home stamp clock → count ≤ nodes
    → (buckets : List ℕ) (list node bucket : ℕ) → count ≤ list → IsWalked next buckets list node bucket → node ≡ list
    → (place : ℕ) → place < count → home place ≡ list → bucket ≤ bucket_of buckets place
walk_done {count} {nodes} {next} {prev} {home} {stamp} {clock} l le buckets list node bucket head w e place lt its =
    let (j, less, at) = covered l le w.many list head (sym w.here ∙ e) (clock + 1) place lt its (omega arith) in
    omega (arith, w.seen j less, ap (bucket_of buckets) at)
