-- The ghosts of a rank ascend by vertex: a binary search finds the slot of a vertex, and there are no more of them than
-- vertices.
use Rattle.std.proofs.Common.{◌≡◌, ◌≢◌, ◌<◌, ◌≤◌, ℕ, List, AllPairs, Some, length, get_or, ap, ⊎_elim, arith}
use Rattle.std.specs.Prelude.{slice_get}
use Rattle.std.specs.List.{HoldsAt, AllWithin}
use Rattle.std.specs.List.Sorted.{IsNonDecreasingBy}
use Rattle.std.specs.Ordering.{nat_cmp, ordering_index}
use Rattle.std.specs.declared.cmp.Ordering.TheVariants.{Less, Equal, Greater}
use Rattle.std.proofs.lemmas.Bool.{cases_lt}
use Rattle.std.proofs.lemmas.Bool.Decides.{nat_tests}
use Rattle.std.proofs.lemmas.Option.{get_or_from_slice_get, slice_get_within, slice_get-get_or}
use Rattle.pg_adj.specs.declared.arcs.Ghost.{Ghost}

abbrev some_ghost : Ghost
some_ghost = record { vertex = record { 0 = 0 }; home = record { 0 = 0 }; place = 0 }

same_from_equal : (a b : ℕ) → nat_cmp a b ≡ Equal → a ≡ b
same_from_equal a b h = grind (arith, nat_tests)

lt_from_less : (a b : ℕ) → nat_cmp a b ≡ Less → a < b
lt_from_less a b h = grind (arith, nat_tests)

gt_from_greater : (a b : ℕ) → nat_cmp a b ≡ Greater → b < a
gt_from_greater a b h = grind (arith, nat_tests)

rises : (a b x : ℕ) → a ≤ b → ordering_index (nat_cmp a x) ≤ ordering_index (nat_cmp b x)
rises a b x h = grind (arith, nat_tests)

ascends : (held : List Ghost) (v : ℕ) → AllPairs (λ g h. g.vertex.0 < h.vertex.0) held → IsNonDecreasingBy (λ (g : Ghost). ordering_index (nat_cmp g.vertex.0 v)) held
ascends held v a i j d le lt = ⊎_elim
    (λ before. rises (get_or held i d).vertex.0 (get_or held j d).vertex.0 v (let b = a i j d before lt in omega arith))
    (λ no. let same : i ≡ j = omega arith in rises (get_or held i d).vertex.0 (get_or held j d).vertex.0 v (let e = ap (λ k. (get_or held k d).vertex.0) same in omega arith))
    (cases_lt i j)

pub found_ghost : (held : List Ghost) (v slot : ℕ) → slot < length held → HoldsAt (λ (g : Ghost). nat_cmp g.vertex.0 v ≡ Equal) held slot
    → (g : Ghost) × (slice_get held slot ≡ Some g) × (g.vertex.0 ≡ v)
found_ghost held v slot lt h = (get_or held slot some_ghost, slice_get-get_or held slot some_ghost lt, same_from_equal (get_or held slot some_ghost).vertex.0 v (h some_ghost))

pub no_ghost : (held : List Ghost) (v at : ℕ) → AllPairs (λ g h. g.vertex.0 < h.vertex.0) held
    → (IsNonDecreasingBy (λ (g : Ghost). ordering_index (nat_cmp g.vertex.0 v)) held
    → AllWithin (λ (g : Ghost). nat_cmp g.vertex.0 v ≡ Less) held 0 at × AllWithin (λ (g : Ghost). nat_cmp g.vertex.0 v ≡ Greater) held at (length held))
    → (slot : ℕ) (g : Ghost) → slice_get held slot ≡ Some g → g.vertex.0 ≢ v
no_ghost held v at a h slot g is e =
    let lt = slice_get_within held slot g is in
    let same = get_or_from_slice_get held slot g g is in
    let parts = h (ascends held v a) in
    ⊎_elim (λ before. let l = lt_from_less (get_or held slot g).vertex.0 v (parts.0 slot g (omega arith) before) in let s = ap (λ (x : Ghost). x.vertex.0) same in omega arith)
    (λ after. let l = gt_from_greater (get_or held slot g).vertex.0 v (parts.1 slot g after lt) in let s = ap (λ (x : Ghost). x.vertex.0) same in omega arith)
    (cases_lt slot at)
