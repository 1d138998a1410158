-- The refreshes of a part are the holders of its places.
use Rattle.std.proofs.Common.{◌≡◌, ◌≢◌, ℕ, ◌<◌, get_or, AllPairs, Contains, zero, suc, sym, ap, subst, ⊎_elim, arith}
use Rattle.std.proofs.lemmas.Bool.{cases_eq}
use Rattle.std.proofs.lemmas.List.Elements.{Contains-get_or, Contains-append_left, Contains-append_right, Contains-append_cases}
use Rattle.pg_adj.specs.declared.arcs.Holder.{Holder}
use Rattle.pg_adj.specs.Portions.{Portion}
use Rattle.pg_adj.specs.Mirrored.{holders_at}
use Rattle.pg_cells.specs.declared.refreshes.PendingRefresh.{PendingRefresh}
use Rattle.pg_cells.specs.States.{refreshes_at, refreshes_below}
use Rattle.pg_adj.proofs.MirrorLists.{Contains-map, Contains-from_map, AllPairs-nil, AllPairs-append, AllPairs-map}

abbrev pub pending_to : ℕ → Holder → PendingRefresh
pending_to place h = record { place = place; holder = h }

-- the refresh is one of a place below this one
pub record IsPendingBelow (p : Portion) (count : ℕ) (pending : PendingRefresh) : Type 0 where
  pub below : pending.place < count
  pub holder : Contains (holders_at p pending.place) pending.holder

pending_of_row : (p : Portion) (place : ℕ) (pending : PendingRefresh) → Contains (refreshes_at p place) pending → (pending.place ≡ place) × Contains (holders_at p pending.place) pending.holder
pending_of_row p place pending among =
    let found = Contains-from_map (pending_to place) (holders_at p place) pending among in
    subst (λ (e : PendingRefresh). (e.place ≡ place) × Contains (holders_at p e.place) e.holder) found.2 (λ i. place, found.1)

pub pending_from : (p : Portion) (count : ℕ) (pending : PendingRefresh) → Contains (refreshes_below p count) pending → IsPendingBelow p count pending
pending_from p zero pending among = absurd (omega (arith, among.1))
pending_from p (suc count) pending among =
    ⊎_elim
    (λ before. let is = pending_from p count pending before in record { below = omega (arith, is.below); holder = is.holder })
    (λ here. let is = pending_of_row p count pending here in record { below = omega (arith, is.0); holder = is.1 })
    (Contains-append_cases (refreshes_below p count) (refreshes_at p count) pending among)

pub pending_among : (p : Portion) (count place : ℕ) (h : Holder) → place < count → Contains (holders_at p place) h → Contains (refreshes_below p count) (pending_to place h)
pending_among p zero place h below among = absurd (omega arith)
pending_among p (suc count) place h below among =
    ⊎_elim
    (λ same. subst (λ (k : ℕ). Contains (refreshes_below p (suc count)) (pending_to k h)) (sym same)
    (Contains-append_right (refreshes_below p count) (refreshes_at p count) (pending_to count h)
    (Contains-map (pending_to count) (holders_at p count) h (subst (λ (k : ℕ). Contains (holders_at p k) h) same among))))
    (λ differ. Contains-append_left (refreshes_below p count) (refreshes_at p count) (pending_to place h) (pending_among p count place h (omega arith) among))
    (cases_eq place count)

-- where each row has each holder once, each refresh stands once
pub refreshes_apart : (p : Portion) (count : ℕ) → ((place : ℕ) → place < count → AllPairs (λ a b. a ≢ b) (holders_at p place)) → AllPairs (λ a b. a ≢ b) (refreshes_below p count)
refreshes_apart p zero rows = AllPairs-nil (λ a b. a ≢ b)
refreshes_apart p (suc count) rows =
    AllPairs-append (λ a b. a ≢ b) (refreshes_below p count) (refreshes_at p count)
    (refreshes_apart p count (λ place below. rows place (omega arith)))
    (AllPairs-map (pending_to count) (λ a b. a ≢ b) (holders_at p count) (λ i j d less l same. rows count (omega arith) i j d less l (ap (λ (e : PendingRefresh). e.holder) same)))
    (λ i j d l m same.
    let first = pending_from p count (get_or (refreshes_below p count) i d) (Contains-get_or (refreshes_below p count) i d l) in
    let second = pending_of_row p count (get_or (refreshes_at p count) j d) (Contains-get_or (refreshes_at p count) j d m) in
    let places = ap (λ (e : PendingRefresh). e.place) same in
    omega (arith, first.below, second.0))
