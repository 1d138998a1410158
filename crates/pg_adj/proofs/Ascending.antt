-- Ghosts ascend by vertex, and the holders of a vertex by rank.
use Rattle.std.proofs.Common.{◌≡◌, ℕ, ◌+◌, ◌<◌, ◌≤◌, List, [], ◌∷◌, ◌++◌, length, get_or, filter, All, sym, ap, subst, refl, inl, inr, arith, zero, suc}
use Rattle.std.specs.List.{AllPairs}
use Rattle.std.proofs.lemmas.Bool.{cases_eq, eq-eqb, ne_eqb}
use Rattle.std.proofs.lemmas.List.{get_or-map, length-map}
use Rattle.std.proofs.lemmas.List.Elements.{All-nil, All-cons, All-append, All-push, All-weaker, All-head, All-tail}
use Rattle.std.proofs.lemmas.List.Kept.{AllPairs-cons, AllPairs-filter}
use Rattle.std.proofs.lemmas.List.Quantifiers.{all_pairs_push}
use Rattle.pg_base.specs.Keyed.{items_of}
use Rattle.pg_base.proofs.KeyedRows.{items_of-append}
use Rattle.pg_adj.specs.declared.arcs.Arc.{Arc}
use Rattle.pg_adj.specs.declared.arcs.Ghost.{Ghost}
use Rattle.pg_adj.specs.declared.arcs.Holder.{Holder}
use Rattle.pg_adj.specs.Portions.{IsVertex}
use Rattle.pg_adj.specs.Holdings.{holdings, holdings_of}
use Rattle.pg_adj.specs.Division.{leads_abroad, vertices_to, ghost_of, ghosts_of}

pub vertices_to-within : (n : ℕ) → All (IsVertex n) (vertices_to n)
vertices_to-within zero = All-nil (IsVertex zero)
vertices_to-within (suc n) = All-push (IsVertex (suc n)) (vertices_to n) (n + 1)
    (All-weaker (IsVertex n) (IsVertex (suc n)) (λ v h. record { first = h.first; last = omega (arith, h.last) }) (vertices_to n) (vertices_to-within n))
    (record { first = omega arith; last = omega arith })

vertices_ascend : (n : ℕ) → AllPairs (λ v w. v < w) (vertices_to n)
vertices_ascend zero = λ i j d less l. absurd (omega arith)
vertices_ascend (suc n) = all_pairs_push (λ v w. v < w) (vertices_to n) (n + 1) (vertices_ascend n)
    (λ k d l. let is = vertices_to-within n k d l in omega (arith, is.last))

pub ghosts_ascend : (owner local : ℕ → ℕ) (n r : ℕ) (arcs : List Arc) → AllPairs (λ g h. g.vertex.0 < h.vertex.0) (ghosts_of owner local n r arcs)
ghosts_ascend owner local n r arcs = λ i j d less l.
    let vs : List ℕ = filter (leads_abroad r arcs) (vertices_to n) in
    let pairs : AllPairs (λ v w. v < w) vs = AllPairs-filter (λ v w. v < w) (leads_abroad r arcs) (vertices_to n) (vertices_ascend n) in
    let size = length-map vs (ghost_of owner local) in
    let order = pairs i j 0 less (omega arith) in
    let first = ap (λ (g : Ghost). g.vertex.0) (get_or-map (ghost_of owner local) vs i 0 d (omega arith)) in
    let second = ap (λ (g : Ghost). g.vertex.0) (get_or-map (ghost_of owner local) vs j 0 d (omega arith)) in
    omega arith

-- one list of pairs behind another
AllPairs-append : {X : Type 0} (R : X → X → Type 0) (xs ys : List X) → AllPairs R xs → AllPairs R ys
    → ((i j : ℕ) (d : X) → i < length xs → j < length ys → R (get_or xs i d) (get_or ys j d)) → AllPairs R (xs ++ ys)
AllPairs-append R [] ys first second across = second
AllPairs-append R (x ∷ xs) ys first second across =
    AllPairs-cons R x (xs ++ ys)
    (All-append (R x) xs ys (λ k d l. first 0 (suc k) d (omega arith) (omega arith)) (λ k d l. across 0 k d (omega arith) l))
    (AllPairs-append R xs ys (λ i j d less l. first (suc i) (suc j) d (omega arith) (omega arith)) second
    (λ i j d l m. across (suc i) j d (omega arith) m))

-- no ghost past a vertex is held for it
pub none_past : (rank slot : ℕ) (ghosts : List Ghost) (v : ℕ) → All (λ g. v < g.vertex.0) ghosts → items_of (holdings_of rank slot ghosts) v ≡ []
none_past rank slot [] v later = refl
none_past rank slot (g ∷ ghosts) v later =
    let own = All-head (λ (g : Ghost). v < g.vertex.0) g ghosts later in
    rw (ne_eqb g.vertex.0 v (λ same. absurd (omega arith))) (none_past rank (slot + 1) ghosts v (All-tail (λ (g : Ghost). v < g.vertex.0) g ghosts later))

-- a rank holds a vertex at most once
held_once : (rank slot : ℕ) (ghosts : List Ghost) (v : ℕ) → AllPairs (λ g h. g.vertex.0 < h.vertex.0) ghosts → length (items_of (holdings_of rank slot ghosts) v) ≤ 1
held_once rank slot [] v ascend = omega arith
held_once rank slot (g ∷ ghosts) v ascend = elim (cases_eq g.vertex.0 v) [
  | inl same ↦
      let later : All (λ h. v < h.vertex.0) ghosts = λ k d l. let order = ascend 0 (suc k) d (omega arith) (omega arith) in omega arith in
      rw (eq-eqb g.vertex.0 v same, none_past rank (slot + 1) ghosts v later) (omega arith)
  | inr other ↦ rw (ne_eqb g.vertex.0 v other) (held_once rank (slot + 1) ghosts v (λ i j d less l. ascend (suc i) (suc j) d (omega arith) (omega arith)))
]

own_rank : (rank slot : ℕ) (ghosts : List Ghost) (v : ℕ) → All (λ h. h.rank.0 ≡ rank) (items_of (holdings_of rank slot ghosts) v)
own_rank rank slot [] v = All-nil (λ (h : Holder). h.rank.0 ≡ rank)
own_rank rank slot (g ∷ ghosts) v =
    let rest = own_rank rank (slot + 1) ghosts v in
    elim (cases_eq g.vertex.0 v) [
      | inl same ↦ rw (eq-eqb g.vertex.0 v same) (All-cons (λ (h : Holder). h.rank.0 ≡ rank) (record { rank = record { 0 = rank }; slot = slot }) (items_of (holdings_of rank (slot + 1) ghosts) v) refl rest)
      | inr other ↦ rw (ne_eqb g.vertex.0 v other) rest
    ]

later_rank : (rank : ℕ) (lists : List (List Ghost)) (v : ℕ) → All (λ h. rank ≤ h.rank.0) (items_of (holdings rank lists) v)
later_rank rank [] v = All-nil (λ (h : Holder). rank ≤ h.rank.0)
later_rank rank (gs ∷ lists) v =
    let P : Holder → Type 0 = λ h. rank ≤ h.rank.0 in
    let first = All-weaker (λ h. h.rank.0 ≡ rank) P (λ h e. omega arith) (items_of (holdings_of rank 0 gs) v) (own_rank rank 0 gs v) in
    let rest = All-weaker (λ h. rank + 1 ≤ h.rank.0) P (λ h e. omega arith) (items_of (holdings (rank + 1) lists) v) (later_rank (rank + 1) lists v) in
    subst (λ (hs : List Holder). All P hs) (sym (items_of-append (holdings_of rank 0 gs) (holdings (rank + 1) lists) v))
    (All-append P (items_of (holdings_of rank 0 gs) v) (items_of (holdings (rank + 1) lists) v) first rest)

pub holders_ascend : (rank : ℕ) (lists : List (List Ghost)) (v : ℕ) → ((k : ℕ) (d : List Ghost) → k < length lists → AllPairs (λ g h. g.vertex.0 < h.vertex.0) (get_or lists k d))
    → AllPairs (λ a b. a.rank.0 < b.rank.0) (items_of (holdings rank lists) v)
holders_ascend rank [] v ascend = λ i j d less l. absurd (omega arith)
holders_ascend rank (gs ∷ lists) v ascend =
    let R : Holder → Holder → Type 0 = λ a b. a.rank.0 < b.rank.0 in
    let xs : List Holder = items_of (holdings_of rank 0 gs) v in
    let ys : List Holder = items_of (holdings (rank + 1) lists) v in
    let once : length xs ≤ 1 = held_once rank 0 gs v (ascend 0 [] (omega arith)) in
    let first : AllPairs R xs = λ i j d less l. absurd (omega arith) in
    let rest : AllPairs R ys = holders_ascend (rank + 1) lists v (λ k d l. ascend (suc k) d (omega arith)) in
    subst (λ (hs : List Holder). AllPairs R hs) (sym (items_of-append (holdings_of rank 0 gs) (holdings (rank + 1) lists) v))
    (AllPairs-append R xs ys first rest (λ i j d l m.
    let own = own_rank rank 0 gs v i d l in
    let later = later_rank (rank + 1) lists v j d m in
    omega arith))
