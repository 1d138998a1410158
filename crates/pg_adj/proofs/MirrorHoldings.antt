-- The holders of a vertex are its ghosts by rank and slot, each once.
use Rattle.std.proofs.Common.{◌≡◌, ◌≢◌, ◌==◌, ℕ, ◌+◌, List, [], ◌∷◌, Some, get_or, map, filter, slice_get, AllPairs, Contains, zero, suc, sym, ap, subst, refl, ◌∙◌, inl, inr, ⊎_elim, arith}
use Rattle.std.proofs.lemmas.Bool.{cases_eq, eq-eqb, ne_eqb, eqb-true}
use Rattle.std.proofs.lemmas.Option.{none-some, same_Some}
use Rattle.std.proofs.lemmas.List.Elements.{Contains-get_or, Contains-append_left, Contains-append_right, Contains-append_cases}
use Rattle.std.proofs.lemmas.List.Kept.{AllPairs-cons, AllPairs-filter}
use Rattle.pg_base.specs.Keyed.{Keyed, items_of}
use Rattle.pg_base.proofs.Members.{contains_first, contains_later, contains_cases, Contains-filter, Contains-kept}
use Rattle.pg_adj.specs.declared.arcs.Ghost.{Ghost}
use Rattle.pg_adj.specs.declared.arcs.Holder.{Holder}
use Rattle.pg_adj.specs.Holdings.{holdings_of, holdings}
use Rattle.pg_adj.proofs.MirrorLists.{Contains-map, Contains-from_map, AllPairs-nil, AllPairs-append, AllPairs-map}

abbrev entries_of : List (Keyed Holder) → ℕ → List (Keyed Holder)
entries_of entries v = filter (λ e. e.key == v) entries

items_are : (entries : List (Keyed Holder)) (v : ℕ) → items_of entries v ≡ map (λ e. e.item) (entries_of entries v)
items_are [] v = refl
items_are (e ∷ entries) v = elim (cases_eq e.key v) [
  | inl same ↦ rw (eq-eqb e.key v same) (ap (λ (hs : List Holder). e.item ∷ hs) (items_are entries v))
  | inr other ↦ rw (ne_eqb e.key v other) (items_are entries v)
]

abbrev pub holder_at : ℕ → ℕ → Holder
holder_at rank slot = record { rank = record { 0 = rank }; slot = slot }

-- the entry of a ghost
abbrev held_at : ℕ → ℕ → Ghost → Keyed Holder
held_at rank slot g = record { key = g.vertex.0; item = holder_at rank slot }

-- The entry is that of one of these ghosts.
record IsOfRank (rank slot : ℕ) (ghosts : List Ghost) (e : Keyed Holder) : Type 0 where
  pub index : ℕ
  pub ghost_there : Ghost
  pub at : slice_get ghosts index ≡ Some ghost_there
  pub is : held_at rank (slot + index) ghost_there ≡ e

of_rank_from : (rank slot : ℕ) (ghosts : List Ghost) (e : Keyed Holder) → Contains (holdings_of rank slot ghosts) e → IsOfRank rank slot ghosts e
of_rank_from rank slot [] e among = absurd (omega (arith, among.1))
of_rank_from rank slot (g ∷ ghosts) e among =
    let first : slot + 0 ≡ slot = omega arith in
    ⊎_elim
    (λ same. record { index = 0; ghost_there = g; at = refl; is = ap (λ (k : ℕ). held_at rank k g) first ∙ same })
    (λ later.
    let is = of_rank_from rank (slot + 1) ghosts e later in
    let next : slot + suc is.index ≡ slot + 1 + is.index = omega arith in
    record { index = suc is.index; ghost_there = is.ghost_there; at = is.at; is = ap (λ (k : ℕ). held_at rank k is.ghost_there) next ∙ is.is })
    (contains_cases (held_at rank slot g) (holdings_of rank (slot + 1) ghosts) e among)

of_rank_among : (rank slot : ℕ) (ghosts : List Ghost) (k : ℕ) (g : Ghost) → slice_get ghosts k ≡ Some g → Contains (holdings_of rank slot ghosts) (held_at rank (slot + k) g)
of_rank_among rank slot [] k g at = absurd (none-some g at)
of_rank_among rank slot (h ∷ ghosts) zero g at =
    let first : slot ≡ slot + 0 = omega arith in
    let same : h ≡ g = same_Some h g at in
    subst (λ (k : ℕ). Contains (holdings_of rank slot (h ∷ ghosts)) (held_at rank k g)) first
    (subst (λ (x : Ghost). Contains (holdings_of rank slot (h ∷ ghosts)) (held_at rank slot x)) same
    (contains_first (held_at rank slot h) (holdings_of rank (slot + 1) ghosts)))
of_rank_among rank slot (h ∷ ghosts) (suc k) g at =
    let next : slot + 1 + k ≡ slot + suc k = omega arith in
    subst (λ (j : ℕ). Contains (holdings_of rank slot (h ∷ ghosts)) (held_at rank j g)) next
    (contains_later (held_at rank slot h) (holdings_of rank (slot + 1) ghosts) (held_at rank (slot + 1 + k) g) (of_rank_among rank (slot + 1) ghosts k g at))

-- The entry is that of a ghost of one of these ranks.
record IsOfRanks (rank : ℕ) (lists : List (List Ghost)) (e : Keyed Holder) : Type 0 where
  pub index : ℕ
  pub ghosts : List Ghost
  pub there : slice_get lists index ≡ Some ghosts
  pub held : IsOfRank (rank + index) 0 ghosts e

of_ranks_from : (rank : ℕ) (lists : List (List Ghost)) (e : Keyed Holder) → Contains (holdings rank lists) e → IsOfRanks rank lists e
of_ranks_from rank [] e among = absurd (omega (arith, among.1))
of_ranks_from rank (gs ∷ lists) e among =
    let first : rank ≡ rank + 0 = omega arith in
    ⊎_elim
    (λ own. record { index = 0; ghosts = gs; there = refl; held = subst (λ (r : ℕ). IsOfRank r 0 gs e) first (of_rank_from rank 0 gs e own) })
    (λ later.
    let is = of_ranks_from (rank + 1) lists e later in
    let next : rank + 1 + is.index ≡ rank + suc is.index = omega arith in
    record { index = suc is.index; ghosts = is.ghosts; there = is.there; held = subst (λ (r : ℕ). IsOfRank r 0 is.ghosts e) next is.held })
    (Contains-append_cases (holdings_of rank 0 gs) (holdings (rank + 1) lists) e among)

of_ranks_among : (rank : ℕ) (lists : List (List Ghost)) (i : ℕ) (gs : List Ghost) (k : ℕ) (g : Ghost) → slice_get lists i ≡ Some gs → slice_get gs k ≡ Some g
    → Contains (holdings rank lists) (held_at (rank + i) k g)
of_ranks_among rank [] i gs k g there at = absurd (none-some gs there)
of_ranks_among rank (hs ∷ lists) zero gs k g there at =
    let first : rank ≡ rank + 0 = omega arith in
    let slot : 0 + k ≡ k = omega arith in
    let same : hs ≡ gs = same_Some hs gs there in
    let own : slice_get hs k ≡ Some g = subst (λ (xs : List Ghost). slice_get xs k ≡ Some g) (sym same) at in
    subst (λ (r : ℕ). Contains (holdings rank (hs ∷ lists)) (held_at r k g)) first
    (Contains-append_left (holdings_of rank 0 hs) (holdings (rank + 1) lists) (held_at rank k g)
    (subst (λ (j : ℕ). Contains (holdings_of rank 0 hs) (held_at rank j g)) slot (of_rank_among rank 0 hs k g own)))
of_ranks_among rank (hs ∷ lists) (suc i) gs k g there at =
    let next : rank + 1 + i ≡ rank + suc i = omega arith in
    subst (λ (r : ℕ). Contains (holdings rank (hs ∷ lists)) (held_at r k g)) next
    (Contains-append_right (holdings_of rank 0 hs) (holdings (rank + 1) lists) (held_at (rank + 1 + i) k g) (of_ranks_among (rank + 1) lists i gs k g there at))

abbrev Apart : Keyed Holder → Keyed Holder → Type 0
Apart a b = a.item ≢ b.item

rank_apart : (rank slot : ℕ) (ghosts : List Ghost) → AllPairs Apart (holdings_of rank slot ghosts)
rank_apart rank slot [] = AllPairs-nil Apart
rank_apart rank slot (g ∷ ghosts) =
    AllPairs-cons Apart (held_at rank slot g) (holdings_of rank (slot + 1) ghosts)
    (λ k d l same.
    let is = of_rank_from rank (slot + 1) ghosts (get_or (holdings_of rank (slot + 1) ghosts) k d) (Contains-get_or (holdings_of rank (slot + 1) ghosts) k d l) in
    let slots = ap (λ (e : Keyed Holder). e.item.slot) is.is in
    let equal = ap (λ (h : Holder). h.slot) same in
    omega arith)
    (rank_apart rank (slot + 1) ghosts)

ranks_apart : (rank : ℕ) (lists : List (List Ghost)) → AllPairs Apart (holdings rank lists)
ranks_apart rank [] = AllPairs-nil Apart
ranks_apart rank (gs ∷ lists) =
    AllPairs-append Apart (holdings_of rank 0 gs) (holdings (rank + 1) lists) (rank_apart rank 0 gs) (ranks_apart (rank + 1) lists)
    (λ i j d l m same.
    let first = of_rank_from rank 0 gs (get_or (holdings_of rank 0 gs) i d) (Contains-get_or (holdings_of rank 0 gs) i d l) in
    let second = of_ranks_from (rank + 1) lists (get_or (holdings (rank + 1) lists) j d) (Contains-get_or (holdings (rank + 1) lists) j d m) in
    let own = ap (λ (e : Keyed Holder). e.item.rank.0) first.is in
    let later = ap (λ (e : Keyed Holder). e.item.rank.0) second.held.is in
    let equal = ap (λ (h : Holder). h.rank.0) same in
    omega arith)

-- The holder is the rank and slot of a ghost of this vertex.
pub record IsHolderOf (lists : List (List Ghost)) (v : ℕ) (h : Holder) : Type 0 where
  pub ghosts : List Ghost
  pub ghost_there : Ghost
  pub there : slice_get lists h.rank.0 ≡ Some ghosts
  pub at : slice_get ghosts h.slot ≡ Some ghost_there
  pub vertex : ghost_there.vertex.0 ≡ v

pub holder_from : (lists : List (List Ghost)) (v : ℕ) (h : Holder) → Contains (items_of (holdings 0 lists) v) h → IsHolderOf lists v h
holder_from lists v h among =
    let found = Contains-from_map (λ (e : Keyed Holder). e.item) (entries_of (holdings 0 lists) v) h (subst (λ (hs : List Holder). Contains hs h) (items_are (holdings 0 lists) v) among) in
    let e : Keyed Holder = found.0 in
    let kept = Contains-filter (λ (x : Keyed Holder). x.key == v) (holdings 0 lists) e found.1 in
    let is = of_ranks_from 0 lists e kept.0 in
    let own = is.held in
    let rank : 0 + is.index ≡ h.rank.0 = ap (λ (x : Keyed Holder). x.item.rank.0) own.is ∙ ap (λ (x : Holder). x.rank.0) found.2 in
    let slot : 0 + own.index ≡ h.slot = ap (λ (x : Keyed Holder). x.item.slot) own.is ∙ ap (λ (x : Holder). x.slot) found.2 in
    let rank' : is.index ≡ h.rank.0 = omega arith in
    let slot' : own.index ≡ h.slot = omega arith in
    record {
      ghosts = is.ghosts;
      ghost_there = own.ghost_there;
      there = subst (λ (k : ℕ). slice_get lists k ≡ Some is.ghosts) rank' is.there;
      at = subst (λ (k : ℕ). slice_get is.ghosts k ≡ Some own.ghost_there) slot' own.at;
      vertex = ap (λ (x : Keyed Holder). x.key) own.is ∙ eqb-true e.key v kept.1;
    }

pub holder_among : (lists : List (List Ghost)) (rank slot : ℕ) (gs : List Ghost) (g : Ghost) → slice_get lists rank ≡ Some gs → slice_get gs slot ≡ Some g
    → Contains (items_of (holdings 0 lists) g.vertex.0) (holder_at rank slot)
holder_among lists rank slot gs g there at =
    let v : ℕ = g.vertex.0 in
    let first : 0 + rank ≡ rank = omega arith in
    let among : Contains (holdings 0 lists) (held_at rank slot g) =
    subst (λ (r : ℕ). Contains (holdings 0 lists) (held_at r slot g)) first (of_ranks_among 0 lists rank gs slot g there at) in
    subst (λ (hs : List Holder). Contains hs (holder_at rank slot)) (sym (items_are (holdings 0 lists) v))
    (Contains-map (λ (e : Keyed Holder). e.item) (entries_of (holdings 0 lists) v) (held_at rank slot g)
    (Contains-kept (λ (e : Keyed Holder). e.key == v) (holdings 0 lists) (held_at rank slot g) among (eq-eqb v v refl)))

-- a vertex has each of its holders once
pub holders_apart : (lists : List (List Ghost)) (v : ℕ) → AllPairs (λ a b. a ≢ b) (items_of (holdings 0 lists) v)
holders_apart lists v =
    subst (λ (hs : List Holder). AllPairs (λ a b. a ≢ b) hs) (sym (items_are (holdings 0 lists) v))
    (AllPairs-map (λ (e : Keyed Holder). e.item) (λ a b. a ≢ b) (entries_of (holdings 0 lists) v)
    (AllPairs-filter Apart (λ (e : Keyed Holder). e.key == v) (holdings 0 lists) (ranks_apart 0 lists)))
