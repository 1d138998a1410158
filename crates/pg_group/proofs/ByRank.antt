-- Lists by rank, and the lists by place that they are made of.
use Rattle.std.proofs.Common.{◌⊎◌, inl, inr, subst, length-set, get_or-set_same, ◌≡◌, ◌≢◌, ℕ, zero, suc, ◌+◌, ◌<◌, ◌≤◌, Bool, false, List, [], ◌∷◌, ◌++◌, length, map, get_or, set, refl, sym, ap, ◌∙◌, arith}
use Rattle.std.proofs.lemmas.Bool.{cases_lt}
use Rattle.std.specs.Prelude.{slice_get, Some}
use Rattle.std.proofs.lemmas.Option.{slice_get_read, get_or_from_slice_get}
use Rattle.std.proofs.lemmas.Bool.Decides.{nat_tests}
use Rattle.pg_group.specs.Ranked.{place_of, by_rank, append_at, all_clear}

-- Where another rank stands: below the own rank at its number, above it one place earlier.
abbrev Stands : ℕ → ℕ → ℕ → Type 0
Stands own rank p = ((rank < own) × (p ≡ rank)) ⊎ ((own < rank) × (rank ≡ suc p))

pub place_below : (own rank : ℕ) → rank < own → place_of own rank ≡ rank
place_below own rank h = grind (arith, nat_tests)

pub place_above : (own rank : ℕ) → own < rank → rank ≡ suc (place_of own rank)
place_above own rank h = grind (arith, nat_tests)

pub place_stands : (own rank : ℕ) → rank ≢ own → Stands own rank (place_of own rank)
place_stands own rank other =
    elim (cases_lt rank own) [
      | inl h ↦ inl (h, place_below own rank h)
      | inr h ↦ let above : own < rank = omega arith in inr (above, place_above own rank above)
    ]

down : (o t q : ℕ) → Stands (suc o) (suc t) (suc q) → Stands o t q
down o t q h = elim h [ inl x ↦ inl (omega arith, omega arith) | inr x ↦ inr (omega arith, omega arith) ]

zero_is : (o p : ℕ) → Stands (suc o) zero p → 0 ≡ p
zero_is o p h = elim h [ inl x ↦ omega arith | inr x ↦ omega arith ]

above_is : (t p : ℕ) → Stands zero (suc t) p → t ≡ p
above_is t p h = elim h [ inl x ↦ omega arith | inr x ↦ omega arith ]

no_zero : (o t : ℕ) → Stands (suc o) (suc t) zero → ⊥
no_zero o t h = elim h [ inl x ↦ omega arith | inr x ↦ omega arith ]

not_own : (p : ℕ) → Stands zero zero p → ⊥
not_own p h = elim h [ inl x ↦ omega arith | inr x ↦ omega arith ]

module _ {X : Type 0} where
  append_stands : (own rank p : ℕ) (xss : List (List X)) (x : X) → own ≤ length xss → Stands own rank p
      → append_at (by_rank [] own xss) rank x ≡ by_rank [] own (append_at xss p x)
  append_stands zero zero p xss x fits h = absurd (not_own p h)
  append_stands zero (suc t) p xss x fits h = ap (λ q. [] ∷ append_at xss q x) (above_is t p h)
  append_stands (suc o) rank p [] x fits h = absurd (omega arith)
  append_stands (suc o) zero p (y ∷ ys) x fits h = ap (λ q. by_rank [] (suc o) (append_at (y ∷ ys) q x)) (zero_is o p h)
  append_stands (suc o) (suc t) zero (y ∷ ys) x fits h = absurd (no_zero o t h)
  append_stands (suc o) (suc t) (suc q) (y ∷ ys) x fits h = ap (λ l. y ∷ l) (append_stands o t q ys x (omega arith) (down o t q h))

  set_stands : (own rank p : ℕ) (d : X) (xs : List X) (y : X) → own ≤ length xs → Stands own rank p
      → set (by_rank d own xs) rank y ≡ by_rank d own (set xs p y)
  set_stands zero zero p d xs y fits h = absurd (not_own p h)
  set_stands zero (suc t) p d xs y fits h = ap (λ q. d ∷ set xs q y) (above_is t p h)
  set_stands (suc o) rank p d [] y fits h = absurd (omega arith)
  set_stands (suc o) zero p d (x ∷ xs) y fits h = ap (λ q. by_rank d (suc o) (set (x ∷ xs) q y)) (zero_is o p h)
  set_stands (suc o) (suc t) zero d (x ∷ xs) y fits h = absurd (no_zero o t h)
  set_stands (suc o) (suc t) (suc q) d (x ∷ xs) y fits h = ap (λ l. x ∷ l) (set_stands o t q d xs y (omega arith) (down o t q h))

  at_stands : (own rank p : ℕ) (d : X) (xs : List X) → own ≤ length xs → Stands own rank p
      → get_or (by_rank d own xs) rank d ≡ get_or xs p d
  at_stands zero zero p d xs fits h = absurd (not_own p h)
  at_stands zero (suc t) p d xs fits h = ap (λ q. get_or xs q d) (above_is t p h)
  at_stands (suc o) rank p d [] fits h = absurd (omega arith)
  at_stands (suc o) zero p d (x ∷ xs) fits h = ap (λ q. get_or (x ∷ xs) q d) (zero_is o p h)
  at_stands (suc o) (suc t) zero d (x ∷ xs) fits h = absurd (no_zero o t h)
  at_stands (suc o) (suc t) (suc q) d (x ∷ xs) fits h = at_stands o t q d xs (omega arith) (down o t q h)

module _ {P X : Type 0} where
  -- what a written element keeps, all keep
  pub map-kept : (f : P → X) (ps : List P) (i : ℕ) (p q : P) → p ≡ get_or ps i p → f q ≡ f p → map f (set ps i q) ≡ map f ps
  map-kept f [] i p q is kept = refl
  map-kept f (x ∷ ps) zero p q is kept = ap (λ y. y ∷ map f ps) (kept ∙ ap f is)
  map-kept f (x ∷ ps) (suc i) p q is kept = ap (λ l. f x ∷ l) (map-kept f ps i p q is kept)

  -- a list that grew at a written element
  pub map-grown : (f : P → List X) (ps : List P) (i : ℕ) (p q : P) (x : X) → p ≡ get_or ps i p → f q ≡ f p ++ x ∷ [] → map f (set ps i q) ≡ append_at (map f ps) i x
  map-grown f [] i p q x is grown = refl
  map-grown f (y ∷ ps) zero p q x is grown = ap (λ l. l ∷ map f ps) (grown ∙ ap (λ r. f r ++ x ∷ []) is)
  map-grown f (y ∷ ps) (suc i) p q x is grown = ap (λ l. f y ∷ l) (map-grown f ps i p q x is grown)

  -- a part that a written element got anew
  pub map-set_to : (f : P → X) (ps : List P) (i : ℕ) (q : P) (x : X) → f q ≡ x → map f (set ps i q) ≡ set (map f ps) i x
  map-set_to f [] i q x e = refl
  map-set_to f (y ∷ ps) zero q x e = ap (λ z. z ∷ map f ps) e
  map-set_to f (y ∷ ps) (suc i) q x e = ap (λ l. f y ∷ l) (map-set_to f ps i q x e)

  -- the part of the element that stands there
  pub map-at : (f : P → X) (ps : List P) (i : ℕ) (p : P) (d : X) → i < length ps → p ≡ get_or ps i p → get_or (map f ps) i d ≡ f p
  map-at f [] i p d h is = absurd (omega arith)
  map-at f (y ∷ ps) zero p d h is = ap f (sym is)
  map-at f (y ∷ ps) (suc i) p d h is = map-at f ps i p d (omega arith) is

pub length_of_map : {P X : Type 0} (f : P → X) (ps : List P) → length (map f ps) ≡ length ps
length_of_map f [] = refl
length_of_map f (p ∷ ps) = ap suc (length_of_map f ps)

-- A rank's lanes ps, of which the one of another rank is written: p becomes q.
module _ {P : Type 0} (ps : List P) (own ranks rank i : ℕ) (p q : P) (in_range : rank < ranks) (fit : 0 < ranks → length ps + 1 ≡ ranks) (group : 0 < ranks → own < ranks)
    (other : rank ≢ own) (at_place : i ≡ place_of own rank) (is : p ≡ get_or ps i p) where
  some_rank : 0 < ranks
  some_rank = omega arith

  stands : Stands own rank i
  stands = subst (Stands own rank) (sym at_place) (place_stands own rank other)

  within : i < length ps
  within = elim stands [ inl x ↦ omega (arith, fit some_rank, group some_rank) | inr x ↦ omega (arith, fit some_rank) ]

  long : {X : Type 0} (f : P → X) → own ≤ length (map f ps)
  long f = omega (arith, fit some_rank, group some_rank, length_of_map f ps)

  pub lane_grown : {X : Type 0} (f : P → List X) (x : X) → f q ≡ f p ++ x ∷ []
      → by_rank [] own (map f (set ps i q)) ≡ append_at (by_rank [] own (map f ps)) rank x
  lane_grown f x grown = ap (by_rank [] own) (map-grown f ps i p q x is grown) ∙ sym (append_stands own rank i (map f ps) x (long f) stands)

  pub lane_kept : {X : Type 0} (f : P → X) (d : X) → f q ≡ f p → by_rank d own (map f (set ps i q)) ≡ by_rank d own (map f ps)
  lane_kept f d kept = ap (by_rank d own) (map-kept f ps i p q is kept)

  pub lane_set : {X : Type 0} (f : P → X) (d x : X) → f q ≡ x → by_rank d own (map f (set ps i q)) ≡ set (by_rank d own (map f ps)) rank x
  lane_set f d x e = ap (by_rank d own) (map-set_to f ps i q x e) ∙ sym (set_stands own rank i d (map f ps) x (long f) stands)

  pub lane_at : {X : Type 0} (f : P → X) (d : X) → get_or (by_rank d own (map f ps)) rank d ≡ f p
  lane_at f d = at_stands own rank i d (map f ps) (long f) stands ∙ map-at f ps i p d within is

  pub lane_at_new : {X : Type 0} (f : P → X) (d : X) → get_or (by_rank d own (map f (set ps i q))) rank d ≡ f q
  lane_at_new f d =
      let same : length (set ps i q) ≡ length ps = length-set ps i q in
      at_stands own rank i d (map f (set ps i q)) (omega (arith, fit some_rank, group some_rank, length_of_map f (set ps i q), same)) stands
      ∙ map-at f (set ps i q) i q d (omega (arith, within, same)) (sym (get_or-set_same ps i q q within))

  pub lane_before : slice_get ps (place_of own rank) ≡ Some p
  lane_before = ap (slice_get ps) (sym at_place) ∙ slice_get_read ps (length ps) i p refl within is

  pub lane_after : slice_get (set ps i q) (place_of own rank) ≡ Some q
  lane_after =
      let same : length (set ps i q) ≡ length ps = length-set ps i q in
      ap (slice_get (set ps i q)) (sym at_place) ∙ slice_get_read (set ps i q) (length (set ps i q)) i q refl (omega (arith, within, same)) (sym (get_or-set_same ps i q q within))

-- what the lane of another rank says, found in the list by rank
pub said_of : {P X : Type 0} (ps : List P) (own r rank n : ℕ) (p : P) → own ≡ r → r < n → rank < n → r ≢ rank → length ps + 1 ≡ n → slice_get ps (place_of r rank) ≡ Some p
    → (f : P → X) (d : X) → get_or (by_rank d own (map f ps)) rank d ≡ f p
said_of ps own r rank n p is_own r_in rank_in apart fit at f d =
    let low : own < n = omega arith in
    let other : rank ≢ own = λ e. apart (sym (e ∙ is_own)) in
    let here : slice_get ps (place_of own rank) ≡ Some p = ap (λ o. slice_get ps (place_of o rank)) is_own ∙ at in
    lane_at ps own n rank (place_of own rank) p p rank_in (λ some. fit) (λ some. low) other refl (sym (get_or_from_slice_get ps (place_of own rank) p p here)) f d

-- the flags with the first ones cleared
abbrev pub cleared : ℕ → List Bool → List Bool
cleared zero flags = flags
cleared (suc n) [] = []
cleared (suc n) (flag ∷ flags) = false ∷ cleared n flags

-- clearing one flag more
pub cleared-more : (n : ℕ) (flags : List Bool) → set (cleared n flags) n false ≡ cleared (suc n) flags
cleared-more zero [] = refl
cleared-more zero (b ∷ bs) = refl
cleared-more (suc n) [] = refl
cleared-more (suc n) (b ∷ bs) = ap (λ l. false ∷ l) (cleared-more n bs)

pub cleared-all : (n : ℕ) (flags : List Bool) → n ≡ length flags → cleared n flags ≡ all_clear flags
cleared-all zero [] e = refl
cleared-all zero (b ∷ bs) e = absurd (omega arith)
cleared-all (suc n) [] e = refl
cleared-all (suc n) (b ∷ bs) e = ap (λ l. false ∷ l) (cleared-all n bs (omega arith))

pub by_rank-clear : (own : ℕ) (flags : List Bool) → by_rank false own (all_clear flags) ≡ all_clear (by_rank false own flags)
by_rank-clear zero flags = refl
by_rank-clear (suc own) [] = refl
by_rank-clear (suc own) (b ∷ bs) = ap (λ l. false ∷ l) (by_rank-clear own bs)

module _ {P : Type 0} where
  pub map_same : {X : Type 0} {ps qs : List P} → ps ≡ qs → (f : P → X) → map f ps ≡ map f qs
  map_same e f = ap (map f) e

  pub kept_along : {X : Type 0} (f : P → X) (ps : List P) (i : ℕ) (p q : P) (ys : List X) → p ≡ get_or ps i p → f q ≡ f p → map f ps ≡ ys → map f (set ps i q) ≡ ys
  kept_along f ps i p q ys is kept e = map-kept f ps i p q is kept ∙ e

  pub cleared_along : (f : P → Bool) (ps : List P) (i : ℕ) (q : P) (flags : List Bool) → f q ≡ false → map f ps ≡ cleared i flags → map f (set ps i q) ≡ cleared (i + 1) flags
  cleared_along f ps i q flags clear e =
      let more : suc i ≡ i + 1 = omega arith in
      map-set_to f ps i q false clear ∙ ap (λ l. set l i false) e ∙ cleared-more i flags ∙ ap (λ n. cleared n flags) more

pub all_cleared : (own own' n : ℕ) (xs flags : List Bool) → own ≡ own' → xs ≡ cleared n flags → n ≡ length flags → by_rank false own xs ≡ all_clear (by_rank false own' flags)
all_cleared own own' n xs flags same e last =
    ap (λ o. by_rank false o xs) same ∙ ap (by_rank false own') (e ∙ cleared-all n flags last) ∙ by_rank-clear own' flags
