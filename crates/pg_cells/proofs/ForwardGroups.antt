-- Values that stand for groups of values, each group joined into one.
use Rattle.std.proofs.Common.{◌≡◌, ◌≢◌, inl, inr, ℕ, List, [], ◌∷◌, ◌++◌, cond, eqb, map, fold, refl, sym, ap, ◌∙◌, subst, get_or, eq-eqb, ne_eqb}
use Rattle.std.proofs.lemmas.Bool.{cases_eq}
use Rattle.pg_cells.specs.Freshness.{RankedPut, values_of}

-- the list without its first value
abbrev rest_of : List ℕ → List ℕ
rest_of [] = []
rest_of (x ∷ xs) = xs

module _ (join : ℕ → ℕ → ℕ) where
  -- each of the first values is a group of the second ones, side by side, joined into one
  abbrev pub AreGroups : List ℕ → List ℕ → Type 0
  AreGroups [] xs = xs ≡ []
  AreGroups (y ∷ ys) xs = (x : ℕ) × (group : List ℕ) × (rest : List ℕ) × (xs ≡ x ∷ (group ++ rest)) × (y ≡ fold join x group) × AreGroups ys rest

  pub groups_of_one : (xs : List ℕ) → AreGroups xs xs
  groups_of_one [] = refl
  groups_of_one (x ∷ xs) = (x, [], xs, refl, refl, groups_of_one xs)

  -- the first group is one value longer
  pub groups_longer : (ys : List ℕ) (a b : ℕ) (xs : List ℕ) → AreGroups ys (join a b ∷ xs) → AreGroups ys (a ∷ b ∷ xs)
  groups_longer [] a b xs h = absurd (cc h)
  groups_longer (y ∷ ys) a b xs h =
      let head : join a b ≡ h.0 = ap (λ l. get_or l 0 0) h.3 in
      let tail : xs ≡ h.1 ++ h.2 = ap rest_of h.3 in
      (a, b ∷ h.1, h.2, ap (λ l. a ∷ b ∷ l) tail, h.4 ∙ ap (λ c. fold join c h.1) (sym head), h.5)

  module _ (associative : (a b c : ℕ) → join (join a b) c ≡ join a (join b c)) where
    joined_to : (a x : ℕ) (group : List ℕ) → fold join (join a x) group ≡ join a (fold join x group)
    joined_to a x [] = refl
    joined_to a x (y ∷ group) = ap (λ b. fold join b group) (associative a x y) ∙ joined_to a (join x y) group

-- these values, all put by one rank
abbrev of_rank : ℕ → List ℕ → List RankedPut
of_rank rank xs = map (λ x. record { rank = rank; value = x }) xs

fold-of_rank : (join : ℕ → ℕ → ℕ) (a rank : ℕ) (xs : List ℕ) (puts : List RankedPut)
    → fold join a (map (λ p. p.value) (of_rank rank xs ++ puts)) ≡ fold join (fold join a xs) (map (λ p. p.value) puts)
fold-of_rank join a rank [] puts = refl
fold-of_rank join a rank (x ∷ xs) puts = fold-of_rank join (join a x) rank xs puts

pub values_here : (rank other : ℕ) (x : ℕ) (puts : List RankedPut) → rank ≡ other → values_of other (record { rank = rank; value = x } ∷ puts) ≡ x ∷ values_of other puts
values_here rank other x puts same = rw (eq-eqb rank other same) refl

pub values_there : (rank other : ℕ) (x : ℕ) (puts : List RankedPut) → rank ≢ other → values_of other (record { rank = rank; value = x } ∷ puts) ≡ values_of other puts
values_there rank other x puts apart = rw (ne_eqb rank other apart) refl

own_values : (rank other : ℕ) (xs : List ℕ) (puts : List RankedPut) → rank ≡ other → values_of other (of_rank rank xs ++ puts) ≡ xs ++ values_of other puts
own_values rank other [] puts same = refl
own_values rank other (x ∷ xs) puts same = values_here rank other x (of_rank rank xs ++ puts) same ∙ ap (λ l. x ∷ l) (own_values rank other xs puts same)

other_values : (rank other : ℕ) (xs : List ℕ) (puts : List RankedPut) → rank ≢ other → values_of other (of_rank rank xs ++ puts) ≡ values_of other puts
other_values rank other [] puts apart = refl
other_values rank other (x ∷ xs) puts apart = values_there rank other x (of_rank rank xs ++ puts) apart ∙ other_values rank other xs puts apart

module _ (join : ℕ → ℕ → ℕ) (associative : (a b c : ℕ) → join (join a b) c ≡ join a (join b c)) where
  -- Puts that stand for arrivals: joined they give the same, and those of each rank are as its groups say.
  abbrev pub AreOpened : List RankedPut → (ℕ → List ℕ) → List RankedPut → Type 0
  AreOpened arrivals xs puts = ((a : ℕ) → fold join a (map (λ p. p.value) puts) ≡ fold join a (map (λ p. p.value) arrivals)) × ((rank : ℕ) → values_of rank puts ≡ xs rank)

  -- what is left for each rank once this one has its first group
  abbrev left_for : (ℕ → List ℕ) → ℕ → List ℕ → ℕ → List ℕ
  left_for xs rank rest other = cond (eqb rank other) rest (xs other)

  left_here : (xs : ℕ → List ℕ) (rank : ℕ) (rest : List ℕ) (other : ℕ) → rank ≡ other → left_for xs rank rest other ≡ rest
  left_here xs rank rest other same = rw (eq-eqb rank other same) refl

  left_there : (xs : ℕ → List ℕ) (rank : ℕ) (rest : List ℕ) (other : ℕ) → rank ≢ other → left_for xs rank rest other ≡ xs other
  left_there xs rank rest other apart = rw (ne_eqb rank other apart) refl

  groups_left : (rank y : ℕ) (arrivals : List RankedPut) (xs : ℕ → List ℕ) (rest : List ℕ) → AreGroups join (values_of rank arrivals) rest
      → ((other : ℕ) → AreGroups join (values_of other (record { rank = rank; value = y } ∷ arrivals)) (xs other))
      → (other : ℕ) → AreGroups join (values_of other arrivals) (left_for xs rank rest other)
  groups_left rank y arrivals xs rest first all other =
      elim (cases_eq rank other) [
        | inl same ↦ subst (AreGroups join (values_of other arrivals)) (sym (left_here xs rank rest other same)) (subst (λ k. AreGroups join (values_of k arrivals) rest) same first)
        | inr apart ↦ subst (AreGroups join (values_of other arrivals)) (sym (left_there xs rank rest other apart))
            (subst (λ ys. AreGroups join ys (xs other)) (values_there rank other y arrivals apart) (all other))
      ]

  opened_first : (rank y : ℕ) (arrivals : List RankedPut) (xs : ℕ → List ℕ) (x : ℕ) (group rest : List ℕ) (puts : List RankedPut)
      → xs rank ≡ x ∷ (group ++ rest) → y ≡ fold join x group → AreOpened arrivals (left_for xs rank rest) puts
      → AreOpened (record { rank = rank; value = y } ∷ arrivals) xs (of_rank rank (x ∷ group) ++ puts)
  opened_first rank y arrivals xs x group rest puts is joined opened = (
    λ a. fold-of_rank join a rank (x ∷ group) puts ∙ ap (λ b. fold join b (map (λ p. p.value) puts)) (joined_to join associative a x group ∙ ap (join a) (sym joined)) ∙ opened.0 (join a y),
    λ other. elim (cases_eq rank other) [
      | inl same ↦ own_values rank other (x ∷ group) puts same ∙ ap (λ l. x ∷ (group ++ l)) (opened.1 other ∙ left_here xs rank rest other same) ∙ sym is ∙ ap xs same
      | inr apart ↦ other_values rank other (x ∷ group) puts apart ∙ opened.1 other ∙ left_there xs rank rest other apart
    ],
  )

  -- Each arrival gives way to the group that it stands for.
  pub opened : (arrivals : List RankedPut) (xs : ℕ → List ℕ) → ((rank : ℕ) → AreGroups join (values_of rank arrivals) (xs rank))
      → (puts : List RankedPut) × AreOpened arrivals xs puts
  opened [] xs groups = ([], (λ a. refl, λ rank. sym (groups rank)))
  opened (p ∷ arrivals) xs groups =
      let first : AreGroups join (p.value ∷ values_of p.rank arrivals) (xs p.rank) = subst (λ ys. AreGroups join ys (xs p.rank)) (values_here p.rank p.rank p.value arrivals refl) (groups p.rank) in
      let left = opened arrivals (left_for xs p.rank first.2) (groups_left p.rank p.value arrivals xs first.2 first.5 groups) in
      (of_rank p.rank (first.0 ∷ first.1) ++ left.0, opened_first p.rank p.value arrivals xs first.0 first.1 first.2 left.0 first.3 first.4 left.1)
