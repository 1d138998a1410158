-- The forest as a list in order: there is one, one only, and it is the least that spans.
use Rattle.std.proofs.Common.{map, ℕ, ◌<◌, Bool, true, false, filter, suc, ◌≡◌, ◌⊎◌, List, [], ◌∷◌, ◌++◌, get_or, length, sym, ◌∙◌, refl, subst, inl, inr, ⊎_elim, arith, AllPairs, Contains}
use Rattle.std.proofs.lemmas.Bool.{false≢true}
use Rattle.std.proofs.lemmas.List.{get_or_default}
use Rattle.std.proofs.lemmas.List.Elements.{All-contains, Contains-get_or, Contains-append_left, Contains-append_right, Contains-append_cases}
use Rattle.std.proofs.lemmas.List.Kept.{AllPairs-filter}
use Rattle.pg_base.specs.declared.edges.Edge.{Edge}
use Rattle.pg_base.specs.Graph.{Precedes}
use Rattle.pg_base.specs.Forest.{lesser_edges, InForest, HasForest}
use Rattle.pg_base.proofs.Members.{contains_first, contains_later, contains_cases, Contains-filter, Contains-kept, AllPairs-cons}
use Rattle.pg_forest.specs.ForestLaws.{ForestExists, ForestIsOne, ForestIsLeast, PartHasSameForest, ForestsMerge, IndicesGiveForest}
use Rattle.pg_forest.proofs.Links.{links_more}
use Rattle.pg_forest.proofs.Cuts.{is_lesser, lesser, forest_is_decided, lesser_forest_joins, forest_joins}
use Rattle.pg_forest.proofs.Exchanges.{none_undercuts}

-- A decision as a test.
abbrev told : {P : Type 0} → P ⊎ (P → ⊥) → Bool
told (inl holds) = true
told (inr never) = false

told_true : (P : Type 0) (d : P ⊎ (P → ⊥)) → told d ≡ true → P
told_true P (inl holds) is = holds
told_true P (inr never) is = absurd (false≢true is)

told_from : (P : Type 0) (d : P ⊎ (P → ⊥)) → P → told d ≡ true
told_from P (inl holds) here = refl
told_from P (inr never) here = absurd (never here)

-- A test for the edges of the forest.
abbrev test : List Edge → Edge → Bool
test edges e = told (forest_is_decided edges e)

pub forest_exists : ForestExists
forest_exists edges ascending = (
  filter (test edges) edges,
  record {
    exactly = λ e. (
      λ among. told_true (InForest edges e) (forest_is_decided edges e) (Contains-filter (test edges) edges e among).1,
      λ is. Contains-kept (test edges) edges e is.among (told_from (InForest edges e) (forest_is_decided edges e) is),
    );
    ascending = AllPairs-filter Precedes (test edges) edges ascending;
  },
)

module _ {X : Type 0} (R : X → X → Type 0) (one_way : (x y : X) → R x y → R y x → ⊥) where
  rest_after : (x : X) (xs : List X) → AllPairs R (x ∷ xs) → (y : X) → Contains xs y → R x y
  rest_after x xs order y among =
      subst (R x) among.2 (order 0 (suc among.0) y (omega arith) (omega arith))

  tail_order : (x : X) (xs : List X) → AllPairs R (x ∷ xs) → AllPairs R xs
  tail_order x xs order i j d less within = order (suc i) (suc j) d (omega arith) (omega arith)

  same_first : (x : X) (xs : List X) (y : X) (ys : List X) → AllPairs R (x ∷ xs) → AllPairs R (y ∷ ys) → Contains (y ∷ ys) x → Contains (x ∷ xs) y → x ≡ y
  same_first x xs y ys left right there back =
      ⊎_elim
      (λ same. sym same)
      (λ after. ⊎_elim
      (λ same. same)
      (λ before. absurd (one_way x y (rest_after x xs left y before) (rest_after y ys right x after)))
      (contains_cases x xs y back))
      (contains_cases y ys x there)

  same_rest : (x : X) (xs : List X) (y : X) (ys : List X) → x ≡ y → AllPairs R (x ∷ xs) → ((z : X) → Contains (x ∷ xs) z → Contains (y ∷ ys) z) → (z : X) → Contains xs z → Contains ys z
  same_rest x xs y ys same order there z among =
      ⊎_elim
      (λ is.
      let after : R x z = rest_after x xs order z among in
      let here : R x x = subst (R x) (sym (same ∙ is)) after in
      absurd (one_way x x here here))
      (λ later. later)
      (contains_cases y ys z (there z (contains_later x xs z among)))

  -- Two lists in order with the same elements are the same.
  pub same_in_order : (xs ys : List X) → AllPairs R xs → AllPairs R ys → ((z : X) → Contains xs z → Contains ys z) → ((z : X) → Contains ys z → Contains xs z) → xs ≡ ys
  same_in_order [] [] left right there back = refl
  same_in_order [] (y ∷ ys) left right there back = let none = back y (contains_first y ys) in absurd (omega (arith, none.1))
  same_in_order (x ∷ xs) [] left right there back = let none = there x (contains_first x xs) in absurd (omega (arith, none.1))
  same_in_order (x ∷ xs) (y ∷ ys) left right there back =
      let same = same_first x xs y ys left right (there x (contains_first x xs)) (back y (contains_first y ys)) in
      let rest = same_in_order xs ys (tail_order x xs left) (tail_order y ys right)
      (same_rest x xs y ys same left there)
      (same_rest y ys x xs (sym same) right back) in
      λ k. same k ∷ rest k

one_way : (d e : Edge) → Precedes d e → Precedes e d → ⊥
one_way d e first second =
    let same : d.u ≡ e.u = omega (arith, first.first, second.first) in
    omega (arith, first.second same, second.second (sym same))

pub forest_is_one : ForestIsOne
forest_is_one edges first second left right =
    same_in_order Precedes one_way first second left.ascending right.ascending
    (λ e among. (right.exactly e).1 ((left.exactly e).0 among))
    (λ e among. (left.exactly e).1 ((right.exactly e).0 among))

differ : (d e : Edge) → Precedes d e → d ≡ e → ⊥
differ d e before same = one_way d e before (subst (λ (z : Edge). Precedes z d) same (subst (Precedes d) (sym same) before))

pub forest_is_least : ForestIsLeast
forest_is_least edges forest is = (
  record {
    among = λ k d below. ((is.exactly (get_or forest k d)).0 (Contains-get_or forest k d below)).among;
    joins = forest_joins edges forest (λ e within. (is.exactly e).1 within);
  },
  λ tree spans. none_undercuts edges forest tree
      (λ k d below. (is.exactly (get_or forest k d)).0 (Contains-get_or forest k d below))
      (λ i j d less within. differ (get_or forest i d) (get_or forest j d) (is.ascending i j d less within))
      spans,
)

-- Fewer edges have fewer lesser ones.
lesser_within : (edges part : List Edge) → ((d : Edge) → Contains part d → Contains edges d) → (e d : Edge) → Contains (lesser_edges part e) d → Contains (lesser_edges edges e) d
lesser_within edges part within e d among = let kept = is_lesser part e d among in lesser edges e d (within d kept.0) kept.1

-- An edge of the forest is in the forest of any part that has it.
in_part : (edges part : List Edge) → ((d : Edge) → Contains part d → Contains edges d) → (e : Edge) → Contains part e → InForest edges e → InForest part e
in_part edges part within e among is = record {
  among = among;
  needed = λ links. is.needed (links_more (lesser_edges part e) (lesser_edges edges e) (lesser_within edges part within e) e.u e.v links);
}

pub part_has_same_forest : PartHasSameForest
part_has_same_forest edges part within has e = (
  λ is. in_part edges part (λ d among. All-contains (Contains edges) part d within among) e (has e is) is,
  λ is. record {
    among = All-contains (Contains edges) part e within is.among;
    needed = λ links. is.needed (lesser_forest_joins edges part has e e.u e.v links);
  },
)

pub forests_merge : ForestsMerge
forests_merge edges others first second left right e =
    part_has_same_forest (edges ++ others) (first ++ second)
    (λ k d below. within (get_or (first ++ second) k d) (Contains-get_or (first ++ second) k d below))
    has e
  where
    within : (d : Edge) → Contains (first ++ second) d → Contains (edges ++ others) d
    within d among =
        ⊎_elim
        (λ here. Contains-append_left edges others d ((left.exactly d).0 here).among)
        (λ there. Contains-append_right edges others d ((right.exactly d).0 there).among)
        (Contains-append_cases first second d among)

    has : HasForest (edges ++ others) (first ++ second)
    has d is =
        ⊎_elim
        (λ here. Contains-append_left first second d ((left.exactly d).1 (in_part (edges ++ others) edges (λ c among. Contains-append_left edges others c among) d here is)))
        (λ there. Contains-append_right first second d ((right.exactly d).1 (in_part (edges ++ others) others (λ c among. Contains-append_right edges others c among) d there is)))
        (Contains-append_cases edges others d is.among)

mapped : (f : ℕ → Edge) (indices : List ℕ) (e : Edge) → Contains (map f indices) e → (i : ℕ) × Contains indices i × (f i ≡ e)
mapped f [] e among = absurd (omega (arith, among.1))
mapped f (i ∷ indices) e among =
    ⊎_elim
    (λ same. (i, contains_first i indices, same))
    (λ later. let found = mapped f indices e later in (found.0, contains_later i indices found.0 found.1, found.2))
    (contains_cases (f i) (map f indices) e among)

mapped_from : (f : ℕ → Edge) (indices : List ℕ) (i : ℕ) → Contains indices i → Contains (map f indices) (f i)
mapped_from f [] i among = absurd (omega (arith, among.1))
mapped_from f (j ∷ indices) i among =
    ⊎_elim
    (λ same. subst (λ (x : ℕ). Contains (map f (j ∷ indices)) (f x)) same (contains_first (f j) (map f indices)))
    (λ later. contains_later (f j) (map f indices) (f i) (mapped_from f indices i later))
    (contains_cases j indices i among)

in_order : (f : ℕ → Edge) (n : ℕ) → ((i j : ℕ) → i < j → j < n → Precedes (f i) (f j)) → (indices : List ℕ) → AllPairs (λ i j. i < j) indices → ((i : ℕ) → Contains indices i → i < n) → AllPairs Precedes (map f indices)
in_order f n order [] ascending below = λ i j d less within. absurd (omega arith)
in_order f n order (x ∷ indices) ascending below =
    AllPairs-cons Precedes (f x) (map f indices)
    (λ k d within.
    let found = mapped f indices (get_or (map f indices) k d) (Contains-get_or (map f indices) k d within) in
    let later = found.1 in
    let ahead : x < found.0 = subst (λ (y : ℕ). x < y) later.2 (ascending 0 (suc later.0) found.0 (omega arith) (omega arith)) in
    subst (Precedes (f x)) found.2 (order x found.0 ahead (below found.0 (contains_later x indices found.0 later))))
    (in_order f n order indices
    (λ i j d less within. ascending (suc i) (suc j) d (omega arith) (omega arith))
    (λ i among. below i (contains_later x indices i among)))

pub indices_give_forest : IndicesGiveForest
indices_give_forest edges other indices ordered ascending are = record {
  exactly = λ e. (λ among. told_by e (mapped at indices e among), λ is. listed e is is.among);
  ascending = in_order at (length edges) (λ i j less within. ordered i j other less within) indices ascending (λ i among. ((are i).0 among).0);
}
  where
    at : ℕ → Edge
    at i = get_or edges i other

    told_by : (e : Edge) → (i : ℕ) × Contains indices i × (at i ≡ e) → InForest edges e
    told_by e found = subst (InForest edges) found.2 ((are found.0).0 found.1).1

    listed : (e : Edge) → InForest edges e → Contains edges e → Contains (map at indices) e
    listed e is among =
        let same : get_or edges among.0 other ≡ e = get_or_default edges among.0 other e among.1 ∙ among.2 in
        subst (Contains (map at indices)) same
        (mapped_from at indices among.0 ((are among.0).1 (among.1, subst (InForest edges) (sym same) is)))
