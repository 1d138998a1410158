-- What a rank knows, as it handles messages and the marks of a round.
use Rattle.std.proofs.Common.{◌≡◌, ◌⊎◌, inl, inr, ℕ, zero, suc, ◌<◌, max, List, [], ◌∷◌, ◌++◌, length, replicate, refl, sym, ap, subst, arith}
use Rattle.std.specs.Prelude.{Contains}
use Rattle.std.proofs.lemmas.Bool.{cases_eq}
use Rattle.std.proofs.lemmas.List.Elements.{Contains-push, Contains-push_cases, Contains-append_left}
use Rattle.pg_group.specs.declared.messages.Body.{Body}
use Rattle.pg_group.specs.declared.messages.Body.TheVariants.{Item, Mark}
use Rattle.pg_group.specs.declared.messages.Vote.{Vote}
use Rattle.pg_group.specs.Ranked.{append_at, list_at}
use Rattle.pg_group.specs.Supersteps.{append_each, append_marks, nothing}
use Rattle.pg_group.proofs.RollLemmas.{list_at-append_same, list_at-append_else}
use Rattle.pg_uses.specs.Greatest.{IsGreatest}
use Rattle.pg_uses.specs.Kept.{IsKnown}
use Rattle.pg_uses.proofs.Greatests.{greatest_alike, greatest_more}

-- ---- before any message

pub none_listed : (ranks from : ℕ) → list_at {X = Body ℕ} (replicate ranks []) from ≡ []
none_listed zero from = refl
none_listed (suc ranks) zero = refl
none_listed (suc ranks) (suc from) = none_listed ranks from

none_in : (list : List (Body ℕ)) (b : Body ℕ) → list ≡ [] → Contains list b → ⊥
none_in list b none c = omega (arith, c.1, ap length none)

-- A rank that has handled nothing knows its own number.
pub knows_own : (own ranks : ℕ) → IsGreatest (IsKnown own (nothing ranks)) own
knows_own own ranks = record {
  bounds = λ y known. elim known [
    | inl same ↦ omega (arith, same)
    | inr heard ↦ absurd (none_in (list_at (nothing ranks) heard.0) (Item y) (none_listed ranks heard.0) heard.1)
  ];
  reached = inr (inl refl);
}

-- ---- a message

module _ (own from x : ℕ) (handled : List (List (Body ℕ))) (within : from < length handled) where
  abbrev after : List (List (Body ℕ))
  after = append_at handled from (Item x)

  still_known : (y : ℕ) → IsKnown own handled y → IsKnown own after y
  still_known y (inl same) = inl same
  still_known y (inr heard) = elim (cases_eq heard.0 from) [
    | inl here ↦
        let there : Contains (list_at handled from) (Item y) = subst (λ k. Contains (list_at handled k) (Item y)) here heard.1 in
        inr (from, subst (λ l. Contains l (Item y)) (sym (list_at-append_same handled from (Item x) within)) (Contains-append_left (list_at handled from) (Item x ∷ []) (Item y) there))
    | inr apart ↦ inr (heard.0, subst (λ l. Contains l (Item y)) (sym (list_at-append_else handled from heard.0 (Item x) apart)) heard.1)
  ]

  known_before : (y : ℕ) → IsKnown own after y → IsKnown own handled y ⊎ (y ≡ x)
  known_before y (inl same) = inl (inl same)
  known_before y (inr heard) = elim (cases_eq heard.0 from) [
    | inl here ↦
        let there : Contains (list_at after from) (Item y) = subst (λ k. Contains (list_at after k) (Item y)) here heard.1 in
        let pushed : Contains (list_at handled from ++ Item x ∷ []) (Item y) = subst (λ l. Contains l (Item y)) (list_at-append_same handled from (Item x) within) there in
        elim (Contains-push_cases (list_at handled from) (Item x) (Item y) pushed) [
          | inl old ↦ inl (inr (from, old))
          | inr same ↦ inr cc
        ]
    | inr apart ↦ inl (inr (heard.0, subst (λ l. Contains l (Item y)) (list_at-append_else handled from heard.0 (Item x) apart) heard.1))
  ]

  pub hears : (greatest : ℕ) → IsGreatest (IsKnown own handled) greatest → IsGreatest (IsKnown own after) (max greatest x)
  hears greatest is =
      greatest_more (IsKnown own handled) (IsKnown own after) greatest x still_known known_before
      (inr (from, subst (λ l. Contains l (Item x)) (sym (list_at-append_same handled from (Item x) within)) (Contains-push (list_at handled from) (Item x)))) is

-- ---- marks

abbrev MayBeMarked : List (Body ℕ) → List (Body ℕ) → Type 0
MayBeMarked list marked = (marked ≡ list) ⊎ ((vote : Vote) × (marked ≡ list ++ Mark vote ∷ []))

each_marked : (votes : List Vote) (lists : List (List (Body ℕ))) (k : ℕ) → MayBeMarked (list_at lists k) (list_at (append_each votes lists) k)
each_marked [] lists k = inl refl
each_marked (v ∷ vs) [] k = inl refl
each_marked (v ∷ vs) (l ∷ ls) zero = inr (v, refl)
each_marked (v ∷ vs) (l ∷ ls) (suc k) = each_marked vs ls k

marked : (own : ℕ) (votes : List Vote) (lists : List (List (Body ℕ))) (k : ℕ) → MayBeMarked (list_at lists k) (list_at (append_marks own votes lists) k)
marked own [] lists k = inl refl
marked own (v ∷ vs) [] k = inl refl
marked zero (v ∷ vs) (l ∷ ls) zero = inl refl
marked zero (v ∷ vs) (l ∷ ls) (suc k) = each_marked vs ls k
marked (suc own) (v ∷ vs) (l ∷ ls) zero = inr (v, refl)
marked (suc own) (v ∷ vs) (l ∷ ls) (suc k) = marked own vs ls k

item_stays : (list marked : List (Body ℕ)) (x : ℕ) → MayBeMarked list marked → Contains list (Item x) → Contains marked (Item x)
item_stays list marked x (inl same) c = subst (λ l. Contains l (Item x)) (sym same) c
item_stays list marked x (inr more) c = subst (λ l. Contains l (Item x)) (sym more.1) (Contains-append_left list (Mark more.0 ∷ []) (Item x) c)

item_was : (list marked : List (Body ℕ)) (x : ℕ) → MayBeMarked list marked → Contains marked (Item x) → Contains list (Item x)
item_was list marked x (inl same) c = subst (λ l. Contains l (Item x)) same c
item_was list marked x (inr more) c = elim (Contains-push_cases list (Mark more.0) (Item x) (subst (λ l. Contains l (Item x)) more.1 c)) [
  | inl old ↦ old
  | inr same ↦ absurd (cc same)
]

-- Marks tell no number.
pub hears_marks : (own rank : ℕ) (votes : List Vote) (handled : List (List (Body ℕ))) (greatest : ℕ) → IsGreatest (IsKnown own handled) greatest → IsGreatest (IsKnown own (append_marks rank votes handled)) greatest
hears_marks own rank votes handled greatest is =
    greatest_alike (IsKnown own handled) (IsKnown own (append_marks rank votes handled)) greatest
    (λ y known. elim known [ inl same ↦ inl same | inr heard ↦ inr (heard.0, item_stays _ _ y (marked rank votes handled heard.0) heard.1) ])
    (λ y known. elim known [ inl same ↦ inl same | inr heard ↦ inr (heard.0, item_was _ _ y (marked rank votes handled heard.0) heard.1) ])
    is
