-- Lists by rank that grow by an item or by marks.
use Rattle.std.proofs.Common.{◌≡◌, ◌≢◌, ℕ, zero, suc, ◌<◌, ◌≤◌, List, [], ◌∷◌, ◌++◌, Some, length, slice_get, refl, sym, ◌∙◌, ap, subst, ⊎_elim, arith}
use Rattle.std.proofs.lemmas.Bool.{cases_lt}
use Rattle.std.proofs.lemmas.Option.{none-some}
use Rattle.pg_group.specs.declared.messages.Body.{Body}
use Rattle.pg_group.specs.declared.messages.Body.TheVariants.{Item, Mark}
use Rattle.pg_group.specs.declared.messages.Vote.{Vote}
use Rattle.pg_group.specs.Ranked.{list_at}
use Rattle.pg_group.specs.Rounds.{marks, items_of_round, votes_of}
use Rattle.pg_group.specs.Supersteps.{nothing, append_each, append_marks}
use Rattle.pg_group.proofs.Counting.{marks_counted}
use Rattle.pg_group.proofs.Growing.{push_before, push_last}
use Rattle.pg_group.proofs.Lanes.{items_of_round-push}
use Rattle.pg_group.proofs.RollLemmas.{round-mark, round-ended, round-to_come}

module _ {B : Type 0} where
  pub votes-item : (bs : List (Body B)) (x : B) → votes_of (bs ++ Item x ∷ []) ≡ votes_of bs
  votes-item [] x = refl
  votes-item (Item y ∷ bs) x = votes-item bs x
  votes-item (Mark v ∷ bs) x = ap (λ l. v ∷ l) (votes-item bs x)

  pub votes-mark : (bs : List (Body B)) (v : Vote) → votes_of (bs ++ Mark v ∷ []) ≡ votes_of bs ++ v ∷ []
  votes-mark [] v = refl
  votes-mark (Item x ∷ bs) v = votes-mark bs v
  votes-mark (Mark w ∷ bs) v = ap (λ l. w ∷ l) (votes-mark bs v)

  -- A mark's vote stands behind the votes before it.
  pub vote_before : (bs : List (Body B)) (v : Vote) (k : ℕ) → k < marks bs → slice_get (votes_of (bs ++ Mark v ∷ [])) k ≡ slice_get (votes_of bs) k
  vote_before bs v k h =
      ap (λ l. slice_get l k) (votes-mark bs v) ∙ push_before (votes_of bs) v k (omega (arith, h, marks_counted bs))

  pub vote_last : (bs : List (Body B)) (v : Vote) (k : ℕ) → k ≡ marks bs → slice_get (votes_of (bs ++ Mark v ∷ [])) k ≡ Some v
  vote_last bs v k is =
      ap (λ l. slice_get l k) (votes-mark bs v) ∙ push_last (votes_of bs) v k (is ∙ marks_counted bs)

  pub push_other : (bs : List (Body B)) (x : B) (k : ℕ) → k ≢ marks bs → items_of_round k (bs ++ Item x ∷ []) ≡ items_of_round k bs
  push_other bs x k apart = ⊎_elim
      (λ before. round-ended k bs x before)
      (λ from. round-to_come k (bs ++ Item x ∷ []) (omega (arith, from, apart, same bs x)) ∙ sym (round-to_come k bs (omega (arith, from, apart))))
      (cases_lt k (marks bs))
    where
      same : (cs : List (Body B)) (y : B) → marks (cs ++ Item y ∷ []) ≡ marks cs
      same [] y = refl
      same (Item z ∷ cs) y = same cs y
      same (Mark v ∷ cs) y = ap suc (same cs y)

  pub push_at : (bs : List (Body B)) (x : B) (k : ℕ) → k ≡ marks bs → items_of_round k (bs ++ Item x ∷ []) ≡ items_of_round k bs ++ x ∷ []
  push_at bs x k is = subst (λ (i : ℕ). items_of_round i (bs ++ Item x ∷ []) ≡ items_of_round i bs ++ x ∷ []) (sym is) (items_of_round-push bs x)

  pub none_at : (n r : ℕ) → list_at (nothing {B = B} n) r ≡ []
  none_at zero r = refl
  none_at (suc n) zero = refl
  none_at (suc n) (suc r) = none_at n r

  pub past_all : (lists : List (List (Body B))) (r : ℕ) → length lists ≤ r → list_at lists r ≡ []
  past_all [] r h = refl
  past_all (l ∷ ls) zero h = absurd (omega arith)
  past_all (l ∷ ls) (suc r) h = past_all ls r (omega arith)

  each_at : (votes : List Vote) (lists : List (List (Body B))) (r : ℕ) (v : Vote) → r < length lists → slice_get votes r ≡ Some v
      → list_at (append_each votes lists) r ≡ list_at lists r ++ Mark v ∷ []
  each_at [] lists r v h at = absurd (none-some v at)
  each_at (w ∷ ws) [] r v h at = absurd (omega arith)
  each_at (w ∷ ws) (l ∷ ls) zero v h at = ap (λ x. l ++ Mark x ∷ []) (some_vote w v at)
    where
      some_vote : (x y : Vote) → Some x ≡ Some y → x ≡ y
      some_vote x y e = cc
  each_at (w ∷ ws) (l ∷ ls) (suc r) v h at = each_at ws ls r v (omega arith) at

  pub marks_at : (own : ℕ) (votes : List Vote) (lists : List (List (Body B))) (r : ℕ) (v : Vote) → r < length lists → r ≢ own → slice_get votes r ≡ Some v
      → list_at (append_marks own votes lists) r ≡ list_at lists r ++ Mark v ∷ []
  marks_at own [] lists r v h other at = absurd (none-some v at)
  marks_at own (w ∷ ws) [] r v h other at = absurd (omega arith)
  marks_at zero (w ∷ ws) (l ∷ ls) zero v h other at = absurd (other refl)
  marks_at zero (w ∷ ws) (l ∷ ls) (suc r) v h other at = each_at ws ls r v (omega arith) at
  marks_at (suc own) (w ∷ ws) (l ∷ ls) zero v h other at = ap (λ x. l ++ Mark x ∷ []) (some_vote w v at)
    where
      some_vote : (x y : Vote) → Some x ≡ Some y → x ≡ y
      some_vote x y e = cc
  marks_at (suc own) (w ∷ ws) (l ∷ ls) (suc r) v h other at = marks_at own ws ls r v (omega arith) (λ e. other (ap suc e)) at

  pub marks_own : (own : ℕ) (votes : List Vote) (lists : List (List (Body B))) → list_at (append_marks own votes lists) own ≡ list_at lists own
  marks_own own [] lists = refl
  marks_own own (w ∷ ws) [] = refl
  marks_own zero (w ∷ ws) (l ∷ ls) = refl
  marks_own (suc own) (w ∷ ws) (l ∷ ls) = marks_own own ws ls

  items_each : (k : ℕ) (votes : List Vote) (lists : List (List (Body B))) (r : ℕ) → items_of_round k (list_at (append_each votes lists) r) ≡ items_of_round k (list_at lists r)
  items_each k [] lists r = refl
  items_each k (v ∷ vs) [] r = refl
  items_each k (v ∷ vs) (l ∷ ls) zero = round-mark k l v
  items_each k (v ∷ vs) (l ∷ ls) (suc r) = items_each k vs ls r

  -- Marks are no items.
  pub items_marks : (k own : ℕ) (votes : List Vote) (lists : List (List (Body B))) (r : ℕ) → items_of_round k (list_at (append_marks own votes lists) r) ≡ items_of_round k (list_at lists r)
  items_marks k own [] lists r = refl
  items_marks k own (v ∷ vs) [] r = refl
  items_marks k zero (v ∷ vs) (l ∷ ls) zero = refl
  items_marks k zero (v ∷ vs) (l ∷ ls) (suc r) = items_each k vs ls r
  items_marks k (suc own) (v ∷ vs) (l ∷ ls) zero = round-mark k l v
  items_marks k (suc own) (v ∷ vs) (l ∷ ls) (suc r) = items_marks k own vs ls r
