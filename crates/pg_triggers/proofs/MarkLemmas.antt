-- How many marks the lists by rank have, and that a member who posts nothing leaves them.
use Rattle.std.proofs.Common.{◌≡◌, ◌≢◌, ℕ, zero, suc, ◌+◌, ◌<◌, ◌≤◌, List, [], ◌∷◌, ◌++◌, length, map, refl, sym, ap, ◌∙◌, arith, inl, inr, length-append}
use Rattle.std.specs.Prelude.{Option, Some}
use Rattle.std.proofs.lemmas.Bool.{cases_lt, cases_eq}
use Rattle.pg_group.specs.declared.messages.Body.{Body}
use Rattle.pg_group.specs.declared.messages.Body.TheVariants.{Item, Mark}
use Rattle.pg_group.specs.declared.messages.Vote.{Vote}
use Rattle.pg_group.specs.Ranked.{append_at, list_at}
use Rattle.pg_group.specs.Rounds.{marks}
use Rattle.pg_group.specs.Supersteps.{append_others, append_each, append_marks, nothing}
use Rattle.pg_triggers.specs.Mine.{mine_each, whole, post_all}
use Rattle.pg_triggers.specs.Paired.{AreMarked}
use Rattle.pg_triggers.proofs.MineLemmas.{whole-posts}

module _ {C : Type 0} where
  pub marks-item : (bs : List (Body C)) (c : C) → marks (bs ++ Item c ∷ []) ≡ marks bs
  marks-item [] c = refl
  marks-item (Item y ∷ bs) c = marks-item bs c
  marks-item (Mark v ∷ bs) c = ap suc (marks-item bs c)

  marks-mark : (bs : List (Body C)) (v : Vote) → marks (bs ++ Mark v ∷ []) ≡ marks bs + 1
  marks-mark [] v = refl
  marks-mark (Item y ∷ bs) v = marks-mark bs v
  marks-mark (Mark w ∷ bs) v = omega (arith, marks-mark bs v)

  marks-append_at : (lists : List (List (Body C))) (k rank : ℕ) (c : C) → marks (list_at (append_at lists k (Item c)) rank) ≡ marks (list_at lists rank)
  marks-append_at [] k rank c = refl
  marks-append_at (l ∷ ls) zero zero c = marks-item l c
  marks-append_at (l ∷ ls) zero (suc rank) c = refl
  marks-append_at (l ∷ ls) (suc k) zero c = refl
  marks-append_at (l ∷ ls) (suc k) (suc rank) c = marks-append_at ls k rank c

  pub length-append_at : (lists : List (List (Body C))) (k : ℕ) (b : Body C) → length (append_at lists k b) ≡ length lists
  length-append_at [] k b = refl
  length-append_at (l ∷ ls) zero b = refl
  length-append_at (l ∷ ls) (suc k) b = ap suc (length-append_at ls k b)

  pub marked-item : (own size n rank : ℕ) (c : C) (lists : List (List (Body C))) → AreMarked own size n lists → AreMarked own size n (append_at lists rank (Item c))
  marked-item own size n rank c lists m = record {
    count = length-append_at lists rank (Item c) ∙ m.count;
    others = λ r other. marks-append_at lists rank r c ∙ m.others r other;
    none = marks-append_at lists rank own c ∙ m.none;
  }

  pub marked-posts : {X : Type 0} (wrap : X → C) (own size n : ℕ) (posts : List (ℕ × X)) (lists : List (List (Body C))) → AreMarked own size n lists → AreMarked own size n (post_all wrap posts lists)
  marked-posts wrap own size n [] lists m = m
  marked-posts wrap own size n (p ∷ ps) lists m = marked-posts wrap own size n ps (append_at lists p.0 (Item (wrap p.1))) (marked-item own size n p.0 (wrap p.1) lists m)

  length_pushed : (lists : List (List (Body C))) (b : Body C) → length (map (λ l. l ++ b ∷ []) lists) ≡ length lists
  length_pushed [] b = refl
  length_pushed (l ∷ ls) b = ap suc (length_pushed ls b)

  length-others : (own : ℕ) (b : Body C) (lists : List (List (Body C))) → length (append_others own b lists) ≡ length lists
  length-others own b [] = refl
  length-others zero b (l ∷ ls) = ap suc (length_pushed ls b)
  length-others (suc own) b (l ∷ ls) = ap suc (length-others own b ls)

  at_pushed : (lists : List (List (Body C))) (v : Vote) (k : ℕ) → k < length lists → marks (list_at (map (λ l. l ++ Mark v ∷ []) lists) k) ≡ marks (list_at lists k) + 1
  at_pushed [] v k h = absurd (omega arith)
  at_pushed (l ∷ ls) v zero h = marks-mark l v
  at_pushed (l ∷ ls) v (suc k) h = at_pushed ls v k (omega arith)

  marks-others : (own : ℕ) (v : Vote) (lists : List (List (Body C))) (k : ℕ) → k < length lists → k ≢ own → marks (list_at (append_others own (Mark v) lists) k) ≡ marks (list_at lists k) + 1
  marks-others own v [] k h other = absurd (omega arith)
  marks-others zero v (l ∷ ls) zero h other = absurd (other refl)
  marks-others zero v (l ∷ ls) (suc k) h other = at_pushed ls v k (omega arith)
  marks-others (suc own) v (l ∷ ls) zero h other = marks-mark l v
  marks-others (suc own) v (l ∷ ls) (suc k) h other = marks-others own v ls k (omega arith) (λ e. other (ap suc e))

  list_at_pushed : (lists : List (List (Body C))) (b : Body C) (k : ℕ) → k < length lists → list_at (map (λ l. l ++ b ∷ []) lists) k ≡ list_at lists k ++ b ∷ []
  list_at_pushed [] b k h = absurd (omega arith)
  list_at_pushed (l ∷ ls) b zero h = refl
  list_at_pushed (l ∷ ls) b (suc k) h = list_at_pushed ls b k (omega arith)

  pub list_at-others : (own : ℕ) (b : Body C) (lists : List (List (Body C))) (k : ℕ) → k < length lists → k ≢ own → list_at (append_others own b lists) k ≡ list_at lists k ++ b ∷ []
  list_at-others own b [] k h other = absurd (omega arith)
  list_at-others zero b (l ∷ ls) zero h other = absurd (other refl)
  list_at-others zero b (l ∷ ls) (suc k) h other = list_at_pushed ls b k (omega arith)
  list_at-others (suc own) b (l ∷ ls) zero h other = refl
  list_at-others (suc own) b (l ∷ ls) (suc k) h other = list_at-others own b ls k (omega arith) (λ e. other (ap suc e))

  own-others : (own : ℕ) (b : Body C) (lists : List (List (Body C))) → list_at (append_others own b lists) own ≡ list_at lists own
  own-others own b [] = refl
  own-others zero b (l ∷ ls) = refl
  own-others (suc own) b (l ∷ ls) = own-others own b ls

  pub marked-vote : (own size n : ℕ) (v : Vote) (lists : List (List (Body C))) → AreMarked own size n lists → AreMarked own size (n + 1) (append_others own (Mark v) lists)
  marked-vote own size n v lists m = record {
    count = length-others own (Mark v) lists ∙ m.count;
    others = λ r other. marks-others own v lists r (omega (arith, m.count, other.0)) other.1 ∙ ap (λ k. k + 1) (m.others r other);
    none = ap marks (own-others own (Mark v) lists) ∙ m.none;
  }

  length-each : (votes : List Vote) (lists : List (List (Body C))) → length (append_each votes lists) ≡ length lists
  length-each [] lists = refl
  length-each (v ∷ vs) [] = refl
  length-each (v ∷ vs) (l ∷ ls) = ap suc (length-each vs ls)

  length-marks : (own : ℕ) (votes : List Vote) (lists : List (List (Body C))) → length (append_marks own votes lists) ≡ length lists
  length-marks own [] lists = refl
  length-marks own (v ∷ vs) [] = refl
  length-marks zero (v ∷ vs) (l ∷ ls) = ap suc (length-each vs ls)
  length-marks (suc own) (v ∷ vs) (l ∷ ls) = ap suc (length-marks own vs ls)

  marks-each : (votes : List Vote) (lists : List (List (Body C))) (k : ℕ) → k < length lists → k < length votes → marks (list_at (append_each votes lists) k) ≡ marks (list_at lists k) + 1
  marks-each [] lists k h i = absurd (omega arith)
  marks-each (v ∷ vs) [] k h i = absurd (omega arith)
  marks-each (v ∷ vs) (l ∷ ls) zero h i = marks-mark l v
  marks-each (v ∷ vs) (l ∷ ls) (suc k) h i = marks-each vs ls k (omega arith) (omega arith)

  marks-marks : (own : ℕ) (votes : List Vote) (lists : List (List (Body C))) (k : ℕ) → k < length lists → k < length votes → k ≢ own → marks (list_at (append_marks own votes lists) k) ≡ marks (list_at lists k) + 1
  marks-marks own [] lists k h i other = absurd (omega arith)
  marks-marks own (v ∷ vs) [] k h i other = absurd (omega arith)
  marks-marks zero (v ∷ vs) (l ∷ ls) zero h i other = absurd (other refl)
  marks-marks zero (v ∷ vs) (l ∷ ls) (suc k) h i other = marks-each vs ls k (omega arith) (omega arith)
  marks-marks (suc own) (v ∷ vs) (l ∷ ls) zero h i other = marks-mark l v
  marks-marks (suc own) (v ∷ vs) (l ∷ ls) (suc k) h i other = marks-marks own vs ls k (omega arith) (omega arith) (λ e. other (ap suc e))

  own-marks : (own : ℕ) (votes : List Vote) (lists : List (List (Body C))) → list_at (append_marks own votes lists) own ≡ list_at lists own
  own-marks own [] lists = refl
  own-marks own (v ∷ vs) [] = refl
  own-marks zero (v ∷ vs) (l ∷ ls) = refl
  own-marks (suc own) (v ∷ vs) (l ∷ ls) = own-marks own vs ls

  pub marked-round : (own size n : ℕ) (votes : List Vote) (lists : List (List (Body C))) → length votes ≡ size → AreMarked own size n lists → AreMarked own size (n + 1) (append_marks own votes lists)
  marked-round own size n votes lists each m = record {
    count = length-marks own votes lists ∙ m.count;
    others = λ r other. marks-marks own votes lists r (omega (arith, m.count, other.0)) (omega (arith, each, other.0)) other.1 ∙ ap (λ k. k + 1) (m.others r other);
    none = ap marks (own-marks own votes lists) ∙ m.none;
  }

  past : (lists : List (List (Body C))) (rank : ℕ) → length lists ≤ rank → list_at lists rank ≡ []
  past [] rank h = refl
  past (l ∷ ls) zero h = absurd (omega arith)
  past (l ∷ ls) (suc rank) h = past ls rank (omega arith)

  -- no list has more marks
  pub marked-most : (own size n : ℕ) (lists : List (List (Body C))) → AreMarked own size n lists → (rank : ℕ) → marks (list_at lists rank) ≤ n
  marked-most own size n lists m rank = elim (cases_eq rank own) [
    | inl same ↦ omega (arith, ap (λ r. marks (list_at lists r)) same, m.none)
    | inr other ↦ elim (cases_lt rank size) [
      | inl low ↦ omega (arith, m.others rank (low, other))
      | inr high ↦ omega (arith, ap marks (past lists rank (omega (arith, m.count))))
    ]
  ]

nothing_at : (C : Type 0) (n k : ℕ) → marks (list_at (nothing {B = C} n) k) ≡ 0
nothing_at C zero k = refl
nothing_at C (suc n) zero = refl
nothing_at C (suc n) (suc k) = nothing_at C n k

length_of_nothing : (C : Type 0) (n : ℕ) → length (nothing {B = C} n) ≡ n
length_of_nothing C zero = refl
length_of_nothing C (suc n) = ap suc (length_of_nothing C n)

pub marked-nothing : (C : Type 0) (own size : ℕ) → AreMarked own size 0 (nothing {B = C} size)
marked-nothing C own size = record {
  count = length_of_nothing C size;
  others = λ r other. nothing_at C size r;
  none = nothing_at C size own;
}

pub mine-nothing : {C X : Type 0} (item : C → Option X) (read : Vote → Vote) (k n : ℕ) → mine_each item read k (nothing {B = C} n) ≡ nothing {B = X} n
mine-nothing item read k zero = refl
mine-nothing item read k (suc n) = ap (λ ls. [] ∷ ls) (mine-nothing item read k n)

-- how many bodies the lists have together
pub size_of : {X : Type 0} → List (List (Body X)) → ℕ
size_of [] = 0
size_of (l ∷ ls) = length l + size_of ls

pub size_of-append : {X : Type 0} (lists : List (List (Body X))) (k : ℕ) (b : Body X) → k < length lists → size_of (append_at lists k b) ≡ size_of lists + 1
unfolding size_of
size_of-append [] k b h = absurd (omega arith)
size_of-append (l ∷ ls) zero b h = omega (arith, length-append l (b ∷ []))
size_of-append (l ∷ ls) (suc k) b h = omega (arith, size_of-append ls k b (omega arith))

pub append_past : {X : Type 0} (lists : List (List (Body X))) (k : ℕ) (b : Body X) → length lists ≤ k → append_at lists k b ≡ lists
append_past [] k b h = refl
append_past (l ∷ ls) zero b h = absurd (omega arith)
append_past (l ∷ ls) (suc k) b h = ap (λ xs. l ∷ xs) (append_past ls k b (omega arith))

pub size_of-posts : {X : Type 0} (posts : List (ℕ × X)) (lists : List (List (Body X))) → size_of lists ≤ size_of (post_all (λ x. x) posts lists)
size_of-posts [] lists = omega arith
size_of-posts (p ∷ ps) lists = elim (cases_lt p.0 (length lists)) [
  | inl low ↦ omega (arith, size_of-posts ps (append_at lists p.0 (Item p.1)), size_of-append lists p.0 (Item p.1) low)
  | inr high ↦ omega (arith, size_of-posts ps (append_at lists p.0 (Item p.1)), ap size_of (append_past lists p.0 (Item p.1) high))
]

-- posts that add nothing to the member's lists add nothing to the pair's
module _ {C X : Type 0} (wrap : X → C) where
  pub nothing_posted : (posts : List (ℕ × X)) (lists : List (List (Body C))) (own_lists : List (List (Body X))) → length lists ≡ length own_lists
      → size_of (post_all (λ x. x) posts own_lists) ≡ size_of own_lists → post_all wrap posts lists ≡ lists
  nothing_posted [] lists own_lists long same = refl
  nothing_posted (p ∷ ps) lists own_lists long same = elim (cases_lt p.0 (length own_lists)) [
    | inl low ↦ absurd (omega (arith, size_of-posts ps (append_at own_lists p.0 (Item p.1)), size_of-append own_lists p.0 (Item p.1) low, same))
    | inr high ↦
        let mine_same : append_at own_lists p.0 (Item p.1) ≡ own_lists = append_past own_lists p.0 (Item p.1) high in
        let same_lists : append_at lists p.0 (Item (wrap p.1)) ≡ lists = append_past lists p.0 (Item (wrap p.1)) (omega (arith, long)) in
        ap (post_all wrap ps) same_lists
        ∙ nothing_posted ps lists own_lists long (ap (λ l. size_of (post_all (λ x. x) ps l)) (sym mine_same) ∙ same)
  ]

  pub length_of_whole : (item : C → Option X) (read : Vote → Vote) (lists : List (List (Body C))) → length (whole item read lists) ≡ length lists
  length_of_whole item read [] = refl
  length_of_whole item read (l ∷ ls) = ap suc (length_of_whole item read ls)

  pub none_posted : (item : C → Option X) (read : Vote → Vote) → ((x : X) → item (wrap x) ≡ Some x) → (posts : List (ℕ × X)) (lists more : List (List (Body C)))
      → more ≡ post_all wrap posts lists → whole item read more ≡ whole item read lists → more ≡ lists
  none_posted item read is posts lists more grown same =
      grown ∙ nothing_posted posts lists (whole item read lists) (sym (length_of_whole item read lists))
      (ap size_of (sym (whole-posts item read wrap is posts lists) ∙ ap (whole item read) (sym grown) ∙ same))
