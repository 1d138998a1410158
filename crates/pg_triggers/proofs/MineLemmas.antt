-- What one more body does to a member's part of a list, and of the lists by rank.
use Rattle.std.proofs.Common.{◌≡◌, ◌≢◌, ℕ, zero, suc, ◌<◌, ◌≤◌, List, [], ◌∷◌, ◌++◌, length, map, refl, ap, ◌∙◌, arith}
use Rattle.std.specs.Prelude.{Option, Some, None}
use Rattle.pg_group.specs.declared.messages.Body.{Body}
use Rattle.pg_group.specs.declared.messages.Body.TheVariants.{Item, Mark}
use Rattle.pg_group.specs.declared.messages.Vote.{Vote}
use Rattle.pg_group.specs.Ranked.{append_at, list_at}
use Rattle.pg_group.specs.Rounds.{marks}
use Rattle.pg_group.specs.Supersteps.{append_others, append_each, append_marks}
use Rattle.pg_triggers.specs.Mine.{mine, mine_each, with_item, whole, post_all}

module _ {C X : Type 0} (item : C → Option X) (read : Vote → Vote) where
  push_none : (o : Option X) → o ≡ None → (xs : List (Body X)) → with_item item read o xs ≡ xs
  push_none None e xs = refl
  push_none (Some x) e xs = cc

  push_some : (o : Option X) (x : X) → o ≡ Some x → (xs : List (Body X)) → with_item item read o xs ≡ Item x ∷ xs
  push_some None x e xs = cc
  push_some (Some y) x e xs = let same : y ≡ x = cc in ap (λ z. Item z ∷ xs) same

  with_more : (o : Option X) (xs ys : List (Body X)) → with_item item read o (xs ++ ys) ≡ with_item item read o xs ++ ys
  with_more None xs ys = refl
  with_more (Some x) xs ys = refl

  -- an item of the member, after the others
  pub mine-some : (bs : List (Body C)) (k : ℕ) (c : C) (x : X) → item c ≡ Some x → mine item read (bs ++ Item c ∷ []) k ≡ mine item read bs k ++ Item x ∷ []
  mine-some [] k c x e = push_some (item c) x e []
  mine-some (Item y ∷ bs) k c x e = ap (with_item item read (item y)) (mine-some bs k c x e) ∙ with_more (item y) (mine item read bs k) (Item x ∷ [])
  mine-some (Mark v ∷ bs) zero c x e = mine-some bs zero c x e
  mine-some (Mark v ∷ bs) (suc k) c x e = ap (λ l. Mark (read v) ∷ l) (mine-some bs k c x e)

  -- an item of the other member
  pub mine-none : (bs : List (Body C)) (k : ℕ) (c : C) → item c ≡ None → mine item read (bs ++ Item c ∷ []) k ≡ mine item read bs k
  mine-none [] k c e = push_none (item c) e []
  mine-none (Item y ∷ bs) k c e = ap (with_item item read (item y)) (mine-none bs k c e)
  mine-none (Mark v ∷ bs) zero c e = mine-none bs zero c e
  mine-none (Mark v ∷ bs) (suc k) c e = ap (λ l. Mark (read v) ∷ l) (mine-none bs k c e)

  -- the mark of a round of the member
  pub mine-mark : (bs : List (Body C)) (k : ℕ) (v : Vote) → marks bs < k → mine item read (bs ++ Mark v ∷ []) k ≡ mine item read bs k ++ Mark (read v) ∷ []
  mine-mark [] zero v h = absurd (omega arith)
  mine-mark [] (suc k) v h = refl
  mine-mark (Item y ∷ bs) k v h = ap (with_item item read (item y)) (mine-mark bs k v h) ∙ with_more (item y) (mine item read bs k) (Mark (read v) ∷ [])
  mine-mark (Mark w ∷ bs) zero v h = absurd (omega arith)
  mine-mark (Mark w ∷ bs) (suc k) v h = ap (λ l. Mark (read w) ∷ l) (mine-mark bs k v (omega arith))

  -- the mark of a round after those of the member
  pub mine-late : (bs : List (Body C)) (k : ℕ) (v : Vote) → k ≤ marks bs → mine item read (bs ++ Mark v ∷ []) k ≡ mine item read bs k
  mine-late [] zero v h = refl
  mine-late [] (suc k) v h = absurd (omega arith)
  mine-late (Item y ∷ bs) k v h = ap (with_item item read (item y)) (mine-late bs k v h)
  mine-late (Mark w ∷ bs) zero v h = mine-late bs zero v (omega arith)
  mine-late (Mark w ∷ bs) (suc k) v h = ap (λ l. Mark (read w) ∷ l) (mine-late bs k v (omega arith))

  -- rounds without a mark
  pub mine-enough : (bs : List (Body C)) (k j : ℕ) → marks bs ≤ k → marks bs ≤ j → mine item read bs k ≡ mine item read bs j
  mine-enough [] k j h i = refl
  mine-enough (Item y ∷ bs) k j h i = ap (with_item item read (item y)) (mine-enough bs k j h i)
  mine-enough (Mark w ∷ bs) zero j h i = absurd (omega arith)
  mine-enough (Mark w ∷ bs) (suc k) zero h i = absurd (omega arith)
  mine-enough (Mark w ∷ bs) (suc k) (suc j) h i = ap (λ l. Mark (read w) ∷ l) (mine-enough bs k j (omega arith) (omega arith))

  pub list_at-mine : (lists : List (List (Body C))) (k rank : ℕ) → list_at (mine_each item read k lists) rank ≡ mine item read (list_at lists rank) k
  list_at-mine [] k rank = refl
  list_at-mine (l ∷ ls) k zero = refl
  list_at-mine (l ∷ ls) k (suc rank) = list_at-mine ls k rank

  pub each-enough : (lists : List (List (Body C))) (k j : ℕ) → ((rank : ℕ) → marks (list_at lists rank) ≤ k) → ((rank : ℕ) → marks (list_at lists rank) ≤ j)
      → mine_each item read k lists ≡ mine_each item read j lists
  each-enough [] k j h i = refl
  each-enough (l ∷ ls) k j h i =
      ap (λ x. x ∷ mine_each item read k ls) (mine-enough l k j (h 0) (i 0))
      ∙ ap (λ xs. mine item read l j ∷ xs) (each-enough ls k j (λ r. h (suc r)) (λ r. i (suc r)))

  pub each-whole : (lists : List (List (Body C))) (k : ℕ) → ((rank : ℕ) → marks (list_at lists rank) ≤ k) → mine_each item read k lists ≡ whole item read lists
  each-whole [] k h = refl
  each-whole (l ∷ ls) k h =
      ap (λ x. x ∷ mine_each item read k ls) (mine-enough l k (marks l) (h 0) (omega arith))
      ∙ ap (λ xs. mine item read l (marks l) ∷ xs) (each-whole ls k (λ r. h (suc r)))

  pub each-some : (lists : List (List (Body C))) (k rank : ℕ) (c : C) (x : X) → item c ≡ Some x
      → mine_each item read k (append_at lists rank (Item c)) ≡ append_at (mine_each item read k lists) rank (Item x)
  each-some [] k rank c x e = refl
  each-some (l ∷ ls) k zero c x e = ap (λ y. y ∷ mine_each item read k ls) (mine-some l k c x e)
  each-some (l ∷ ls) k (suc rank) c x e = ap (λ ys. mine item read l k ∷ ys) (each-some ls k rank c x e)

  pub each-none : (lists : List (List (Body C))) (k rank : ℕ) (c : C) → item c ≡ None → mine_each item read k (append_at lists rank (Item c)) ≡ mine_each item read k lists
  each-none [] k rank c e = refl
  each-none (l ∷ ls) k zero c e = ap (λ y. y ∷ mine_each item read k ls) (mine-none l k c e)
  each-none (l ∷ ls) k (suc rank) c e = ap (λ ys. mine item read l k ∷ ys) (each-none ls k rank c e)

  marks-item : (bs : List (Body C)) (c : C) → marks (bs ++ Item c ∷ []) ≡ marks bs
  marks-item [] c = refl
  marks-item (Item y ∷ bs) c = marks-item bs c
  marks-item (Mark v ∷ bs) c = ap suc (marks-item bs c)

  pub whole-some : (lists : List (List (Body C))) (rank : ℕ) (c : C) (x : X) → item c ≡ Some x → whole item read (append_at lists rank (Item c)) ≡ append_at (whole item read lists) rank (Item x)
  whole-some [] rank c x e = refl
  whole-some (l ∷ ls) zero c x e =
      ap (λ y. y ∷ whole item read ls) (ap (mine item read (l ++ Item c ∷ [])) (marks-item l c) ∙ mine-some l (marks l) c x e)
  whole-some (l ∷ ls) (suc rank) c x e = ap (λ ys. mine item read l (marks l) ∷ ys) (whole-some ls rank c x e)

  -- the marks of the pair's votes are those of the member's
  abbrev pub AllOpen : ℕ → List (List (Body C)) → Type 0
  AllOpen k lists = (rank : ℕ) → rank < length lists → marks (list_at lists rank) < k

  abbrev pub AllLate : ℕ → List (List (Body C)) → Type 0
  AllLate k lists = (rank : ℕ) → rank < length lists → k ≤ marks (list_at lists rank)

  open_pushed : (lists : List (List (Body C))) (k : ℕ) (v : Vote) → AllOpen k lists
      → mine_each item read k (map (λ l. l ++ Mark v ∷ []) lists) ≡ map (λ l. l ++ Mark (read v) ∷ []) (mine_each item read k lists)
  open_pushed [] k v h = refl
  open_pushed (l ∷ ls) k v h =
      ap (λ y. y ∷ mine_each item read k (map (λ m. m ++ Mark v ∷ []) ls)) (mine-mark l k v (h 0 (omega arith)))
      ∙ ap (λ ys. (mine item read l k ++ Mark (read v) ∷ []) ∷ ys) (open_pushed ls k v (λ r below. h (suc r) (omega arith)))

  late_pushed : (lists : List (List (Body C))) (k : ℕ) (v : Vote) → AllLate k lists → mine_each item read k (map (λ l. l ++ Mark v ∷ []) lists) ≡ mine_each item read k lists
  late_pushed [] k v h = refl
  late_pushed (l ∷ ls) k v h =
      ap (λ y. y ∷ mine_each item read k (map (λ m. m ++ Mark v ∷ []) ls)) (mine-late l k v (h 0 (omega arith)))
      ∙ ap (λ ys. mine item read l k ∷ ys) (late_pushed ls k v (λ r below. h (suc r) (omega arith)))

  open_each : (votes : List Vote) (lists : List (List (Body C))) (k : ℕ) → AllOpen k lists → mine_each item read k (append_each votes lists) ≡ append_each (map read votes) (mine_each item read k lists)
  open_each [] lists k h = refl
  open_each (v ∷ vs) [] k h = refl
  open_each (v ∷ vs) (l ∷ ls) k h =
      ap (λ y. y ∷ mine_each item read k (append_each vs ls)) (mine-mark l k v (h 0 (omega arith)))
      ∙ ap (λ ys. (mine item read l k ++ Mark (read v) ∷ []) ∷ ys) (open_each vs ls k (λ r below. h (suc r) (omega arith)))

  late_each : (votes : List Vote) (lists : List (List (Body C))) (k : ℕ) → AllLate k lists → mine_each item read k (append_each votes lists) ≡ mine_each item read k lists
  late_each [] lists k h = refl
  late_each (v ∷ vs) [] k h = refl
  late_each (v ∷ vs) (l ∷ ls) k h =
      ap (λ y. y ∷ mine_each item read k (append_each vs ls)) (mine-late l k v (h 0 (omega arith)))
      ∙ ap (λ ys. mine item read l k ∷ ys) (late_each vs ls k (λ r below. h (suc r) (omega arith)))

  -- the same of the lists of the other ranks
  abbrev pub OthersOpen : ℕ → ℕ → List (List (Body C)) → Type 0
  OthersOpen own k lists = (rank : ℕ) → rank < length lists → rank ≢ own → marks (list_at lists rank) < k

  abbrev pub OthersLate : ℕ → ℕ → List (List (Body C)) → Type 0
  OthersLate own k lists = (rank : ℕ) → rank < length lists → rank ≢ own → k ≤ marks (list_at lists rank)

  apart : (n m : ℕ) → n ≢ m → suc n ≢ suc m
  apart n m h e = h (omega arith)

  no_own : (n : ℕ) → suc n ≢ zero
  no_own n e = omega arith

  no_rank : (n : ℕ) → zero ≢ suc n
  no_rank n e = omega arith

  pub open_others : (own k : ℕ) (v : Vote) (lists : List (List (Body C))) → OthersOpen own k lists
      → mine_each item read k (append_others own (Mark v) lists) ≡ append_others own (Mark (read v)) (mine_each item read k lists)
  open_others own k v [] h = refl
  open_others zero k v (l ∷ ls) h = ap (λ ys. mine item read l k ∷ ys) (open_pushed ls k v (λ r below. h (suc r) (omega arith) (no_own r)))
  open_others (suc own) k v (l ∷ ls) h =
      ap (λ y. y ∷ mine_each item read k (append_others own (Mark v) ls)) (mine-mark l k v (h 0 (omega arith) (no_rank own)))
      ∙ ap (λ ys. (mine item read l k ++ Mark (read v) ∷ []) ∷ ys) (open_others own k v ls (λ r below other. h (suc r) (omega arith) (apart r own other)))

  pub late_others : (own k : ℕ) (v : Vote) (lists : List (List (Body C))) → OthersLate own k lists → mine_each item read k (append_others own (Mark v) lists) ≡ mine_each item read k lists
  late_others own k v [] h = refl
  late_others zero k v (l ∷ ls) h = ap (λ ys. mine item read l k ∷ ys) (late_pushed ls k v (λ r below. h (suc r) (omega arith) (no_own r)))
  late_others (suc own) k v (l ∷ ls) h =
      ap (λ y. y ∷ mine_each item read k (append_others own (Mark v) ls)) (mine-late l k v (h 0 (omega arith) (no_rank own)))
      ∙ ap (λ ys. mine item read l k ∷ ys) (late_others own k v ls (λ r below other. h (suc r) (omega arith) (apart r own other)))

  pub open_marks : (own k : ℕ) (votes : List Vote) (lists : List (List (Body C))) → OthersOpen own k lists
      → mine_each item read k (append_marks own votes lists) ≡ append_marks own (map read votes) (mine_each item read k lists)
  open_marks own k [] lists h = refl
  open_marks own k (v ∷ vs) [] h = refl
  open_marks zero k (v ∷ vs) (l ∷ ls) h = ap (λ ys. mine item read l k ∷ ys) (open_each vs ls k (λ r below. h (suc r) (omega arith) (no_own r)))
  open_marks (suc own) k (v ∷ vs) (l ∷ ls) h =
      ap (λ y. y ∷ mine_each item read k (append_marks own vs ls)) (mine-mark l k v (h 0 (omega arith) (no_rank own)))
      ∙ ap (λ ys. (mine item read l k ++ Mark (read v) ∷ []) ∷ ys) (open_marks own k vs ls (λ r below other. h (suc r) (omega arith) (apart r own other)))

  pub late_marks : (own k : ℕ) (votes : List Vote) (lists : List (List (Body C))) → OthersLate own k lists → mine_each item read k (append_marks own votes lists) ≡ mine_each item read k lists
  late_marks own k [] lists h = refl
  late_marks own k (v ∷ vs) [] h = refl
  late_marks zero k (v ∷ vs) (l ∷ ls) h = ap (λ ys. mine item read l k ∷ ys) (late_each vs ls k (λ r below. h (suc r) (omega arith) (no_own r)))
  late_marks (suc own) k (v ∷ vs) (l ∷ ls) h =
      ap (λ y. y ∷ mine_each item read k (append_marks own vs ls)) (mine-late l k v (h 0 (omega arith) (no_rank own)))
      ∙ ap (λ ys. mine item read l k ∷ ys) (late_marks own k vs ls (λ r below other. h (suc r) (omega arith) (apart r own other)))

module _ {C X : Type 0} (item : C → Option X) (read : Vote → Vote) (wrap : X → C) where
  -- posts of the member
  pub whole-posts : ((x : X) → item (wrap x) ≡ Some x) → (posts : List (ℕ × X)) (lists : List (List (Body C))) → whole item read (post_all wrap posts lists) ≡ post_all (λ x. x) posts (whole item read lists)
  whole-posts is [] lists = refl
  whole-posts is (p ∷ ps) lists =
      whole-posts is ps (append_at lists p.0 (Item (wrap p.1))) ∙ ap (post_all (λ x. x) ps) (whole-some item read lists p.0 (wrap p.1) p.1 (is p.1))

module _ {C X Y : Type 0} (item : C → Option X) (read : Vote → Vote) (wrap : Y → C) where
  -- posts of the other member
  pub posts-none : ((y : Y) → item (wrap y) ≡ None) → (posts : List (ℕ × Y)) (lists : List (List (Body C))) (k : ℕ) → mine_each item read k (post_all wrap posts lists) ≡ mine_each item read k lists
  posts-none is [] lists k = refl
  posts-none is (p ∷ ps) lists k = posts-none is ps (append_at lists p.0 (Item (wrap p.1))) k ∙ each-none item read lists k p.0 (wrap p.1) (is p.1)
