-- A group that takes in one more rank: the ports below a place have their lanes with it, the others not yet.
use Rattle.std.proofs.Common.{◌≡◌, ◌≢◌, ◌⊎◌, inl, inr, ⊎_elim, ℕ, zero, suc, ◌+◌, ◌<◌, ◌≤◌, List, [], ◌∷◌, ◌++◌, length, get_or, set, map, refl, sym, ap, ◌∙◌, subst, arith, length-set, length-append}
use Rattle.std.specs.Prelude.{slice_get, Some}
use Rattle.std.proofs.lemmas.Bool.{cases_lt}
use Rattle.std.proofs.lemmas.Option.{slice_get_read, slice_get_within}
use Rattle.pg_group.specs.Entries.{Each}
use Rattle.pg_group.specs.Ranked.{place_of, Wiring}
use Rattle.pg_group.specs.Grouped.{AreOneGroup}
use Rattle.pg_group.proofs.ByRank.{place_below, place_above, length_of_map}
use Rattle.atomic_table.specs.Seated.{TableId}

module _ {P : Type 0} where
  pub set_entry : (ps : List P) (i : ℕ) (q : P) (r : ℕ) (p : P) → slice_get (set ps i q) r ≡ Some p → ((r ≡ i) × (p ≡ q)) ⊎ ((slice_get ps r ≡ Some p) × (r ≢ i))
  set_entry [] i q r p at = absurd (cc at)
  set_entry (x ∷ ps) zero q zero p at = let same : p ≡ q = cc in inl (refl, same)
  set_entry (x ∷ ps) zero q (suc r) p at = let apart : suc r ≢ 0 = λ e. omega arith in inr (at, apart)
  set_entry (x ∷ ps) (suc i) q zero p at = let apart : 0 ≢ suc i = λ e. omega arith in inr (at, apart)
  set_entry (x ∷ ps) (suc i) q (suc r) p at =
      ⊎_elim (λ (y : (r ≡ i) × (p ≡ q)). inl (ap suc y.0, y.1)) (λ (y : (slice_get ps r ≡ Some p) × (r ≢ i)). let apart : suc r ≢ suc i = λ e. y.1 (omega arith) in inr (y.0, apart)) (set_entry ps i q r p at)

  pub push_entry : (ps : List P) (q : P) (r : ℕ) (p : P) → slice_get (ps ++ q ∷ []) r ≡ Some p → ((r ≡ length ps) × (p ≡ q)) ⊎ (slice_get ps r ≡ Some p)
  push_entry [] q zero p at = let same : p ≡ q = cc in inl (refl, same)
  push_entry [] q (suc r) p at = absurd (cc at)
  push_entry (x ∷ ps) q zero p at = inr at
  push_entry (x ∷ ps) q (suc r) p at = ⊎_elim (λ (y : (r ≡ length ps) × (p ≡ q)). inl (ap suc y.0, y.1)) (λ y. inr y) (push_entry ps q r p at)

  pub push_before : (ps : List P) (q : P) (k : ℕ) → k < length ps → slice_get (ps ++ q ∷ []) k ≡ slice_get ps k
  push_before [] q k h = absurd (omega arith)
  push_before (x ∷ ps) q zero h = refl
  push_before (x ∷ ps) q (suc k) h = push_before ps q k (omega arith)

  pub push_last : (ps : List P) (q : P) (k : ℕ) → k ≡ length ps → slice_get (ps ++ q ∷ []) k ≡ Some q
  push_last [] q zero h = refl
  push_last [] q (suc k) h = absurd (omega arith)
  push_last (x ∷ ps) q zero h = absurd (omega arith)
  push_last (x ∷ ps) q (suc k) h = push_last ps q k (omega arith)

  -- a fact of each entry, after one more
  pub each_push : (Q : ℕ → P → Type 0) (ps qs : List P) (q : P) → qs ≡ ps ++ q ∷ [] → Each Q ps → Q (length ps) q → Each Q qs
  each_push Q ps qs q more before last r p at =
      ⊎_elim (λ (y : (r ≡ length ps) × (p ≡ q)). subst (λ n. Q n p) (sym y.0) (subst (Q (length ps)) (sym y.1) last)) (λ (y : slice_get ps r ≡ Some p). before r p y)
      (push_entry ps q r p (ap (λ l. slice_get l r) (sym more) ∙ at))

  -- a fact of each entry, after a write
  pub each_set : (Q : P → Type 0) (ps : List P) (i : ℕ) (q : P) → Each (λ r p. Q p) ps → Q q → Each (λ r p. Q p) (set ps i q)
  each_set Q ps i q before now r p at =
      ⊎_elim (λ (y : (r ≡ i) × (p ≡ q)). subst Q (sym y.1) now) (λ (y : (slice_get ps r ≡ Some p) × (r ≢ i)). before r p y.0) (set_entry ps i q r p at)

  pub each_none : (Q : ℕ → P → Type 0) (ps : List P) → ps ≡ [] → Each Q ps
  each_none Q ps none r p at = let h : slice_get [] r ≡ Some p = ap (λ (l : List P). slice_get l r) (sym none) ∙ at in absurd (cc h)

  pub each_pushed : (Q : ℕ → P → Type 0) (ps mid qs : List P) (q : P) → qs ≡ mid ++ q ∷ [] → mid ≡ ps → Each Q ps → Q (length ps) q → Each Q qs
  each_pushed Q ps mid qs q more kept before last = each_push Q ps qs q (more ∙ ap (λ (l : List P). l ++ q ∷ []) kept) before last

  map_push_one : {X : Type 0} (f : P → X) (ps : List P) (q : P) → map f (ps ++ q ∷ []) ≡ map f ps ++ f q ∷ []
  map_push_one f [] q = refl
  map_push_one f (x ∷ ps) q = ap (λ l. f x ∷ l) (map_push_one f ps q)

  pub map_pushed : {X : Type 0} (f : P → X) (ps qs : List P) (q : P) → qs ≡ ps ++ q ∷ [] → map f qs ≡ map f ps ++ f q ∷ []
  map_pushed f ps qs q more = ap (map f) more ∙ map_push_one f ps q

  pub map_entry : {X : Type 0} (f : P → X) (ps : List P) (r : ℕ) (x : X) → slice_get (map f ps) r ≡ Some x → (p : P) × (slice_get ps r ≡ Some p) × (x ≡ f p)
  map_entry f [] r x at = absurd (cc at)
  map_entry f (p ∷ ps) zero x at = let same : x ≡ f p = cc in (p, refl, same)
  map_entry f (p ∷ ps) (suc r) x at = map_entry f ps r x at

  pub entry_map : {X : Type 0} (f : P → X) (ps : List P) (r : ℕ) (p : P) → slice_get ps r ≡ Some p → slice_get (map f ps) r ≡ Some (f p)
  entry_map f [] r p at = absurd (cc at)
  entry_map f (x ∷ ps) zero p at = let same : x ≡ p = cc in ap (λ y. Some (f y)) same
  entry_map f (x ∷ ps) (suc r) p at = entry_map f ps r p at

-- another rank below n stands among the first of the others
pub place_within : (n r s : ℕ) → r < n → s < n → r ≢ s → place_of r s + 1 < n
place_within n r s r_in s_in apart =
    elim (cases_lt s r) [
      | inl h ↦ omega (arith, place_below r s h)
      | inr h ↦ let above : r < s = omega arith in omega (arith, place_above r s above)
    ]

module _ {P : Type 0} (wiring : P → Wiring) where
  -- The new rank's lanes so far: `to` the ranks below i, and `from` them.
  pub record Growing (own i : ℕ) (ps : List P) (to from : List TableId) : Type 0 where
    pub long : length ps ≡ own
    pub numbers : Each (λ r p. (wiring p).own ≡ r) ps
    pub fit_out : Each (λ r p. length (wiring p).lanes_out + 1 ≡ (wiring p).size) ps
    pub fit_in : Each (λ r p. length (wiring p).lanes_in + 1 ≡ (wiring p).size) ps
    pub done : Each (λ r p. r < i → (wiring p).size ≡ own + 1) ps
    pub rest : Each (λ r p. i ≤ r → (wiring p).size ≡ own) ps
    pub paired : (r s : ℕ) (p q : P) → slice_get ps r ≡ Some p → slice_get ps s ≡ Some q → r ≢ s
        → slice_get (wiring p).lanes_out (place_of r s) ≡ slice_get (wiring q).lanes_in (place_of s r)
    pub long_to : length to ≡ i
    pub long_from : length from ≡ i
    pub new_out : Each (λ r p. r < i → slice_get (wiring p).lanes_out (place_of r own) ≡ slice_get from r) ps
    pub new_in : Each (λ r p. r < i → slice_get (wiring p).lanes_in (place_of r own) ≡ slice_get to r) ps

  pub starts : (own : ℕ) (ps : List P) (to from : List TableId) → length ps ≡ own → to ≡ [] → from ≡ [] → AreOneGroup (map wiring ps) → Growing own 0 ps to from
  starts own ps to from long no_to no_from whole =
      let size : length (map wiring ps) ≡ own = length_of_map wiring ps ∙ long in
      record {
        long = long;
        numbers = λ r p at. whole.ranks r (wiring p) (entry_map wiring ps r p at);
        fit_out = λ r p at. whole.fit_out r (wiring p) (entry_map wiring ps r p at) ∙ sym (whole.sizes r (wiring p) (entry_map wiring ps r p at));
        fit_in = λ r p at. whole.fit_in r (wiring p) (entry_map wiring ps r p at) ∙ sym (whole.sizes r (wiring p) (entry_map wiring ps r p at));
        done = λ r p at h. absurd (omega arith);
        rest = λ r p at h. whole.sizes r (wiring p) (entry_map wiring ps r p at) ∙ size;
        paired = λ r s p q at_r at_s apart. whole.paired r s (wiring p) (wiring q) (entry_map wiring ps r p at_r) (entry_map wiring ps s q at_s) apart;
        long_to = ap length no_to;
        long_from = ap length no_from;
        new_out = λ r p at h. absurd (omega arith);
        new_in = λ r p at h. absurd (omega arith);
      }

  pub size_at : (own i : ℕ) (ps : List P) (to from : List TableId) (p : P) → Growing own i ps to from → i < own → p ≡ get_or ps i p → (wiring p).size ≡ own
  size_at own i ps to from p grow h is = let long = grow.long in grow.rest i p (slice_get_read ps (length ps) i p refl (omega arith) is) (omega arith)

  module _ (own i : ℕ) (ps : List P) (to from more_to more_from : List TableId) (p q : P) (t u : TableId) (grow : Growing own i ps to from) (below : i < own) (is : p ≡ get_or ps i p)
      (same : (wiring q).own ≡ (wiring p).own) (more : (wiring q).size ≡ (wiring p).size + 1)
      (more_out : (wiring q).lanes_out ≡ (wiring p).lanes_out ++ t ∷ []) (more_in : (wiring q).lanes_in ≡ (wiring p).lanes_in ++ u ∷ [])
      (grew_to : more_to ≡ to ++ u ∷ []) (grew_from : more_from ≡ from ++ t ∷ []) where
    here : slice_get ps i ≡ Some p
    here = let long = grow.long in slice_get_read ps (length ps) i p refl (omega arith) is

    old_size : (wiring p).size ≡ own
    old_size = size_at own i ps to from p grow below is

    long_out : length (wiring p).lanes_out + 1 ≡ own
    long_out = grow.fit_out i p here ∙ old_size

    long_in : length (wiring p).lanes_in + 1 ≡ own
    long_in = grow.fit_in i p here ∙ old_size

    -- a port after the step, and what it was
    record Came (r : ℕ) (x : P) : Type 0 where
      was : P
      at_was : slice_get ps r ≡ Some was
      same_out : (k : ℕ) → k + 1 < own → slice_get (wiring x).lanes_out k ≡ slice_get (wiring was).lanes_out k
      same_in : (k : ℕ) → k + 1 < own → slice_get (wiring x).lanes_in k ≡ slice_get (wiring was).lanes_in k

    came_here : (r : ℕ) (x : P) → r ≡ i → x ≡ q → Came r x
    came_here r x e f = record {
      was = p;
      at_was = ap (slice_get ps) e ∙ here;
      same_out = λ k h. ap (λ (y : P). slice_get (wiring y).lanes_out k) f ∙ ap (λ l. slice_get l k) more_out ∙ push_before (wiring p).lanes_out t k (omega (arith, long_out));
      same_in = λ k h. ap (λ (y : P). slice_get (wiring y).lanes_in k) f ∙ ap (λ l. slice_get l k) more_in ∙ push_before (wiring p).lanes_in u k (omega (arith, long_in));
    }

    came_else : (r : ℕ) (x : P) → slice_get ps r ≡ Some x → Came r x
    came_else r x at = record { was = x; at_was = at; same_out = λ k h. refl; same_in = λ k h. refl }

    came : (r : ℕ) (x : P) → slice_get (set ps i q) r ≡ Some x → Came r x
    came r x at = ⊎_elim (λ (y : (r ≡ i) × (x ≡ q)). came_here r x y.0 y.1) (λ (y : (slice_get ps r ≡ Some x) × (r ≢ i)). came_else r x y.0) (set_entry ps i q r x at)

    within : (r : ℕ) (x : P) → slice_get ps r ≡ Some x → r < own
    within r x at = let long = grow.long in let h = slice_get_within ps r x at in omega arith

    paired_after : (r s : ℕ) (x y : P) → slice_get (set ps i q) r ≡ Some x → slice_get (set ps i q) s ≡ Some y → r ≢ s
        → slice_get (wiring x).lanes_out (place_of r s) ≡ slice_get (wiring y).lanes_in (place_of s r)
    paired_after r s x y at_r at_s apart =
        let a = came r x at_r in
        let b = came s y at_s in
        let r_in = within r a.was a.at_was in
        let s_in = within s b.was b.at_was in
        a.same_out (place_of r s) (place_within own r s r_in s_in apart) ∙ grow.paired r s a.was b.was a.at_was b.at_was apart
        ∙ sym (b.same_in (place_of s r) (place_within own s r s_in r_in (λ e. apart (sym e))))

    last_place : place_of i own + 1 ≡ own
    last_place = omega (arith, place_above i own below)

    new_out_here : (r : ℕ) (x : P) → r ≡ i → x ≡ q → slice_get (wiring x).lanes_out (place_of r own) ≡ slice_get more_from r
    new_out_here r x e f =
        let long_from = grow.long_from in
        ap (λ (y : P). slice_get (wiring y).lanes_out (place_of r own)) f ∙ ap (λ k. slice_get (wiring q).lanes_out (place_of k own)) e
        ∙ ap (λ l. slice_get l (place_of i own)) more_out ∙ push_last (wiring p).lanes_out t (place_of i own) (omega (arith, last_place, long_out))
        ∙ sym (push_last from t r (omega arith)) ∙ ap (λ l. slice_get l r) (sym grew_from)

    new_in_here : (r : ℕ) (x : P) → r ≡ i → x ≡ q → slice_get (wiring x).lanes_in (place_of r own) ≡ slice_get more_to r
    new_in_here r x e f =
        let long_to = grow.long_to in
        ap (λ (y : P). slice_get (wiring y).lanes_in (place_of r own)) f ∙ ap (λ k. slice_get (wiring q).lanes_in (place_of k own)) e
        ∙ ap (λ l. slice_get l (place_of i own)) more_in ∙ push_last (wiring p).lanes_in u (place_of i own) (omega (arith, last_place, long_in))
        ∙ sym (push_last to u r (omega arith)) ∙ ap (λ l. slice_get l r) (sym grew_to)

    pub grows : Growing own (i + 1) (set ps i q) more_to more_from
    grows = record {
      long = length-set ps i q ∙ grow.long;
      numbers = λ r x at. ⊎_elim (λ (y : (r ≡ i) × (x ≡ q)). ap (λ (z : P). (wiring z).own) y.1 ∙ same ∙ grow.numbers i p here ∙ sym y.0) (λ (y : (slice_get ps r ≡ Some x) × (r ≢ i)). grow.numbers r x y.0) (set_entry ps i q r x at);
      fit_out = λ r x at. ⊎_elim
          (λ (y : (r ≡ i) × (x ≡ q)). ap (λ (z : P). length (wiring z).lanes_out + 1) y.1 ∙ omega (arith, ap length more_out, length-append (wiring p).lanes_out (t ∷ []), grow.fit_out i p here, more) ∙ ap (λ (z : P). (wiring z).size) (sym y.1))
          (λ (y : (slice_get ps r ≡ Some x) × (r ≢ i)). grow.fit_out r x y.0) (set_entry ps i q r x at);
      fit_in = λ r x at. ⊎_elim
          (λ (y : (r ≡ i) × (x ≡ q)). ap (λ (z : P). length (wiring z).lanes_in + 1) y.1 ∙ omega (arith, ap length more_in, length-append (wiring p).lanes_in (u ∷ []), grow.fit_in i p here, more) ∙ ap (λ (z : P). (wiring z).size) (sym y.1))
          (λ (y : (slice_get ps r ≡ Some x) × (r ≢ i)). grow.fit_in r x y.0) (set_entry ps i q r x at);
      done = λ r x at h. ⊎_elim (λ (y : (r ≡ i) × (x ≡ q)). ap (λ (z : P). (wiring z).size) y.1 ∙ more ∙ ap (λ n. n + 1) old_size)
          (λ (y : (slice_get ps r ≡ Some x) × (r ≢ i)). let apart = y.1 in grow.done r x y.0 (omega arith)) (set_entry ps i q r x at);
      rest = λ r x at h. ⊎_elim (λ (y : (r ≡ i) × (x ≡ q)). let e = y.0 in absurd (omega arith)) (λ (y : (slice_get ps r ≡ Some x) × (r ≢ i)). grow.rest r x y.0 (omega arith)) (set_entry ps i q r x at);
      paired = paired_after;
      long_to = omega (arith, ap length grew_to, length-append to (u ∷ []), grow.long_to);
      long_from = omega (arith, ap length grew_from, length-append from (t ∷ []), grow.long_from);
      new_out = λ r x at h. ⊎_elim (λ (y : (r ≡ i) × (x ≡ q)). new_out_here r x y.0 y.1)
          (λ (y : (slice_get ps r ≡ Some x) × (r ≢ i)). let apart = y.1 in let lower : r < i = omega arith in let long_from = grow.long_from in
          grow.new_out r x y.0 lower ∙ sym (push_before from t r (omega arith)) ∙ ap (λ l. slice_get l r) (sym grew_from)) (set_entry ps i q r x at);
      new_in = λ r x at h. ⊎_elim (λ (y : (r ≡ i) × (x ≡ q)). new_in_here r x y.0 y.1)
          (λ (y : (slice_get ps r ≡ Some x) × (r ≢ i)). let apart = y.1 in let lower : r < i = omega arith in let long_to = grow.long_to in
          grow.new_in r x y.0 lower ∙ sym (push_before to u r (omega arith)) ∙ ap (λ l. slice_get l r) (sym grew_to)) (set_entry ps i q r x at);
    }

  module _ (own i : ℕ) (ps mid qs : List P) (w : P) (to from : List TableId) (more : qs ≡ mid ++ w ∷ []) (kept : mid ≡ ps) (grow : Growing own i ps to from) (over : i ≡ own)
      (named : (wiring w).own ≡ own) (sized : (wiring w).size ≡ own + 1) (its_to : (wiring w).lanes_out ≡ to) (its_from : (wiring w).lanes_in ≡ from) where
    pushed : qs ≡ ps ++ w ∷ []
    pushed = more ∙ ap (λ (l : List P). l ++ w ∷ []) kept

    -- an old port, or the new one
    entry : (r : ℕ) (x : P) → slice_get qs r ≡ Some x → ((r ≡ own) × (x ≡ w)) ⊎ (slice_get ps r ≡ Some x)
    entry r x at =
        ⊎_elim (λ (y : (r ≡ length ps) × (x ≡ w)). inl (y.0 ∙ grow.long, y.1)) (λ (y : slice_get ps r ≡ Some x). inr y) (push_entry ps w r x (ap (λ l. slice_get l r) (sym pushed) ∙ at))

    inside : (r : ℕ) (x : P) → slice_get ps r ≡ Some x → r < own
    inside r x at = let long = grow.long in let h = slice_get_within ps r x at in omega arith

    count : length (map wiring qs) ≡ own + 1
    count = omega (arith, length_of_map wiring qs, ap length pushed, length-append ps (w ∷ []), grow.long)

    size_of : (r : ℕ) (x : P) → slice_get qs r ≡ Some x → (wiring x).size ≡ own + 1
    size_of r x at = ⊎_elim (λ (y : (r ≡ own) × (x ≡ w)). ap (λ (z : P). (wiring z).size) y.1 ∙ sized)
        (λ (y : slice_get ps r ≡ Some x). grow.done r x y (let h = inside r x y in omega arith)) (entry r x at)

    out_of : (r : ℕ) (x : P) → slice_get qs r ≡ Some x → length (wiring x).lanes_out + 1 ≡ own + 1
    out_of r x at = ⊎_elim (λ (y : (r ≡ own) × (x ≡ w)). ap (λ (z : P). length (wiring z).lanes_out + 1) y.1 ∙ ap (λ n. n + 1) (ap length its_to ∙ grow.long_to ∙ over))
        (λ (y : slice_get ps r ≡ Some x). grow.fit_out r x y ∙ size_of r x at) (entry r x at)

    in_of : (r : ℕ) (x : P) → slice_get qs r ≡ Some x → length (wiring x).lanes_in + 1 ≡ own + 1
    in_of r x at = ⊎_elim (λ (y : (r ≡ own) × (x ≡ w)). ap (λ (z : P). length (wiring z).lanes_in + 1) y.1 ∙ ap (λ n. n + 1) (ap length its_from ∙ grow.long_from ∙ over))
        (λ (y : slice_get ps r ≡ Some x). grow.fit_in r x y ∙ size_of r x at) (entry r x at)

    number_of : (r : ℕ) (x : P) → slice_get qs r ≡ Some x → (wiring x).own ≡ r
    number_of r x at = ⊎_elim (λ (y : (r ≡ own) × (x ≡ w)). ap (λ (z : P). (wiring z).own) y.1 ∙ named ∙ sym y.0) (λ (y : slice_get ps r ≡ Some x). grow.numbers r x y) (entry r x at)

    old_to_new : (r : ℕ) (x : P) → slice_get ps r ≡ Some x → slice_get (wiring x).lanes_out (place_of r own) ≡ slice_get (wiring w).lanes_in (place_of own r)
    old_to_new r x at = let h = inside r x at in grow.new_out r x at (omega arith) ∙ ap (λ l. slice_get l r) (sym its_from) ∙ ap (slice_get (wiring w).lanes_in) (sym (place_below own r h))

    new_to_old : (s : ℕ) (y : P) → slice_get ps s ≡ Some y → slice_get (wiring w).lanes_out (place_of own s) ≡ slice_get (wiring y).lanes_in (place_of s own)
    new_to_old s y at = let h = inside s y at in ap (slice_get (wiring w).lanes_out) (place_below own s h) ∙ ap (λ l. slice_get l s) its_to ∙ sym (grow.new_in s y at (omega arith))

    paired_of : (r s : ℕ) (x y : P) → slice_get qs r ≡ Some x → slice_get qs s ≡ Some y → r ≢ s → slice_get (wiring x).lanes_out (place_of r s) ≡ slice_get (wiring y).lanes_in (place_of s r)
    paired_of r s x y at_r at_s apart =
        elim (entry r x at_r) [
          | inl a ↦ elim (entry s y at_s) [
            | inl b ↦ absurd (apart (a.0 ∙ sym b.0))
            | inr b ↦ ap (λ (z : P). slice_get (wiring z).lanes_out (place_of r s)) a.1 ∙ ap (λ n. slice_get (wiring w).lanes_out (place_of n s)) a.0
                ∙ new_to_old s y b ∙ ap (λ n. slice_get (wiring y).lanes_in (place_of s n)) (sym a.0)
          ]
          | inr a ↦ elim (entry s y at_s) [
            | inl b ↦ ap (λ n. slice_get (wiring x).lanes_out (place_of r n)) b.0 ∙ old_to_new r x a
                ∙ ap (λ n. slice_get (wiring w).lanes_in (place_of n r)) (sym b.0) ∙ ap (λ (z : P). slice_get (wiring z).lanes_in (place_of s r)) (sym b.1)
            | inr b ↦ grow.paired r s x y a b apart
          ]
        ]

    pub ends : AreOneGroup (map wiring qs)
    ends = record {
      ranks = λ r v at. let e = map_entry wiring qs r v at in ap (λ (z : Wiring). z.own) e.2 ∙ number_of r e.0 e.1;
      sizes = λ r v at. let e = map_entry wiring qs r v at in ap (λ (z : Wiring). z.size) e.2 ∙ size_of r e.0 e.1 ∙ sym count;
      fit_out = λ r v at. let e = map_entry wiring qs r v at in ap (λ (z : Wiring). length z.lanes_out + 1) e.2 ∙ out_of r e.0 e.1 ∙ sym count;
      fit_in = λ r v at. let e = map_entry wiring qs r v at in ap (λ (z : Wiring). length z.lanes_in + 1) e.2 ∙ in_of r e.0 e.1 ∙ sym count;
      paired = λ r s v z at_r at_s apart.
          let a = map_entry wiring qs r v at_r in
          let b = map_entry wiring qs s z at_s in
          ap (λ (y : Wiring). slice_get y.lanes_out (place_of r s)) a.2 ∙ paired_of r s a.0 b.0 a.1 b.1 apart ∙ ap (λ (y : Wiring). slice_get y.lanes_in (place_of s r)) (sym b.2);
    }
