-- Pointers that are doubled lead on to the end of their walk.
use Rattle.std.proofs.Common.{Bool, true, false, All, ◌≡◌, ◌≢◌, ◌⊎◌, ℕ, zero, suc, ◌+◌, ◌-◌, ◌*◌, ◌^◌, ◌<◌, ◌≤◌, List, length, refl, sym, ap, ◌∙◌, subst, inl, inr, arith, below_more, get_or-set_same, get_or-set_other}
use Rattle.std.specs.Prelude.{slice_index, slice_set}
use Rattle.std.proofs.lemmas.Bool.{cases_lt, true≢false}
use Rattle.std.proofs.lemmas.List.{length-set}
use Rattle.std.proofs.lemmas.List.Elements.{All-set}
use Rattle.std.proofs.Math.Nat.{mul-le-mul_right, mul-le-mul_left, two-pow-succ}
use Rattle.std.proofs.lemmas.Nat.{pow_pos}
use Rattle.pg_boruvka.specs.Pointers.{walk, IsReached, AreReached, AreAtEnds}

walk_none : (f : ℕ → ℕ) (l : ℕ) → walk f 0 l ≡ l
unfolding walk
walk_none f l = refl

walk_more : (f : ℕ → ℕ) (k l : ℕ) → walk f (suc k) l ≡ walk f k (f l)
unfolding walk
walk_more f k l = refl

walk_on : (f : ℕ → ℕ) (j k l : ℕ) → walk f (j + k) l ≡ walk f k (walk f j l)
unfolding walk
walk_on f zero k l = let e : 0 + k ≡ k = omega arith in ap (λ x. walk f x l) e
walk_on f (suc j) k l = let e : suc j + k ≡ suc (j + k) = omega arith in ap (λ x. walk f x l) e ∙ walk_on f j k (f l)

stays : (f : ℕ → ℕ) (k e : ℕ) → f e ≡ e → walk f k e ≡ e
unfolding walk
stays f zero e still = refl
stays f (suc k) e still = ap (walk f k) still ∙ stays f k e still

-- Past its end a walk leads nowhere else.
ends : (f : ℕ → ℕ) (far count l : ℕ) → far ≤ count → f (walk f far l) ≡ walk f far l → walk f count l ≡ walk f far l
ends f far count l many still =
    let split : count ≡ far + (count - far) = omega arith in
    ap (λ k. walk f k l) split ∙ walk_on f far (count - far) l ∙ stays f (count - far) (walk f far l) still

abbrev Within : List ℕ → ℕ → Type 0
Within pointers count = (l : ℕ) → l < count → slice_index pointers l < count

-- Each step along pointers that lead so far is so many steps along the old ones.
steps_along : (old now : List ℕ) (few : ℕ) → AreReached old few now → Within now (length old) → (j l : ℕ) → l < length old → IsReached old (j * few) l (walk (slice_index now) j l)
steps_along old now few reached within zero l h = record { count = 0; many = omega arith; is = walk_none (slice_index now) l ∙ sym (walk_none (slice_index old) l) }
steps_along old now few reached within (suc j) l h =
    let here = reached l h in
    let rest = steps_along old now few reached within j (slice_index now l) (within l h) in
    record {
      count = here.count + rest.count;
      many = omega (arith, here.many, rest.many);
      is = walk_more (slice_index now) j l ∙ rest.is ∙ ap (walk (slice_index old) rest.count) here.is ∙ sym (walk_on (slice_index old) here.count rest.count l);
    }

pub reached_twice : (old now new : List ℕ) (few : ℕ) → length now ≡ length old → Within now (length old) → AreReached old few now → AreReached now 2 new → AreReached old (few + few) new
reached_twice old now new few same within reached doubled l h =
    let here = doubled l (omega (arith, same, h)) in
    let on = steps_along old now few reached within here.count l h in
    record {
      count = on.count;
      many = omega (arith, mul-le-mul_right few here.many, on.many);
      is = here.is ∙ on.is;
    }

turns : (f : ℕ → ℕ) (j e : ℕ) → e ≡ walk f j e → (m : ℕ) → e ≡ walk f (m * j) e
turns f j e turn zero = let none : 0 * j ≡ 0 = omega arith in sym (ap (λ x. walk f x e) none ∙ walk_none f e)
turns f j e turn (suc m) =
    let more : suc m * j ≡ j + m * j = omega arith in
    turns f j e turn m ∙ ap (walk f (m * j)) turn ∙ sym (ap (λ x. walk f x e) more ∙ walk_on f j (m * j) e)

-- Where all pointers are at ends, they lead as far as you like.
pub reached_at_ends : (old now : List ℕ) (few far : ℕ) → 1 ≤ few → length now ≡ length old → Within now (length old) → AreReached old few now → AreAtEnds now → AreReached old far now
reached_at_ends old now few far some same within reached at_ends l h =
    let end = slice_index now l in
    let here = reached l h in
    let again = reached end (within l h) in
    let turn : end ≡ walk (slice_index old) again.count end = sym (at_ends l (omega (arith, same, h))) ∙ again.is in
    record {
      count = here.count + far * again.count;
      many = let once : 1 ≤ again.count = omega (arith, some, again.many) in omega (arith, mul-le-mul_left far once);
      is = turns (slice_index old) again.count end turn far ∙ ap (walk (slice_index old) (far * again.count)) here.is ∙ sym (walk_on (slice_index old) here.count (far * again.count) l);
    }

pub reached_to_end : (old now : List ℕ) (far : ℕ) → AreReached old far now → (l : ℕ) → l < length old → slice_index old (walk (slice_index old) far l) ≡ walk (slice_index old) far l → slice_index now l ≡ walk (slice_index old) far l
reached_to_end old now far reached l h still =
    let here = reached l h in
    here.is ∙ ends (slice_index old) far here.count l here.many still

-- In place: entries below `label` lead two of the old steps or more, and those from it on one.
pub record AreDoubled (old now : List ℕ) (label : ℕ) : Type 0 where
  pub done : (l : ℕ) → l < label → l < length old → IsReached old 2 l (slice_index now l)
  pub left : (l : ℕ) → label ≤ l → slice_index now l ≡ slice_index old l

-- No pointer has changed, and those below `label` lead to ends.
pub record AreUnchanged (old now : List ℕ) (label : ℕ) : Type 0 where
  pub same : now ≡ old
  pub at_ends : (l : ℕ) → l < label → slice_index old (slice_index old l) ≡ slice_index old l

-- Where the pointer of `label` leads, its entry leads one of the old steps or more on.
after_is : (old now : List ℕ) (label : ℕ) → AreDoubled old now label → (l : ℕ) → l < length old → ◌⊎◌ (l < label) (label ≤ l) → IsReached old 1 l (slice_index now l)
unfolding walk
after_is old now label doubled l h (inl below) = let r = doubled.done l below h in record { count = r.count; many = omega (arith, r.many); is = r.is }
after_is old now label doubled l h (inr above) = record { count = 1; many = omega arith; is = doubled.left l above }

after_reached : (old now : List ℕ) (label next after : ℕ) → label < length old → Within old (length old) → AreDoubled old now label → next ≡ slice_index now label → after ≡ slice_index now next → IsReached old 2 label after
after_reached old now label next after h within doubled is_next is_after =
    let next_old : next ≡ slice_index old label = is_next ∙ doubled.left label (omega arith) in
    let inside : next < length old = subst (λ (x : ℕ). x < length old) (sym next_old) (within label h) in
    let on = after_is old now label doubled next inside (cases_lt next label) in
    record {
      count = suc on.count;
      many = omega (arith, on.many);
      is = is_after ∙ on.is ∙ ap (walk (slice_index old) on.count) next_old ∙ sym (walk_more (slice_index old) on.count label);
    }

pub doubled_more : (old now : List ℕ) (label after : ℕ) → label < length now → AreDoubled old now label → IsReached old 2 label after → AreDoubled old (slice_set now label after) (label + 1)
doubled_more old now label after h doubled reached = record {
  done = below_more (λ l. l < length old → IsReached old 2 l (slice_index (slice_set now label after) l)) label
      (λ l below inside. let other : l ≢ label = omega arith in subst (IsReached old 2 l) (sym (get_or-set_other now label l after 0 other)) (doubled.done l below inside))
      (λ inside. subst (IsReached old 2 label) (sym (get_or-set_same now label after 0 h)) reached);
  left = λ l above. let other : l ≢ label = omega arith in get_or-set_other now label l after 0 other ∙ doubled.left l (omega arith);
}

pub doubled_none : (old : List ℕ) → AreDoubled old old 0
doubled_none old = record { done = λ l below. absurd (omega arith); left = λ l above. refl }

-- What the pass over the pointers keeps.
pub record IsDoubling (old now : List ℕ) (label : ℕ) (changed : Bool) : Type 0 where
  pub same_count : length now ≡ length old
  pub within : All (λ p. p < length old) now
  pub doubled : AreDoubled old now label
  pub unchanged : changed ≡ false → AreUnchanged old now label

pub doubling_none : (old : List ℕ) → All (λ p. p < length old) old → IsDoubling old old 0 false
doubling_none old within = record {
  same_count = refl;
  within = within;
  doubled = doubled_none old;
  unchanged = λ e. record { same = refl; at_ends = λ l below. absurd (omega arith) };
}

twice_reached : (old now : List ℕ) (label : ℕ) (changed : Bool) → All (λ p. p < length old) old → label < length old → IsDoubling old now label changed → IsReached old 2 label (slice_index now (slice_index now label))
twice_reached old now label changed within h is =
    after_reached old now label (slice_index now label) (slice_index now (slice_index now label)) h (λ l below. within l 0 below) is.doubled refl refl

twice_inside : (old now : List ℕ) (label : ℕ) (changed : Bool) → label < length old → IsDoubling old now label changed → slice_index now (slice_index now label) < length old
twice_inside old now label changed h is =
    let there : slice_index now label < length old = is.within label 0 (omega (arith, is.same_count, h)) in
    is.within (slice_index now label) 0 (omega (arith, is.same_count, there))

pub doubling_more : (old now : List ℕ) (label : ℕ) (changed : Bool) → All (λ p. p < length old) old → label < length old → IsDoubling old now label changed
    → IsDoubling old (slice_set now label (slice_index now (slice_index now label))) (label + 1) true
doubling_more old now label changed within h is =
    let inside : label < length now = omega (arith, is.same_count, h) in
    record {
      same_count = length-set now label (slice_index now (slice_index now label)) ∙ is.same_count;
      within = All-set (λ p. p < length old) now label (slice_index now (slice_index now label)) (twice_inside old now label changed h is) is.within;
      doubled = doubled_more old now label (slice_index now (slice_index now label)) inside is.doubled (twice_reached old now label changed within h is);
      unchanged = λ e. absurd (true≢false e);
    }

pub doubling_same : (old now : List ℕ) (label : ℕ) (changed : Bool) → All (λ p. p < length old) old → label < length old → slice_index now (slice_index now label) ≡ slice_index now label → IsDoubling old now label changed
    → IsDoubling old now (label + 1) changed
doubling_same old now label changed within h same is = record {
  same_count = is.same_count;
  within = is.within;
  doubled = record {
    done = below_more (λ l. l < length old → IsReached old 2 l (slice_index now l)) label is.doubled.done
        (λ inside. subst (IsReached old 2 label) same (twice_reached old now label changed within h is));
    left = λ l above. is.doubled.left l (omega arith);
  };
  unchanged = λ e. record {
    same = (is.unchanged e).same;
    at_ends = below_more (λ l. slice_index old (slice_index old l) ≡ slice_index old l) label (is.unchanged e).at_ends
        (subst (λ (p : List ℕ). slice_index p (slice_index p label) ≡ slice_index p label) (is.unchanged e).same same);
  };
}

-- After so many doublings of pointers.
pub record IsShortening (old now : List ℕ) (times : ℕ) : Type 0 where
  pub same_count : length now ≡ length old
  pub within : All (λ p. p < length old) now
  pub reached : AreReached old (2 ^ times) now

one_step : (f : ℕ → ℕ) (l : ℕ) → f l ≡ walk f 1 l
unfolding walk
one_step f l = refl

pub shortening_none : (old : List ℕ) → All (λ p. p < length old) old → IsShortening old old 0
shortening_none old within = record {
  same_count = refl;
  within = within;
  reached = λ l h. record { count = 1; many = omega arith; is = one_step (slice_index old) l };
}

pub shortening_more : (old now new : List ℕ) (times : ℕ) → IsShortening old now times → AreReached now 2 new → length new ≡ length now → All (λ p. p < length new) new → IsShortening old new (times + 1)
shortening_more old now new times is doubled same within =
    let next : times + 1 ≡ suc times = omega arith in
    let turns : 2 ^ (times + 1) ≡ 2 ^ times + 2 ^ times = ap (λ t. 2 ^ t) next ∙ two-pow-succ times in
    record {
      same_count = same ∙ is.same_count;
      within = subst (λ (n : ℕ). All (λ p. p < n) new) (same ∙ is.same_count) within;
      reached = subst (λ (few : ℕ). AreReached old few new) (sym turns)
          (reached_twice old now new (2 ^ times) is.same_count (λ l h. is.within l 0 (omega (arith, is.same_count, h))) is.reached doubled);
    }

pub shortened_far : (old now : List ℕ) (times far : ℕ) → far ≤ 2 ^ times → IsShortening old now times → AreReached old far now
shortened_far old now times far enough is l h = let r = is.reached l h in record { count = r.count; many = omega (arith, r.many, enough); is = r.is }

pub shortened_at_ends : (old now : List ℕ) (times far : ℕ) → IsShortening old now times → AreAtEnds now → AreReached old far now
shortened_at_ends old now times far is at_ends =
    let some : 1 ≤ 2 ^ times = pow_pos times in
    reached_at_ends old now (2 ^ times) far some is.same_count (λ l h. is.within l 0 (omega (arith, is.same_count, h))) is.reached at_ends
