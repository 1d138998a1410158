-- What was taken out of a set of ranks was in it, and what is left was in it too.
use Rattle.std.proofs.Common.{◌≡◌, ◌≢◌, ℕ, ◌+◌, ◌<◌, List, ◌∷◌, length, get_or, slice_set, Bool, true, false, not, ◌&&◌, eqb, All, refl, sym, ap, subst, ◌∙◌, inl, inr, arith, if◌then◌else◌}
use Rattle.std.proofs.lemmas.Bool.{cases_eq, eq-eqb, ne_eqb}
use Rattle.std.proofs.lemmas.List.{length-set, get_or-set_same, get_or-set_other}
use Rattle.std.proofs.lemmas.List.Elements.{All-head, All-tail}
use Rattle.pg_adj.specs.declared.rank_sets.RankSet.{RankSet}
use Rattle.pg_adj.specs.RankSets.{has, members}

pub and_not_itself : (b : Bool) → (b && not b) ≡ false
and_not_itself true = refl
and_not_itself false = refl

pub and_not_true : (b : Bool) → (b && not true) ≡ false
and_not_true true = refl
and_not_true false = refl

pub and_not : (a b : Bool) → b ≡ false → (a && not b) ≡ a
and_not true b none = ap not none
and_not false b none = refl

first_of_both : (a b : Bool) → (a && b) ≡ true → a ≡ true
first_of_both true b both = refl
first_of_both false b both = both

-- the rank q is taken out of the first set, and the second is left
pub record IsTaken (q : ℕ) (old new : RankSet) : Type 0 where
  pub lowest : members old ≡ q ∷ members new
  pub taken : has old q ≡ true
  pub others : (r : ℕ) → has new r ≡ (has old r && not (eqb r q))

pub taken_below : (q n : ℕ) (old new : RankSet) → IsTaken q old new → All (λ r. r < n) (members old) → q < n
taken_below q n old new h below = All-head (λ r. r < n) q (members new) (subst (All (λ r. r < n)) h.lowest below)

pub left_below : (q n : ℕ) (old new : RankSet) → IsTaken q old new → All (λ r. r < n) (members old) → All (λ r. r < n) (members new)
left_below q n old new h below = All-tail (λ r. r < n) q (members new) (subst (All (λ r. r < n)) h.lowest below)

pub fewer_left : (q : ℕ) (old new : RankSet) → IsTaken q old new → length (members new) < length (members old)
fewer_left q old new h = omega (arith, ap length h.lowest)

pub taken_gone : (q : ℕ) (old new : RankSet) → IsTaken q old new → has new q ≡ false
taken_gone q old new h = h.others q ∙ (ap (λ (b : Bool). has old q && not b) (eq-eqb q q refl) ∙ ap (λ (b : Bool). b && false) h.taken)

pub others_stay : (q r : ℕ) (old new : RankSet) → IsTaken q old new → r ≢ q → has new r ≡ has old r
others_stay q r old new h other = h.others r ∙ and_not (has old r) (eqb r q) (ne_eqb r q other)

pub was_there : (q r : ℕ) (old new : RankSet) → IsTaken q old new → has new r ≡ true → has old r ≡ true
was_there q r old new h there = first_of_both (has old r) (not (eqb r q)) (sym (h.others r) ∙ there)

abbrev pub one_if : Bool → ℕ
one_if b = if b then 1 else 0

-- Each rank of the set but for the rest has been counted once more.
pub record AreCounted (all rest : RankSet) (old new : List ℕ) : Type 0 where
  pub each : length new ≡ length old
  pub below : All (λ r. r < length old) (members rest)
  pub within : (r : ℕ) → has rest r ≡ true → has all r ≡ true
  pub counted : (r : ℕ) → r < length old → get_or new r 0 ≡ get_or old r 0 + (if has all r && not (has rest r) then 1 else 0)

pub none_counted : (all : RankSet) (counts : List ℕ) → All (λ r. r < length counts) (members all) → AreCounted all all counts counts
none_counted all counts below = record {
  each = refl;
  below = below;
  within = λ r h. h;
  counted = λ r l. rw (and_not_itself (has all r)) (omega arith);
}

pub next_below : {q : ℕ} {all rest rest' : RankSet} {old new : List ℕ} → AreCounted all rest old new → IsTaken q rest rest' → q < length old
next_below {q} {all} {rest} {rest'} {old} h t = taken_below q (length old) rest rest' t h.below

-- a rank that is left has not been counted
pub not_counted : {q : ℕ} {all rest rest' : RankSet} {old new : List ℕ} → AreCounted all rest old new → IsTaken q rest rest' → get_or new q 0 ≡ get_or old q 0
not_counted {q} {all} {rest} h t =
    let more = ap (λ (b : Bool). one_if (has all q && not b)) t.taken ∙ ap one_if (and_not_true (has all q)) in
    omega (arith, h.counted q (next_below h t), more)

pub one_counted : {q : ℕ} {all rest rest' : RankSet} {old new : List ℕ} → AreCounted all rest old new → IsTaken q rest rest'
    → AreCounted all rest' old (slice_set new q (get_or new q 0 + 1))
one_counted {q} {all} {rest} {rest'} {old} {new} h t =
    let at : q < length old = next_below h t in
    record {
      each = length-set new q (get_or new q 0 + 1) ∙ h.each;
      below = left_below q (length old) rest rest' t h.below;
      within = λ r there. h.within r (was_there q r rest rest' t there);
      counted = λ r l. elim (cases_eq r q) [
        | inl is ↦
            let more = ap (λ (b : Bool). one_if (b && not (has rest' q))) (h.within q t.taken) ∙ ap (λ (b : Bool). one_if (true && not b)) (taken_gone q rest rest' t) in
            let now = get_or-set_same new q (get_or new q 0 + 1) 0 (omega (arith, h.each)) in
            subst (λ (i : ℕ). get_or (slice_set new q (get_or new q 0 + 1)) i 0 ≡ get_or old i 0 + (if has all i && not (has rest' i) then 1 else 0)) (sym is)
            (omega (arith, now, more, not_counted h t))
        | inr other ↦
            get_or-set_other new q r (get_or new q 0 + 1) 0 other ∙ (h.counted r l
            ∙ ap (λ (b : Bool). get_or old r 0 + (if has all r && not b then 1 else 0)) (sym (others_stay q r rest rest' t other)))
      ];
    }

-- with nobody left all are counted
pub all_counted : {all rest : RankSet} {old new : List ℕ} → AreCounted all rest old new → ((r : ℕ) → has rest r ≡ false)
    → (r : ℕ) → r < length old → get_or new r 0 ≡ get_or old r 0 + (if has all r then 1 else 0)
all_counted {all} {rest} {old} h none = λ r l. h.counted r l ∙ ap (λ (b : Bool). get_or old r 0 + (if b then 1 else 0)) (and_not (has all r) (has rest r) (none r))
