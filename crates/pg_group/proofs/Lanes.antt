-- What one more envelope, or one more body, does to a lane's lists.
use Rattle.std.proofs.Common.{◌≡◌, ℕ, zero, suc, ◌+◌, ◌%◌, ◌^◌, true, List, [], ◌∷◌, ◌++◌, length, take, refl, sym, ap, ◌∙◌, arith, subst, length-append}
use Rattle.std.specs.Prelude.{slice_get, Some}
use Rattle.pg_group.specs.declared.messages.Body.{Body}
use Rattle.pg_group.specs.declared.messages.Body.TheVariants.{Item, Mark}
use Rattle.pg_group.specs.declared.messages.Envelope.{Envelope}
use Rattle.pg_group.specs.Envelopes.{bodies, IsNumbered}
use Rattle.pg_group.specs.Rounds.{is_mark, marks, ends_with_mark, items_of_round}

module _ {B : Type 0} where
  pub bodies-push : (es : List (Envelope B)) (e : Envelope B) → bodies (es ++ e ∷ []) ≡ bodies es ++ e.body ∷ []
  bodies-push [] e = refl
  bodies-push (x ∷ es) e = ap (λ l. x.body ∷ l) (bodies-push es e)

  pub ends_with_mark-push : (bs : List (Body B)) (b : Body B) → ends_with_mark (bs ++ b ∷ []) ≡ is_mark b
  ends_with_mark-push [] b = refl
  ends_with_mark-push (x ∷ []) b = refl
  ends_with_mark-push (x ∷ y ∷ bs) b = ends_with_mark-push (y ∷ bs) b

  -- the envelopes from the place n on have their numbers
  abbrev NumberedFrom : ℕ → List (Envelope B) → Type 0
  NumberedFrom n es = (k : ℕ) (e : Envelope B) → slice_get es k ≡ Some e → e.number ≡ (n + k) % 2 ^ 64

  numbered_push : (n : ℕ) (es : List (Envelope B)) (e : Envelope B) → NumberedFrom n es → e.number ≡ (n + length es) % 2 ^ 64 → NumberedFrom n (es ++ e ∷ [])
  numbered_push n [] e before last zero x at = let same : e ≡ x = cc in ap (λ (y : Envelope B). y.number) (sym same) ∙ last
  numbered_push n [] e before last (suc k) x at = cc
  numbered_push n (y ∷ es) e before last zero x at = before zero x at
  numbered_push n (y ∷ es) e before last (suc k) x at =
      let shift : (j : ℕ) → n + suc j ≡ suc n + j = λ j. omega arith in
      let rest : NumberedFrom (suc n) es = λ j z at'. before (suc j) z at' ∙ ap (λ m. m % 2 ^ 64) (shift j) in
      numbered_push (suc n) es e rest (last ∙ ap (λ m. m % 2 ^ 64) (shift (length es))) k x at ∙ ap (λ m. m % 2 ^ 64) (sym (shift k))

  pub IsNumbered-push : (es : List (Envelope B)) (e : Envelope B) → IsNumbered es → e.number ≡ length es % 2 ^ 64 → IsNumbered (es ++ e ∷ [])
  IsNumbered-push es e before last k x at =
      let from_zero : (j : ℕ) → j ≡ 0 + j = λ j. omega arith in
      numbered_push 0 es e (λ j z at'. before j z at' ∙ ap (λ m. m % 2 ^ 64) (from_zero j)) (last ∙ ap (λ m. m % 2 ^ 64) (from_zero (length es))) k x at
      ∙ ap (λ m. m % 2 ^ 64) (sym (from_zero k))

  take_entry : (n k : ℕ) (es : List (Envelope B)) (e : Envelope B) → slice_get (take n es) k ≡ Some e → slice_get es k ≡ Some e
  take_entry zero k es e at = cc
  take_entry (suc n) k [] e at = at
  take_entry (suc n) zero (x ∷ es) e at = at
  take_entry (suc n) (suc k) (x ∷ es) e at = take_entry n k es e at

  -- the front of a numbered list is numbered
  pub IsNumbered-take : (n : ℕ) (es fs : List (Envelope B)) → fs ≡ take n es → IsNumbered es → IsNumbered fs
  IsNumbered-take n es fs front numbered k e at = numbered k e (take_entry n k es e (ap (λ l. slice_get l k) (sym front) ∙ at))

  from_marks : (bs : List (Body B)) (x : B) (n : ℕ) → marks bs ≡ n → items_of_round n (bs ++ Item x ∷ []) ≡ items_of_round n bs ++ x ∷ []
  from_marks [] x zero e = refl
  from_marks [] x (suc n) e = cc
  from_marks (Item z ∷ bs) x zero e = ap (λ l. z ∷ l) (from_marks bs x zero e)
  from_marks (Item z ∷ bs) x (suc n) e = from_marks bs x (suc n) e
  from_marks (Mark v ∷ bs) x zero e = cc
  from_marks (Mark v ∷ bs) x (suc n) e = from_marks bs x n (omega arith)

  -- an item after all marks so far is an item of the round that they began
  pub items_of_round-push : (bs : List (Body B)) (x : B) → items_of_round (marks bs) (bs ++ Item x ∷ []) ≡ items_of_round (marks bs) bs ++ x ∷ []
  items_of_round-push bs x = from_marks bs x (marks bs) refl

  -- a lane's list fs after the envelope e
  module _ (es fs : List (Envelope B)) (e : Envelope B) (more : fs ≡ es ++ e ∷ []) where
    pub bodies_after : bodies fs ≡ bodies es ++ e.body ∷ []
    bodies_after = ap bodies more ∙ bodies-push es e

    pub ends_after : is_mark e.body ≡ true → ends_with_mark (bodies fs) ≡ true
    ends_after h = ap ends_with_mark bodies_after ∙ ends_with_mark-push (bodies es) e.body ∙ h

    pub numbered_after : IsNumbered es → e.number ≡ length es % 2 ^ 64 → IsNumbered fs
    numbered_after before last = subst IsNumbered (sym more) (IsNumbered-push es e before last)

    pub next_after : (n : ℕ) → n ≡ length es % 2 ^ 64 → (n + 1) % 2 ^ 64 ≡ length fs % 2 ^ 64
    next_after n h = omega (arith, ap length more, length-append es (e ∷ []))

  -- the same of a list before and a list after, however they are written
  pub round_grows : (bs before after : List (Body B)) (x : B) → before ≡ bs → after ≡ bs ++ Item x ∷ []
      → items_of_round (marks before) after ≡ items_of_round (marks before) before ++ x ∷ []
  round_grows bs before after x e f =
      ap (λ l. items_of_round (marks before) l) (f ∙ ap (λ l. l ++ Item x ∷ []) (sym e)) ∙ items_of_round-push before x
