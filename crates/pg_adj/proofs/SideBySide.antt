-- What a loop over two vectors side by side is at.
use Rattle.std.proofs.Common.{◌≡◌, ℕ, ◌+◌, ◌<◌, List, [], ◌∷◌, ◌++◌, length, get_or, map, sym, ap, ◌∙◌, ◌⊎◌, inl, inr, Some, None, append_assoc, arith, length-append}
use Rattle.std.specs.declared.iter.Zip.{Zip}
use Rattle.std.specs.declared.vec.IntoIter.{IntoIter}
use Rattle.std.specs.Vec.Iter.{into_iter_items, into_iter_len, into_iter_steps}
use Rattle.std.proofs.lemmas.List.{length-map, map_push, append-nil, get_or_at}

-- An element that stands at this place of a list.
pub record StandsAt {X : Type 0} (xs : List X) (n : ℕ) (x : X) : Type 0 where
  pub below : n < length xs
  pub at : get_or xs n x ≡ x

-- These pairs were yielded of two lists, and this is left of them.
pub record AreYielded {X Y Z W : Type 0} (xs : List X) (ys : List Y) (yielded : List (X × Y)) (left : Zip (IntoIter X Z) (IntoIter Y W)) : Type 0 where
  pub first : map (λ p. p.0) yielded ++ into_iter_items left.a ≡ xs
  pub second : map (λ p. p.1) yielded ++ into_iter_items left.b ≡ ys
  pub first_len : into_iter_len left.a ≡ length (into_iter_items left.a)
  pub second_len : into_iter_len left.b ≡ length (into_iter_items left.b)

stands_at : {X P : Type 0} (xs : List X) (f : P → X) (ps : List P) (rest more : List X) (x : X) → map f ps ++ rest ≡ xs → rest ≡ x ∷ more → StandsAt xs (length ps) x
stands_at {X} xs f ps rest more x whole step =
    let parts : map f ps ++ x ∷ more ≡ xs = ap (λ (zs : List X). map f ps ++ zs) (sym step) ∙ whole in
    record {
      below = omega (arith, ap length parts, length-append (map f ps) (x ∷ more), length-map ps f);
      at = ap (λ (zs : List X). get_or zs (length ps) x) (sym parts) ∙ get_or_at (map f ps) x more x (length ps) (length-map ps f);
    }

whole_more : {X P : Type 0} (xs : List X) (f : P → X) (ps : List P) (rest more : List X) (p : P) → map f ps ++ rest ≡ xs → rest ≡ f p ∷ more → map f (ps ++ p ∷ []) ++ more ≡ xs
whole_more {X} xs f ps rest more p whole step =
    ap (λ (zs : List X). zs ++ more) (map_push f ps p) ∙ (append_assoc (map f ps) (f p ∷ []) more ∙ (ap (λ (zs : List X). map f ps ++ zs) (sym step) ∙ whole))

len_less : {X : Type 0} (rest more : List X) (x : X) (n m : ℕ) → n ≡ length rest → rest ≡ x ∷ more → m + 1 ≡ n → m ≡ length more
len_less rest more x n m was step gone = omega (arith, ap length step)

size_is : {X P : Type 0} (xs : List X) (f : P → X) (ps : List P) (rest : List X) → map f ps ++ rest ≡ xs → length xs ≡ length ps + length rest
size_is xs f ps rest whole = omega (arith, ap length whole, length-append (map f ps) rest, length-map ps f)

none_left : {X : Type 0} (xs front rest : List X) → front ++ rest ≡ xs → 0 ≡ length rest → front ≡ xs
none_left xs front [] whole none = sym (append-nil front) ∙ whole
none_left xs front (x ∷ rest) whole none = absurd (omega arith)

module _ {X Y Z W : Type 0} (xs : List X) (ys : List Y) (yielded : List (X × Y)) (left : Zip (IntoIter X Z) (IntoIter Y W)) (h : AreYielded xs ys yielded left) where
  abbrev pub Steps : X → Y → Zip (IntoIter X Z) (IntoIter Y W) → Type 0
  Steps x y after = into_iter_steps left.a (Some x) after.a × into_iter_steps left.b (Some y) after.b

  pub next_pair : (x : X) (y : Y) (after : Zip (IntoIter X Z) (IntoIter Y W)) → Steps x y after → StandsAt xs (length yielded) x × StandsAt ys (length yielded) y
  next_pair x y after steps = (
    stands_at xs (λ (p : X × Y). p.0) yielded (into_iter_items left.a) (into_iter_items after.a) x h.first steps.0.0,
    stands_at ys (λ (p : X × Y). p.1) yielded (into_iter_items left.b) (into_iter_items after.b) y h.second steps.1.0,
  )

  pub yielded_more : (x : X) (y : Y) (after : Zip (IntoIter X Z) (IntoIter Y W)) → Steps x y after → AreYielded xs ys (yielded ++ (x, y) ∷ []) after
  yielded_more x y after steps = record {
    first = whole_more xs (λ (p : X × Y). p.0) yielded (into_iter_items left.a) (into_iter_items after.a) (x, y) h.first steps.0.0;
    second = whole_more ys (λ (p : X × Y). p.1) yielded (into_iter_items left.b) (into_iter_items after.b) (x, y) h.second steps.1.0;
    first_len = len_less (into_iter_items left.a) (into_iter_items after.a) x (into_iter_len left.a) (into_iter_len after.a) h.first_len steps.0.0 steps.0.1;
    second_len = len_less (into_iter_items left.b) (into_iter_items after.b) y (into_iter_len left.b) (into_iter_len after.b) h.second_len steps.1.0 steps.1.1;
  }

  -- where one of two lists of a length ends, all were yielded
  pub yielded_all : length xs ≡ length ys → ((u : IntoIter X Z) × into_iter_steps left.a None u) ⊎ ((u : IntoIter Y W) × into_iter_steps left.b None u)
      → (length yielded ≡ length xs) × (map (λ p. p.0) yielded ≡ xs)
  yielded_all same ended =
      let sizes = size_is xs (λ (p : X × Y). p.0) yielded (into_iter_items left.a) h.first in
      let others = size_is ys (λ (p : X × Y). p.1) yielded (into_iter_items left.b) h.second in
      let none : 0 ≡ length (into_iter_items left.a) = elim ended [
        | inl last ↦ omega (arith, last.1.0, h.first_len)
        | inr last ↦ omega (arith, last.1.0, h.second_len, same)
      ] in (
        omega arith,
        none_left xs (map (λ (p : X × Y). p.0) yielded) (into_iter_items left.a) h.first none,
      )
