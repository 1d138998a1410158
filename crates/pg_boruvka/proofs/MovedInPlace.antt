-- A loop over a list that keeps some of its items in the front, each changed.
use Rattle.std.proofs.Common.{◌≡◌, ℕ, ◌+◌, ◌<◌, ◌≤◌, Bool, true, false, cond, List, [], ◌∷◌, ◌++◌, length, get_or, set, take, drop, map, sym, ap, ◌∙◌, arith}
use Rattle.std.specs.Prelude.{filter}
use Rattle.std.proofs.lemmas.List.{append-nil, map-append, length-set, get_or-set_same, take_all, take_more, take-set-le, drop_more, drop-set-lt}
use Rattle.std.proofs.lemmas.List.Elements.{filter_more}

-- ys began as xs. What passes p in the first i of xs stands, changed by f, in the first k places of ys, and from i on ys is as it was.
pub record IsMovedInPlace {X : Type 0} (p : X → Bool) (f : X → X) (xs ys : List X) (k i : ℕ) : Type 0 where
  pub front : take k ys ≡ map f (filter p (take i xs))
  pub rest : drop i ys ≡ drop i xs
  pub behind : k ≤ i
  pub within : i ≤ length xs
  pub long : length ys ≡ length xs

module _ {X : Type 0} {p : X → Bool} {f : X → X} {xs ys : List X} {k i : ℕ} where
  pub moved_all : IsMovedInPlace p f xs ys k i → length xs ≤ i → take k ys ≡ map f (filter p xs)
  moved_all is end = is.front ∙ ap (λ (zs : List X). map f (filter p zs)) (take_all i xs end)

  both : {x : X} → IsMovedInPlace p f xs ys k i → i < length ys → x ≡ get_or ys i x → x ∷ drop (i + 1) ys ≡ get_or xs i x ∷ drop (i + 1) xs
  both {x} is within read =
      ap (λ (y : X). y ∷ drop (i + 1) ys) read ∙ sym (drop_more ys i x within) ∙ is.rest ∙ drop_more xs i x (omega (arith, is.long))

  step : {x : X} {b : Bool} → IsMovedInPlace p f xs ys k i → i < length ys → p x ≡ b → x ≡ get_or ys i x → filter p (take (i + 1) xs) ≡ filter p (take i xs) ++ cond b (x ∷ []) []
  step {x} is within test read =
      let same : get_or xs i x ≡ x = sym (ap (λ (l : List X). get_or l 0 x) (both is within read)) in
      filter_more p xs i x (omega (arith, is.long)) ∙ ap (λ (y : X). filter p (take i xs) ++ cond (p y) (y ∷ []) []) same
      ∙ ap (λ (c : Bool). filter p (take i xs) ++ cond c (x ∷ []) []) test

  pub moved_past : {x : X} → IsMovedInPlace p f xs ys k i → i < length ys → p x ≡ false → x ≡ get_or ys i x → IsMovedInPlace p f xs ys k (i + 1)
  moved_past is within fails read = record {
    front = is.front ∙ sym (ap (map f) (step is within fails read ∙ append-nil (filter p (take i xs))));
    rest = ap (drop 1) (both is within read);
    behind = let low = is.behind in omega arith;
    within = omega (arith, is.long);
    long = is.long;
  }

  pub moved_to_front : {x : X} → IsMovedInPlace p f xs ys k i → i < length ys → p x ≡ true → x ≡ get_or ys i x → IsMovedInPlace p f xs (set ys k (f x)) (k + 1) (i + 1)
  moved_to_front {x} is within passes read =
      let low : k < length ys = let behind = is.behind in omega arith in
      record {
        front = take_more (set ys k (f x)) k (f x) (omega (arith, low, length-set ys k (f x)))
            ∙ (λ j. take-set-le k ys k (f x) (omega arith) j ++ get_or-set_same ys k (f x) (f x) low j ∷ [])
            ∙ ap (λ (zs : List X). zs ++ f x ∷ []) is.front
            ∙ sym (ap (map f) (step is within passes read) ∙ map-append f (filter p (take i xs)) (x ∷ []));
        rest = drop-set-lt (i + 1) ys k (f x) (let behind = is.behind in omega arith) ∙ ap (drop 1) (both is within read);
        behind = let behind = is.behind in omega arith;
        within = omega (arith, is.long);
        long = length-set ys k (f x) ∙ is.long;
      }
