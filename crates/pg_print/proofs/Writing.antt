-- Texts that grow line by line.
use Rattle.std.proofs.Common.{◌≡◌, ℕ, ◌+◌, ◌<◌, ◌≤◌, ◌⊎◌, inl, inr, List, [], ◌∷◌, ◌++◌, suc, length, map, take, drop, get_or, sym, ◌∙◌, ap, append_assoc, arith, rules, append-nil, subst, Option, Some, None, Result, Ok, Err, OnErr}
use Rattle.std.specs.Io.KnownBytes.{Appends}
use Rattle.std.proofs.Math.Seq.{take-append-add, take-append_seam, take-length, drop-cons}
use Rattle.std.proofs.lemmas.List.{take-append-le, take_all, take-append-drop, take_more}
use Rattle.std.proofs.lemmas.Grind.{flat_map-append}
use Rattle.std.proofs.lemmas.Bool.{cases_lt}
use Rattle.std.proofs.lemmas.Option.{get_or_from_slice_get, slice_get-get_or, slice_get-map, slice_get_within}
use Rattle.std.specs.List.{flat_map, slice_get}
use Rattle.std.specs.Option.{option_map}
use Rattle.pg_outside.specs.Written.{AppendsFront}
use Rattle.pg_outside.specs.declared.Failed.{Failed}

pub Appends-more : (a b c : Option (List ℕ)) (xs ys : List ℕ) → Appends a b xs → Appends b c ys → Appends a c (xs ++ ys)
Appends-more None b c xs ys p q = search rules
Appends-more (Some before) None c xs ys p q = absurd p
Appends-more (Some before) (Some between) None xs ys p q = absurd q
Appends-more (Some before) (Some between) (Some after) xs ys p q = q ∙ ap (λ x. x ++ ys) p ∙ append_assoc before xs ys

-- A front of a text is one of any longer text.
front-longer : (n : ℕ) (ys zs : List ℕ) → (n < length ys) ⊎ (length ys ≤ n) → (m : ℕ) × (take m (ys ++ zs) ≡ take n ys)
front-longer n ys zs (inl lt) = (n, take-append-le n ys zs (omega arith))
front-longer n ys zs (inr le) = (length ys, take-append_seam ys zs ∙ sym (take_all n ys le))

-- A front of what comes after a text is a front of both.
pub AppendsFront-more : (a b c : Option (List ℕ)) (xs ys zs : List ℕ) → Appends a b xs → AppendsFront b c ys → AppendsFront a c (xs ++ (ys ++ zs))
AppendsFront-more a b c xs ys zs p (n, q) =
    let longer = front-longer n ys zs (cases_lt n (length ys)) in
    (length xs + longer.0, rw (take-append-add xs (ys ++ zs) longer.0, longer.1) (Appends-more a b c xs (take n ys) p q))

-- Texts of a list's items, one after another, cut at one item.
pub flat_map-cut : {X : Type 0} (f : X → List ℕ) (xs : List X) (i : ℕ) (x : X) → slice_get xs i ≡ Some x → flat_map f xs ≡ flat_map f (take i xs) ++ (f x ++ flat_map f (drop (suc i) xs))
flat_map-cut f xs i x at =
    let within = slice_get_within xs i x at in
    let is = get_or_from_slice_get xs i x x at in
    ap (flat_map f) (sym (take-append-drop i xs)) ∙ flat_map-append f (take i xs) (drop i xs) ∙ ap (λ rest. flat_map f (take i xs) ++ flat_map f rest) (drop-cons xs i x within) ∙ ap (λ here. flat_map f (take i xs) ++ (f here ++ flat_map f (drop (suc i) xs))) is

pub take-one_more : {X : Type 0} (xs : List X) (i : ℕ) (x : X) → slice_get xs i ≡ Some x → take (i + 1) xs ≡ take i xs ++ x ∷ []
take-one_more xs i x at = take_more xs i x (slice_get_within xs i x at) ∙ ap (λ last. take i xs ++ last ∷ []) (get_or_from_slice_get xs i x x at)

pub flat_map-more : {X : Type 0} (f : X → List ℕ) (xs : List X) (i : ℕ) (x : X) → slice_get xs i ≡ Some x → flat_map f (take (i + 1) xs) ≡ flat_map f (take i xs) ++ f x
flat_map-more f xs i x at = ap (flat_map f) (take-one_more xs i x at) ∙ flat_map-append f (take i xs) (x ∷ []) ∙ ap (λ last. flat_map f (take i xs) ++ last) (append-nil (f x))

pub AppendsFront-all : (a b : Option (List ℕ)) (xs : List ℕ) → Appends a b xs → AppendsFront a b xs
AppendsFront-all a b xs p = (length xs, rw (take-length xs) p)

-- A front of a text is a front of any text that goes on after it.
pub AppendsFront-longer : (a b : Option (List ℕ)) (xs ys : List ℕ) → AppendsFront a b xs → AppendsFront a b (xs ++ ys)
AppendsFront-longer a b xs ys (n, p) =
    let longer = front-longer n xs ys (cases_lt n (length xs)) in
    (longer.0, rw longer.1 p)

-- Where a text was written and then a front of another, a front of both was written.
pub front_of_both : (r : Result (Unit {0}) Failed) (a b c : Option (List ℕ)) (xs ys : List ℕ) → Appends a b xs → OnErr r (AppendsFront b c ys) → OnErr r (AppendsFront a c (xs ++ ys))
front_of_both (Ok x) a b c xs ys p q = q
front_of_both (Err e) a b c xs ys p q = subst (λ zs. AppendsFront a c (xs ++ zs)) (append-nil ys) (AppendsFront-more a b c xs ys [] p q)

-- What stands in a list's image, where the list is read.
pub entry_of_map : {X Y : Type 0} (f : X → Y) (xs : List X) (i : ℕ) (d : X) → i < length xs → slice_get (map f xs) i ≡ Some (f (get_or xs i d))
entry_of_map f xs i d within = slice_get-map f xs i ∙ ap (option_map f) (slice_get-get_or xs i d within)
