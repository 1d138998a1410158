-- What a list that was mapped has, and what one element more adds to one that was filtered and mapped.
use Rattle.std.proofs.Common.{◌≡◌, ◌++◌, ◌∙◌, Bool, true, false, cond, List, [], ◌∷◌, get_or, map, filter, sym, ap, subst, arith, AllPairs, Contains}
use Rattle.std.proofs.lemmas.List.{append-nil, length-map, get_or-map, map-append}
use Rattle.std.proofs.lemmas.List.Elements.{filter-append, Contains-get_or}

pub contains_map : {X Y : Type 0} (f : X → Y) (xs : List X) (x : X) → Contains xs x → Contains (map f xs) (f x)
contains_map f xs x among = (among.0, omega (arith, length-map xs f, among.1), get_or-map f xs among.0 x (f x) among.1 ∙ ap f among.2)

pub pairs_map : {X Y : Type 0} (R : Y → Y → Type 0) (f : X → Y) (xs : List X) (x : X) → AllPairs (λ a b. R (f a) (f b)) xs → AllPairs R (map f xs)
pairs_map R f xs x pairs i j d below within =
    let size = length-map xs f in
    let first = get_or-map f xs i x d (omega arith) in
    let second = get_or-map f xs j x d (omega arith) in
    subst (λ b. R (get_or (map f xs) i d) b) (sym second) (subst (λ a. R a (f (get_or xs j x))) (sym first) (pairs i j x below (omega arith)))

-- An element of the list mapped is that of an element.
pub contains_mapped : {X Y : Type 0} (f : X → Y) (xs : List X) (x : X) (y : Y) → Contains (map f xs) y → (z : X) × Contains xs z × (f z ≡ y)
contains_mapped f xs x y among =
    let inside = among.1 in
    let size = length-map xs f in
    let z = get_or xs among.0 x in
    (z, Contains-get_or xs among.0 x (omega arith), sym (get_or-map f xs among.0 x y (omega arith)) ∙ among.2)

kept_more : {X Y : Type 0} (p : X → Bool) (f : X → Y) (xs : List X) (x : X) (b : Bool) → p x ≡ b → map f (filter p (xs ++ x ∷ [])) ≡ map f (filter p xs) ++ map f (cond b (x ∷ []) [])
kept_more {X} p f xs x b is =
    ap (λ (zs : List X). map f zs) (filter-append p xs (x ∷ []) ∙ ap (λ (c : Bool). filter p xs ++ cond c (x ∷ []) []) is) ∙ map-append f (filter p xs) (cond b (x ∷ []) [])

pub mapped_kept : {X Y : Type 0} (p : X → Bool) (f : X → Y) (xs : List X) (x : X) → p x ≡ true → map f (filter p (xs ++ x ∷ [])) ≡ map f (filter p xs) ++ f x ∷ []
mapped_kept p f xs x is = kept_more p f xs x true is

pub mapped_left : {X Y : Type 0} (p : X → Bool) (f : X → Y) (xs : List X) (x : X) → p x ≡ false → map f (filter p (xs ++ x ∷ [])) ≡ map f (filter p xs)
mapped_left p f xs x is = kept_more p f xs x false is ∙ append-nil (map f (filter p xs))
