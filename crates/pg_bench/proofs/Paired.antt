-- A fact of each entry of a list and the entry of another list in its place, as both grow.
use Rattle.std.proofs.Common.{◌≡◌, ℕ, zero, suc, List, [], ◌∷◌, ◌++◌, length, refl, sym, subst, arith}
use Rattle.std.specs.Prelude.{slice_get, Some}
use Rattle.pg_bench.specs.Pairs.{EachPair}

-- each entry of two lists as long has one beside it
pub beside : {X Y : Type 0} (xs : List X) (ys : List Y) → length ys ≡ length xs → (k : ℕ) (y : Y) → slice_get ys k ≡ Some y → (x : X) × (slice_get xs k ≡ Some x)
beside [] [] long k y at = absurd (cc)
beside [] (z ∷ ys) long k y at = absurd (omega arith)
beside (x ∷ xs) [] long k y at = absurd (omega arith)
beside (x ∷ xs) (z ∷ ys) long zero y at = (x, refl)
beside (x ∷ xs) (z ∷ ys) long (suc k) y at = beside xs ys (omega arith) k y at

pub pair_push : {X Y : Type 0} (Q : X → Y → Type 0) (xs : List X) (ys : List Y) (x : X) (y : Y) → length ys ≡ length xs → EachPair Q xs ys → Q x y → EachPair Q (xs ++ x ∷ []) (ys ++ y ∷ [])
pair_push Q [] [] x y long all here zero a b at_a at_b =
    let first : x ≡ a = cc in
    let second : y ≡ b = cc in
    subst (λ c. Q a c) second (subst (λ c. Q c y) first here)
pair_push Q [] [] x y long all here (suc k) a b at_a at_b = absurd (cc)
pair_push Q [] (d ∷ ys) x y long all here k a b at_a at_b = absurd (omega arith)
pair_push Q (c ∷ xs) [] x y long all here k a b at_a at_b = absurd (omega arith)
pair_push Q (c ∷ xs) (d ∷ ys) x y long all here zero a b at_a at_b = all zero a b at_a at_b
pair_push Q (c ∷ xs) (d ∷ ys) x y long all here (suc k) a b at_a at_b = pair_push Q xs ys x y (omega arith) (λ j e f. all (suc j) e f) here k a b at_a at_b

pub pair_pushed : {X Y : Type 0} (Q : X → Y → Type 0) (xs : List X) (ys zs : List Y) (x : X) (y : Y) → length ys ≡ length xs → zs ≡ ys ++ y ∷ [] → EachPair Q xs ys → Q x y → EachPair Q (xs ++ x ∷ []) zs
pair_pushed Q xs ys zs x y long grown all here = subst (λ l. EachPair Q (xs ++ x ∷ []) l) (sym grown) (pair_push Q xs ys x y long all here)
