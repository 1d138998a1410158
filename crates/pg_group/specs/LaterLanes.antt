-- What the lanes of a port may be after calls on the port.
use Rattle.std.specs.Prelude.{◌≡◌, ℕ, zero, suc, List, [], ◌∷◌, length, slice_get, Some, refl}
use Rattle.std.proofs.Common.{sym, ap, ◌∙◌, subst, arith}

module _ {P : Type 0} (Later : P → P → Type 0) where
  -- each lane has become the one that stands in its place
  pub record AllLater (earlier now : List P) : Type 0 where
    pub long : length now ≡ length earlier
    pub each : (place : ℕ) (x y : P) → slice_get earlier place ≡ Some x → slice_get now place ≡ Some y → Later x y

  found : (xs ys : List P) (place : ℕ) (x : P) → length ys ≡ length xs → slice_get xs place ≡ Some x → (y : P) × (slice_get ys place ≡ Some y)
  found [] ys place x long at = absurd (cc at)
  found (x ∷ xs) [] place w long at = absurd (omega arith)
  found (x ∷ xs) (y ∷ ys) zero w long at = (y, refl)
  found (x ∷ xs) (y ∷ ys) (suc place) w long at = found xs ys place w (omega arith) at

  pub all-same : ((x : P) → Later x x) → (xs : List P) → AllLater xs xs
  all-same same xs = record {
    long = refl;
    each = λ place x y at_x at_y. let one : Some x ≡ Some y = sym at_x ∙ at_y in let e : x ≡ y = cc in subst (Later x) e (same x);
  }

  pub all-on : ((x y z : P) → Later x y → Later y z → Later x z) → (xs ys zs : List P) → AllLater xs ys → AllLater ys zs → AllLater xs zs
  all-on on xs ys zs a b = record {
    long = b.long ∙ a.long;
    each = λ place x z at_x at_z.
        let y = found xs ys place x a.long at_x in
        on x y.0 z (a.each place x y.0 at_x y.1) (b.each place y.0 z y.1 at_z);
  }
