-- One lane of a port was written.
use Rattle.std.proofs.Common.{◌≡◌, ◌≢◌, ℕ, List, get_or, set, refl, sym, ap, ◌∙◌, subst, ⊎_elim, length, length-set}
use Rattle.std.specs.Prelude.{slice_get, Some}
use Rattle.std.proofs.lemmas.Option.{slice_get_read}
use Rattle.pg_group.specs.LaterLanes.{AllLater, all-same}
use Rattle.pg_group.proofs.Growing.{set_entry}
use Rattle.pg_group.proofs.Counting.{within_range}

module _ {P : Type 0} (Later : P → P → Type 0) (same : (x : P) → Later x x) where
  pub all-set : (ps : List P) (i : ℕ) (p q : P) → p ≡ get_or ps i p → Later p q → AllLater Later ps (set ps i q)
  all-set ps i p q is later = record {
    long = length-set ps i q;
    each = λ place x y at_x at_y.
        ⊎_elim (λ (h : (place ≡ i) × (y ≡ q)).
        let here : slice_get ps i ≡ Some x = ap (slice_get ps) (sym h.0) ∙ at_x in
        let read : slice_get ps i ≡ Some p = slice_get_read ps (length ps) i p refl (within_range ps i x here) is in
        let one : Some p ≡ Some x = sym read ∙ here in
        let e : p ≡ x = cc in
        subst (λ w. Later w y) e (subst (Later p) (sym h.1) later))
        (λ (h : (slice_get ps place ≡ Some y) × (place ≢ i)).
        let one : Some x ≡ Some y = sym at_x ∙ h.0 in
        let e : x ≡ y = cc in
        subst (Later x) e (same x)) (set_entry ps i q place y at_y);
  }
