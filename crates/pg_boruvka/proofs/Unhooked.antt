-- What lists of unhooked labels have.
use Rattle.std.proofs.Common.{◌≡◌, ℕ, zero, suc, ◌<◌, ◌≤◌, List, [], ◌∷◌, ◌++◌, length, get_or, take, drop, refl, sym, ap, ◌∙◌, arith, All}
use Rattle.std.proofs.lemmas.List.{take_all, drop_all, append-nil}
use Rattle.std.specs.Prelude.{slice_index}
use Rattle.pg_boruvka.specs.declared.TheConstants.{NO_KEY}
use Rattle.pg_boruvka.specs.Arcs.{IsOfEdge}
use Rattle.pg_boruvka.specs.Noted.{AreUnhooked, IsEdgeOrNone}

any_default : (xs : List ℕ) (i d e : ℕ) → i < length xs → get_or xs i d ≡ get_or xs i e
any_default [] i d e h = absurd (omega arith)
any_default (x ∷ xs) zero d e h = refl
any_default (x ∷ xs) (suc i) d e h = any_default xs i d e (omega arith)

pub unhooked_targets : (targets edges : List ℕ) (count : ℕ) → AreUnhooked targets edges → length targets ≡ count → All (λ l. l < count) targets
unhooked_targets targets edges count free each i d h = omega (arith, any_default targets i d 0 h, free.still i h)

pub unhooked_edges : (targets edges : List ℕ) (count : ℕ) → AreUnhooked targets edges → All (IsEdgeOrNone count) edges
unhooked_edges targets edges count free i d h some = absurd (some (any_default edges i d 0 h ∙ free.none i h))

-- A list that was written whole.
pub written : (old new : List ℕ) (len : ℕ) → len ≡ length old → length new ≡ length old → take len (new ++ drop (length new) old) ≡ new
written old new len whole same =
    ap (λ (x : List ℕ). take len (new ++ x)) (drop_all (length new) old (omega arith))
    ∙ (ap (take len) (append-nil new) ∙ take_all len new (omega arith))

pub own_within : (labels : List ℕ) (count : ℕ) → length labels ≡ count → ((l : ℕ) → l < length labels → slice_index labels l ≡ l) → All (λ l. l < count) labels
own_within labels count each own i d h = omega (arith, any_default labels i d 0 h, own i h)

pub none_within : (edges : ℕ) (keys : List ℕ) → All (λ key. key ≡ NO_KEY) keys → All (IsOfEdge edges) keys
none_within edges keys none i d h some = absurd (some (none i d h))

pub zeros_within : (labels : List ℕ) (count : ℕ) → 1 ≤ count → All (λ l. l ≡ 0) labels → All (λ l. l < count) labels
zeros_within labels count some none i d h = let zero = none i d h in omega arith
