-- Pieces of lines that were looked at side by side: together they are all lines.
use Rattle.std.proofs.Common.{◌≡◌, ℕ, zero, suc, ◌+◌, ◌*◌, ◌/◌, ◌%◌, ◌<◌, ◌≤◌, min, Result, Ok, Err, IfOk, Vec, vec_len, Global, List, [], ◌∷◌, length, map, take, drop, get_or, refl, sym, ap, ◌∙◌, subst, arith}
use Rattle.std.specs.Fork.{slice_chunk}
use Rattle.std.proofs.lemmas.List.{drop-drop, length-drop, length-map, length-take-le, map-append, take-append-drop}
use Rattle.std.proofs.lemmas.Nat.{div-add-mod', mod_below}
use Rattle.std.proofs.Math.Nat.{suc-mul}
use Rattle.pg_metis.specs.declared.gathering.LineAt.{LineAt}
use Rattle.pg_metis.specs.declared.pairing.NamedArc.{NamedArc}
use Rattle.pg_metis.specs.declared.parsing.PieceFault.{PieceFault}
use Rattle.pg_metis.specs.Batches.{line_of}
use Rattle.pg_metis.specs.File.{Header}
use Rattle.pg_metis.specs.Parsing.{AreParsed, IsParsed}

ceiled : (n size parts left chunks : ℕ) → parts * size + left ≡ n → left < size → chunks ≡ parts + min 1 left → (n ≤ chunks * size) × (chunks * size < n + size)
ceiled n size parts zero chunks whole below count = rw (count) (omega (arith, whole, below), omega (arith, whole, below))
ceiled n size parts (suc left) chunks whole below count =
    let next : chunks ≡ suc parts = grind (arith, count) in
    let more : chunks * size ≡ parts * size + size = ap (λ n. n * size) next ∙ suc-mul parts size in
    (omega (arith, whole, below, more), omega (arith, whole, below, more))

-- The chunks of n elements are as many as hold them all, and no more.
ceiling : (n size chunks : ℕ) → 0 < size → chunks ≡ n / size + min 1 (n % size) → (n ≤ chunks * size) × (chunks * size < n + size)
ceiling n size chunks some count =
    let whole = div-add-mod' n size in
    let below = mod_below n size some in
    ceiled n size (n / size) (n % size) chunks whole below count

module _ (header : Header) (bytes : List ℕ) (size : ℕ) (some : 0 < size) where
  others-at : (rs : List (Result (Vec NamedArc Global) PieceFault)) (v : ℕ) (xs : List LineAt) → suc (length rs) * size < length xs + size
      → AreParsed header rs (v + size) (map (line_of bytes) (drop size xs)) → AreParsed header rs (v + length (map (line_of bytes) (take size xs))) (map (line_of bytes) (drop size xs))
  others-at [] v xs large parsed = parsed
  others-at (r ∷ rs) v xs large parsed =
      let full : length (map (line_of bytes) (take size xs)) ≡ size = length-map (take size xs) (line_of bytes) ∙ length-take-le size xs (omega (arith, suc-mul (suc (length rs)) size, suc-mul (length rs) size)) in
      subst (λ k. AreParsed header (r ∷ rs) (v + k) (map (line_of bytes) (drop size xs))) (sym full) parsed

  first-at : (v : ℕ) (xs : List LineAt) (r : Result (Vec NamedArc Global) PieceFault) → IsParsed header (v + 0 * size) (map (line_of bytes) (slice_chunk xs size 0)) r → IsParsed header v (map (line_of bytes) (take size xs)) r
  first-at v xs r parsed =
      let none : 0 * size ≡ 0 = omega arith in
      let chunk : slice_chunk xs size 0 ≡ take size xs = ap (λ n. take size (drop n xs)) none in
      let here : v + 0 * size ≡ v = omega arith in
      subst (λ (ls : List LineAt). IsParsed header v (map (line_of bytes) ls) r) chunk (subst (λ (n : ℕ). IsParsed header n (map (line_of bytes) (slice_chunk xs size 0)) r) here parsed)

  later-at : (v k : ℕ) (xs : List LineAt) (r : Result (Vec NamedArc Global) PieceFault) → IsParsed header (v + suc k * size) (map (line_of bytes) (slice_chunk xs size (suc k))) r
      → IsParsed header (v + size + k * size) (map (line_of bytes) (slice_chunk (drop size xs) size k)) r
  later-at v k xs r parsed =
      let steps : suc k * size ≡ size + k * size = omega (arith, suc-mul k size) in
      let chunk : slice_chunk xs size (suc k) ≡ slice_chunk (drop size xs) size k = ap (λ n. take size (drop n xs)) steps ∙ ap (take size) (sym (drop-drop (k * size) size xs)) in
      let here : v + suc k * size ≡ v + size + k * size = omega (arith, steps) in
      subst (λ (ls : List LineAt). IsParsed header (v + size + k * size) (map (line_of bytes) ls) r) chunk (subst (λ (n : ℕ). IsParsed header n (map (line_of bytes) (slice_chunk xs size (suc k))) r) here parsed)

  all-parsed : (rs : List (Result (Vec NamedArc Global) PieceFault)) (v : ℕ) (xs : List LineAt) → length xs ≤ length rs * size → length rs * size < length xs + size
      → ((k : ℕ) (d : Result (Vec NamedArc Global) PieceFault) → k < length rs → IsParsed header (v + k * size) (map (line_of bytes) (slice_chunk xs size k)) (get_or rs k d))
      → AreParsed header rs v (map (line_of bytes) xs)
  all-parsed [] v [] small large each = refl
  all-parsed [] v (x ∷ xs) small large each = absurd (omega arith)
  all-parsed (r ∷ rs) v xs small large each = record {
    first = map (line_of bytes) (take size xs);
    rest = map (line_of bytes) (drop size xs);
    split = ap (map (line_of bytes)) (sym (take-append-drop size xs)) ∙ map-append (line_of bytes) (take size xs) (drop size xs);
    found = first-at v xs r (each 0 r (omega arith));
    others = others-at rs v xs large (all-parsed rs (v + size) (drop size xs)
        (omega (arith, suc-mul (length rs) size, length-drop size xs, small))
        (omega (arith, suc-mul (length rs) size, length-drop size xs, large, some))
        (λ k d below. later-at v k xs (get_or rs k d) (each (suc k) d (omega (arith, below)))));
  }

both-found : {T E : Type 0} (r : Result T E) (P Q R : T → Type 0) → ((x : T) → P x → Q x → R x) → IfOk r P → IfOk r Q → IfOk r R
both-found (Ok x) P Q R f p q = f x p q
both-found (Err e) P Q R f p q = tt

-- What is found in each chunk of the lines is found in all of them.
pub pieces-found : {E : Type 0} (header : Header) (bytes : List ℕ) (size v : ℕ) (xs : List LineAt) (result : Result (Vec (Result (Vec NamedArc Global) PieceFault) Global) E) → 0 < size
    → IfOk result (λ found. vec_len found ≡ length xs / size + min 1 (length xs % size))
    → IfOk result (λ found. (k : ℕ) (d : Result (Vec NamedArc Global) PieceFault) → k < length found.items → IsParsed header (v + k * size) (map (line_of bytes) (slice_chunk xs size k)) (get_or found.items k d))
    → IfOk result (λ found. AreParsed header found.items v (map (line_of bytes) xs))
pieces-found header bytes size v xs result some count each =
    both-found result _ _ _ (λ found count each.
    let bounds = ceiling (length xs) size (length found.items) some (sym found.ok.0 ∙ count) in
    all-parsed header bytes size some found.items v xs bounds.0 bounds.1 each) count each
