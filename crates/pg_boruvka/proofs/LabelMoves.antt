-- Labels that are moved in place, one after another.
use Rattle.std.proofs.Common.{◌≡◌, ℕ, ◌+◌, ◌-◌, ◌<◌, ◌≤◌, List, ◌++◌, length, All, get_or, map, take, drop, sym, ap, ◌∙◌, subst, arith}
use Rattle.std.specs.Prelude.{slice_index, slice_set}
use Rattle.std.proofs.lemmas.List.{length-map, length-take-le, length-append, length-drop, get_or-append_right, get_or-drop, get_or_default, take_all, drop_all, append-nil}
use Rattle.std.proofs.lemmas.List.Edits.{map_over_more}
use Rattle.std.proofs.lemmas.List.Elements.{All-map}

-- The labels before the place are moved, and those from it on are not.
abbrev pub AreMovedTo : (ℕ → ℕ) → List ℕ → List ℕ → ℕ → Type 0
AreMovedTo f old now i = now ≡ map f (take i old) ++ drop i old

front : (f : ℕ → ℕ) (old : List ℕ) (i : ℕ) → i ≤ length old → length (map f (take i old)) ≡ i
front f old i h = length-map (take i old) f ∙ length-take-le i old h

pub same_length : (f : ℕ → ℕ) (old now : List ℕ) (i : ℕ) → i ≤ length old → AreMovedTo f old now i → length now ≡ length old
same_length f old now i h is =
    ap length is ∙ length-append (map f (take i old)) (drop i old) ∙ (let a = front f old i h in let b = length-drop i old in omega arith)

pub not_yet : (f : ℕ → ℕ) (old now : List ℕ) (i : ℕ) → i < length old → AreMovedTo f old now i → slice_index now i ≡ slice_index old i
not_yet f old now i h is =
    let none : i + (i - i) ≡ i = omega arith in
    let long : i ≤ length old = omega arith in
    ap (λ (xs : List ℕ). slice_index xs i) is ∙ get_or-append_right (map f (take i old)) (drop i old) i i 0 (front f old i long) (omega arith)
    ∙ get_or-drop i old (i - i) 0 ∙ ap (slice_index old) none

pub moved_more : (f : ℕ → ℕ) (old now : List ℕ) (i : ℕ) → i < length old → AreMovedTo f old now i → AreMovedTo f old (slice_set now i (f (slice_index now i))) (i + 1)
moved_more f old now i h is =
    let long : i ≤ length old = omega arith in
    let same = same_length f old now i long is in
    map_over_more f old now i (slice_index now i) h is (get_or_default now i 0 (slice_index now i) (omega arith))

pub moved_all : (f : ℕ → ℕ) (old now : List ℕ) (i : ℕ) → length old ≤ i → AreMovedTo f old now i → now ≡ map f old
moved_all f old now i end is = is ∙ ap (λ (xs : List ℕ). map f xs ++ drop i old) (take_all i old end) ∙ ap (λ (xs : List ℕ). map f old ++ xs) (drop_all i old end) ∙ append-nil (map f old)

-- Where each pointer is below a count, so is each label that was moved along one.
pub moved_within : (pointers old now : List ℕ) (count : ℕ) → All (λ l. l < length pointers) old → now ≡ map (slice_index pointers) old → All (λ l. l < count) pointers → All (λ l. l < count) now
moved_within pointers old now count inside moved below =
    subst (All (λ l. l < count)) (sym moved) (All-map (λ l. l < count) (slice_index pointers) old (λ k d h. below (get_or old k d) 0 (inside k d h)))
