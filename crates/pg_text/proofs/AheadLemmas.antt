-- The lines within a limit, from the front.
use Rattle.std.proofs.Common.{◌≡◌, inl, inr, le-leb, ℕ, suc, ◌+◌, ◌<◌, ◌≤◌, true, false, List, [], ◌∷◌, ◌++◌, length, filter, take, nat_lt, refl, sym, ap, ◌∙◌, arith}
use Rattle.std.proofs.lemmas.Bool.{lt-leb, lt-ltb}
use Rattle.std.proofs.lemmas.Bool.Decides.{leb_tells, nat_tests}
use Rattle.std.proofs.lemmas.List.{take-append-le, length-append}
use Rattle.std.proofs.lemmas.List.Elements.{All-head, All-tail, All-take, filter-append}
use Rattle.std.proofs.Math.Seq.{take-append-add}
use Rattle.pg_text.specs.Text.{lines, is_newline, onto_first}
use Rattle.pg_text.specs.Ahead.{lines_within, ahead_within}
use Rattle.pg_text.specs.Cuts.{HasNoNewline, IsOverlong}
use Rattle.pg_text.specs.Coming.{IsDone, Takes}

lines-not_newline : (b : ℕ) (text : List ℕ) → is_newline b ≡ false → lines (b ∷ text) ≡ onto_first b (lines text)
unfolding lines
lines-not_newline b text plain = rw plain refl

-- The first line of a text is what stands before its first newline.
pub lines-newline : (line rest : List ℕ) → HasNoNewline line → lines (line ++ 10 ∷ rest) ≡ line ∷ lines rest
lines-newline [] rest plain = unfold lines in refl
lines-newline (b ∷ line) rest plain = lines-not_newline b (line ++ 10 ∷ rest) (All-head (λ x. is_newline x ≡ false) b line plain) ∙ ap (onto_first b) (lines-newline line rest (All-tail (λ x. is_newline x ≡ false) b line plain))

-- A text without a newline is its only line.
pub lines-last : (line : List ℕ) → HasNoNewline line → 0 < length line → lines line ≡ line ∷ []
lines-last [] plain some = absurd (omega arith)
lines-last (b ∷ []) plain some = lines-not_newline b [] (All-head (λ x. is_newline x ≡ false) b [] plain) ∙ (unfold lines in refl)
lines-last (b ∷ c ∷ line) plain some = lines-not_newline b (c ∷ line) (All-head (λ x. is_newline x ≡ false) b (c ∷ line) plain) ∙ ap (onto_first b) (lines-last (c ∷ line) (All-tail (λ x. is_newline x ≡ false) b (c ∷ line) plain) (omega arith))

pub lines-none : lines [] ≡ []
unfolding lines
lines-none = refl

newlines-none : (line : List ℕ) → HasNoNewline line → filter is_newline line ≡ []
newlines-none [] plain = refl
newlines-none (b ∷ line) plain = rw (All-head (λ x. is_newline x ≡ false) b line plain) (newlines-none line (All-tail (λ x. is_newline x ≡ false) b line plain))

-- A text that keeps within the limit.
pub lines_within-all : (limit : ℕ) (text : List ℕ) → length text ≤ limit → lines_within limit text ≡ lines text
unfolding lines_within
lines_within-all limit text fits = rw (le-leb (length text) limit fits) refl

-- A longer text.
lines_within-more : (limit : ℕ) (text : List ℕ) → limit < length text → lines_within limit text ≡ take (length (filter is_newline (take limit text))) (lines text)
unfolding lines_within
lines_within-more limit text long = rw (lt-leb (length text) limit long) refl

size : (line rest : List ℕ) (b : ℕ) → length (line ++ b ∷ rest) ≡ length line + (length rest + 1)
size line rest b = length-append line (b ∷ rest) ∙ (omega arith)

-- The newlines of a text's front that reaches past its first line.
newlines-past : (line rest : List ℕ) (left : ℕ) → HasNoNewline line → length (filter is_newline (take (length line + suc left) (line ++ 10 ∷ rest))) ≡ suc (length (filter is_newline (take left rest)))
newlines-past line rest left plain =
    ap (λ front. length (filter is_newline front)) (take-append-add line (10 ∷ rest) (suc left))
    ∙ ap length (filter-append is_newline line (10 ∷ take left rest))
    ∙ ap (λ none. length (none ++ 10 ∷ filter is_newline (take left rest))) (newlines-none line plain)

-- The first line is within the limit with its newline.
pub lines_within-line : (line rest : List ℕ) (left : ℕ) → HasNoNewline line → lines_within (length line + suc left) (line ++ 10 ∷ rest) ≡ line ∷ lines_within left rest
lines_within-line line rest left plain =
    let first = lines-newline line rest plain in
    let long = size line rest 10 in
    elim (leb_tells (length rest) left) [
      | inl fits ↦ lines_within-all _ _ (omega (arith, long)) ∙ first ∙ ap (λ ls. line ∷ ls) (sym (lines_within-all left rest fits.1))
      | inr past ↦ lines_within-more _ _ (omega (arith, long)) ∙ ap (λ n. take n (lines (line ++ 10 ∷ rest))) (newlines-past line rest left plain) ∙ ap (take (suc (length (filter is_newline (take left rest))))) first ∙ ap (λ ls. line ∷ ls) (sym (lines_within-more left rest past.1))
    ]

-- The first line, with its newline where it has one, is not within the limit.
pub lines_within-none : (line rest : List ℕ) (limit : ℕ) → HasNoNewline line → limit ≤ length line → limit < length (line ++ rest) → lines_within limit (line ++ rest) ≡ []
lines_within-none line rest limit plain past long =
    let front = take-append-le limit line rest past in
    let none = newlines-none (take limit line) (All-take (λ b. is_newline b ≡ false) limit line plain) in
    lines_within-more limit (line ++ rest) long ∙ ap (λ bytes. take (length (filter is_newline bytes)) (lines (line ++ rest))) front ∙ ap (λ found. take (length found) (lines (line ++ rest))) none

-- Where the first line, with its newline where it has one, is longer than the room, no line is within it.
pub ahead-overlong : (room : ℕ) (text : List ℕ) → IsOverlong room text → ((ahead_within room text).lines ≡ []) × ((ahead_within room text).overlong ≡ true)
ahead-overlong room text over =
    let long : room < length (over.part ++ over.rest) = omega (arith, ap length over.whole, over.past) in
    (ap (lines_within room) over.whole ∙ lines_within-none over.part over.rest room over.plain over.long long, lt-ltb room (length text) over.past)

same-test : (a b c d : ℕ) → (a < b → c < d) → (c < d → a < b) → nat_lt a b ≡ nat_lt c d
same-test a b c d there back = grind (arith, nat_tests)

-- The first line and its newline are within the room, and the rest of the text in what is left of it.
pub ahead-line : (line rest text : List ℕ) (left room : ℕ) → HasNoNewline line → text ≡ line ++ 10 ∷ rest → left + (length line + 1) ≡ room → Takes true line (ahead_within room text) (ahead_within left rest)
ahead-line line rest text left room plain whole is =
    let all : length line + suc left ≡ room = omega arith in
    let long : length text ≡ length line + (length rest + 1) = ap length whole ∙ size line rest 10 in
    (ap (lines_within room) whole ∙ ap (λ r. lines_within r (line ++ 10 ∷ rest)) (sym all) ∙ lines_within-line line rest left plain, same-test room (length text) left (length rest) (λ h. omega arith) (λ h. omega arith))

-- A last line without a newline is within the room.
pub ahead-last : (line : List ℕ) (left room : ℕ) → HasNoNewline line → 0 < length line → left + length line ≡ room → Takes true line (ahead_within room line) (ahead_within left [])
ahead-last line left room plain some is =
    let fits : length line ≤ room = omega arith in
    let none = lines_within-all left [] (omega arith) ∙ lines-none in
    (lines_within-all room line fits ∙ lines-last line plain some ∙ ap (λ ls. line ∷ ls) (sym none), same-test room (length line) left 0 (λ h. omega arith) (λ h. omega arith))

-- Where no byte is left no line is.
pub ahead-none : (room : ℕ) → IsDone (ahead_within room [])
ahead-none room = (lines_within-all room [] (omega arith) ∙ lines-none, same-test room 0 1 0 (λ h. omega arith) (λ h. omega arith))
