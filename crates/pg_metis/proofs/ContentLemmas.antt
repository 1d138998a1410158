-- The content of a text that keeps within the limit, and what a body without a fault has.
use Rattle.std.proofs.Common.{◌≡◌, ℕ, zero, suc, ◌+◌, ◌-◌, ◌<◌, ◌≤◌, Bool, true, false, cond, not, leb, ltb, Some, None, List, [], ◌∷◌, length, map, filter, take, drop, get_or, refl, sym, ◌∙◌, ap, subst, arith, All}
use Rattle.std.proofs.lemmas.Bool.{cond-false, le-leb, le-ltb, lt-leb, ltb-false}
use Rattle.std.proofs.lemmas.List.{get_or-drop, length-drop}
use Rattle.pg_text.specs.Text.{is_comment, lines, words}
use Rattle.pg_text.specs.Ahead.{lines_within}
use Rattle.pg_metis.specs.declared.TheConstants.{MAX_FILE_BYTES}
use Rattle.pg_metis.specs.declared.faults.Kind.TheVariants.{MissingLines, TooLong}
use Rattle.pg_metis.specs.Content.{Content, NumberedLine, content_of, numbered}
use Rattle.pg_metis.specs.File.{Header, content_lines}
use Rattle.pg_metis.specs.Fault.{at_line, body_fault, extra_fault, line_fault, lines_fault, vertex_fault}
use Rattle.pg_metis.proofs.HeaderFaults.{none_parts}
use Rattle.pg_metis.proofs.FaultLemmas.{no_line_fault}

abbrev pub bytes_of : List NumberedLine → List (List ℕ)
bytes_of rows = map (λ line. line.bytes) rows

-- Numbers make no difference to which lines are comments.
bytes_kept : (first : ℕ) (ls : List (List ℕ)) → bytes_of (filter (λ line. not (is_comment line.bytes)) (numbered first ls)) ≡ filter (λ line. not (is_comment line)) ls
bytes_kept first [] = refl
bytes_kept first (line ∷ rest) =
    go (not (is_comment line)) (filter (λ line. not (is_comment line.bytes)) (numbered (first + 1) rest)) (filter (λ line. not (is_comment line)) rest) (bytes_kept (first + 1) rest)
  where
    go : (b : Bool) (kept : List NumberedLine) (bytes : List (List ℕ)) → bytes_of kept ≡ bytes → bytes_of (cond b (record { number = first; bytes = line } ∷ kept) kept) ≡ cond b (line ∷ bytes) bytes
    go true kept bytes e = ap (λ ls. line ∷ ls) e
    go false kept bytes e = e

lines_small : (text : List ℕ) → length text ≤ MAX_FILE_BYTES → lines_within MAX_FILE_BYTES text ≡ lines text
unfolding lines_within
lines_small text small = let fits = le-leb (length text) MAX_FILE_BYTES small in rw fits refl

pub content_small : (text : List ℕ) → length text ≤ MAX_FILE_BYTES → ((content_of text).overlong ≡ false) × (content_lines text ≡ bytes_of (content_of text).lines)
unfolding content_of
content_small text small =
    let whole = lines_small text small in
    (le-ltb MAX_FILE_BYTES (length text) small, rw whole (sym (bytes_kept 1 (lines text))))

pub small_content : (text : List ℕ) → (content_of text).overlong ≡ false → length text ≤ MAX_FILE_BYTES
unfolding content_of
small_content text fits = ltb-false MAX_FILE_BYTES (length text) fits

-- What a body without a fault has.
pub record IsWhole (header : Header) (content : Content) : Type 0 where
  pub lines : lines_fault header 1 content.lines ≡ None
  pub fits : content.overlong ≡ false
  pub enough : header.n ≤ length content.lines

end_cases : (overlong short : Bool) → cond overlong (Some TooLong) (cond short (Some MissingLines) None) ≡ None → (overlong ≡ false) × (short ≡ false)
end_cases true short e = cc
end_cases false true e = cc
end_cases false false e = (refl, refl)

pub whole_body : (header : Header) (content : Content) → body_fault header 1 content ≡ None → IsWhole header content
unfolding body_fault
whole_body header content none =
    let parts = none_parts (lines_fault header 1 content.lines) _ none in
    let end = end_cases content.overlong (ltb (length content.lines) (header.n + 1 - 1)) (no_line_fault (content.count + 1) _ parts.1) in
    let enough = ltb-false (length content.lines) (header.n + 1 - 1) end.1 in
    record { lines = parts.0; fits = end.0; enough = omega arith }

pub body_whole : (header : Header) (content : Content) → IsWhole header content → body_fault header 1 content ≡ None
unfolding body_fault
body_whole header content whole =
    let enough = whole.enough in
    let long : ltb (length content.lines) (header.n + 1 - 1) ≡ false = le-ltb (length content.lines) (header.n + 1 - 1) (omega arith) in
    rw (whole.lines, whole.fits, long) refl

pub lines_take : (header : Header) (v k : ℕ) (rows : List NumberedLine) → lines_fault header v rows ≡ None → lines_fault header v (take k rows) ≡ None
lines_take header v zero rows none = refl
lines_take header v (suc k) [] none = refl
lines_take header v (suc k) (line ∷ rest) none =
    let parts = none_parts (at_line line.number (line_fault header v (words line.bytes))) _ none in
    let later = lines_take header (v + 1) k rest parts.1 in
    rw (parts.0, later) refl

no_words : (ws : List (List ℕ)) → extra_fault ws ≡ None → ws ≡ []
no_words [] e = refl
no_words (w ∷ ws) e = cc

lines_after : (header : Header) (v : ℕ) (rows : List NumberedLine) → lines_fault header v rows ≡ None → (i : ℕ) (d : NumberedLine) → i < length rows → header.n < v + i → words (get_or rows i d).bytes ≡ []
lines_after header v [] none i d within past = absurd (omega arith)
lines_after header v (line ∷ rest) none zero d within past =
    let parts = none_parts (at_line line.number (line_fault header v (words line.bytes))) _ none in
    let here = no_line_fault line.number (line_fault header v (words line.bytes)) parts.0 in
    no_words (words line.bytes) (sym (cond-false (leb v header.n) (vertex_fault header v (words line.bytes)) (extra_fault (words line.bytes)) (lt-leb v header.n (omega arith))) ∙ here)
lines_after header v (line ∷ rest) none (suc i) d within past =
    let parts = none_parts (at_line line.number (line_fault header v (words line.bytes))) _ none in
    lines_after header (v + 1) rest parts.1 i d (omega arith) (omega arith)

-- Lines after those of the vertices have no word.
pub nothing_after : (header : Header) (rows : List NumberedLine) → lines_fault header 1 rows ≡ None → All (λ line. words line.bytes ≡ []) (drop header.n rows)
nothing_after header rows none k d within =
    let long = length-drop header.n rows in
    subst (λ (line : NumberedLine). words line.bytes ≡ []) (sym (get_or-drop header.n rows k d)) (lines_after header 1 rows none (header.n + k) d (omega arith) (omega arith))
