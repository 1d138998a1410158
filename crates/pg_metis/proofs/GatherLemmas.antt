-- Lines that are taken together stand side by side, as they stood ahead.
use Rattle.std.proofs.Common.{◌≡◌, ◌≤◌, ℕ, ◌-◌, List, [], ◌∷◌, ◌++◌, length, map, drop, take, slice_range, refl, sym, ap, ◌∙◌, arith, append-nil, length-append, All}
use Rattle.std.proofs.lemmas.List.{drop-append-le, length-drop, map-append, take-append-le}
use Rattle.std.proofs.lemmas.List.Elements.{All-head, All-tail}
use Rattle.std.proofs.Math.Seq.{drop-append_seam, take-append_seam}
use Rattle.pg_metis.specs.declared.gathering.LineAt.{LineAt}
use Rattle.pg_metis.specs.Batches.{IsWithin, line_of}
use Rattle.pg_metis.specs.Gathering.{numbered_line}

same-part : (bytes line : List ℕ) (begin end : ℕ) → begin ≤ end → end ≤ length bytes → slice_range (bytes ++ line) begin end ≡ slice_range bytes begin end
same-part bytes line begin end ordered within =
    let long = length-drop begin bytes in
    ap (take (end - begin)) (drop-append-le begin bytes line (omega arith)) ∙ take-append-le (end - begin) (drop begin bytes) line (omega arith)

same-lines : (bytes line : List ℕ) (ats : List LineAt) → All (IsWithin (length bytes)) ats → map (line_of (bytes ++ line)) ats ≡ map (line_of bytes) ats
same-lines bytes line [] all = refl
same-lines bytes line (at ∷ ats) all =
    let here = All-head (IsWithin (length bytes)) at ats all in
    ap (λ (b : List ℕ). numbered_line at.number b ∷ map (line_of (bytes ++ line)) ats) (same-part bytes line at.begin at.end here.ordered here.within)
    ∙ ap (λ l. line_of bytes at ∷ l) (same-lines bytes line ats (All-tail (IsWithin (length bytes)) at ats all))

last-part : (bytes line : List ℕ) → slice_range (bytes ++ line) (length bytes) (length (bytes ++ line)) ≡ line
last-part bytes line =
    let long : length (bytes ++ line) - length bytes ≡ length line = rw (length-append bytes line) (omega arith) in
    ap (take (length (bytes ++ line) - length bytes)) (drop-append_seam bytes line) ∙ ap (λ n. take n line) long ∙ ap (take (length line)) (sym (append-nil line)) ∙ take-append_seam line []

-- A line more.
pub lines-pushed : (bytes line : List ℕ) (ats : List LineAt) (number begin end : ℕ) → All (IsWithin (length bytes)) ats → begin ≡ length bytes → end ≡ length (bytes ++ line) → (at : LineAt) → at.number ≡ number → at.begin ≡ begin → at.end ≡ end
    → map (line_of (bytes ++ line)) (ats ++ at ∷ []) ≡ map (line_of bytes) ats ++ numbered_line number line ∷ []
lines-pushed bytes line ats number begin end all first last at numbers begins ends =
    let part : slice_range (bytes ++ line) at.begin at.end ≡ line = rw (begins ∙ first, ends ∙ last) (last-part bytes line) in
    map-append (line_of (bytes ++ line)) ats (at ∷ [])
    ∙ ap (λ l. l ++ line_of (bytes ++ line) at ∷ []) (same-lines bytes line ats all)
    ∙ ap (λ (b : List ℕ). map (line_of bytes) ats ++ numbered_line at.number b ∷ []) part
    ∙ ap (λ (n : ℕ). map (line_of bytes) ats ++ numbered_line n line ∷ []) numbers
