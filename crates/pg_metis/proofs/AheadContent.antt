-- From the lines ahead of a reader to the content ahead of it.
use Rattle.std.proofs.Common.{◌≡◌, ℕ, ◌+◌, Bool, true, false, Option, Some, None, List, [], ◌∷◌, IfSome, refl, ap, subst, ◌∙◌, arith, if◌then◌else◌}
use Rattle.std.specs.Option.{option_map}
use Rattle.pg_text.specs.Ahead.{Ahead, ahead_within}
use Rattle.pg_text.specs.Coming.{coming, Takes, Told}
use Rattle.pg_text.specs.Text.{is_comment}
use Rattle.pg_text.specs.declared.readers.LineReader.{LineReader}
use Rattle.pg_metis.specs.declared.TheConstants.{MAX_FILE_BYTES}
use Rattle.pg_metis.specs.Ahead.{content_ahead, IsPastLimit, Passes, TakesContent}
use Rattle.pg_metis.specs.Content.{Content, NumberedLine, content_after, content_of}

pub same-content : (c d : Content) → c.lines ≡ d.lines → c.count ≡ d.count → c.overlong ≡ d.overlong → c ≡ d
same-content c d lines count overlong =
    ap (λ (x : List NumberedLine). let k : Content = record { lines = x; count = c.count; overlong = c.overlong } in k) lines
    ∙ ap (λ (x : ℕ). let k : Content = record { lines = d.lines; count = x; overlong = c.overlong } in k) count
    ∙ ap (λ (x : Bool). let k : Content = record { lines = d.lines; count = d.count; overlong = x } in k) overlong

comment-passed : (n m : ℕ) (line : List ℕ) (was now : Ahead) → m ≡ n + 1 → is_comment line ≡ true → Takes true line was now → content_after n was ≡ content_after m now
comment-passed n m line was now one is takes = same-content (content_after n was) (content_after m now) (rw (takes.0, is, one) refl) (rw takes.0 (omega arith)) takes.1

line-passed : (n m : ℕ) (line : List ℕ) (was now : Ahead) → m ≡ n + 1 → is_comment line ≡ false → Takes true line was now → Passes (record { number = m; bytes = line } ∷ []) (content_after n was) (content_after m now)
line-passed n m line was now one is takes = record {
  lines = rw (takes.0, is, one) refl;
  count = rw takes.0 (omega arith);
  overlong = takes.1;
}

told-as : (n m : ℕ) (a b : Option Ahead) (P : Ahead → Ahead → Type 0) (Q : Content → Content → Type 0) → Told a b P → ((was now : Ahead) → P was now → Q (content_after n was) (content_after m now)) → Told (option_map (content_after n) a) (option_map (content_after m) b) Q
told-as n m None b P Q h f = tt
told-as n m (Some was) None P Q h f = absurd h
told-as n m (Some was) (Some now) P Q h f = f was now h

takes-at : (more others : Bool) (line : List ℕ) (a b : Option Ahead) → more ≡ others → Told a b (Takes more line) → Told a b (Takes others line)
takes-at more others line a b same told = subst (λ (m : Bool). Told a b (Takes m line)) same told

-- A comment was taken.
pub took-comment : (old new : LineReader) (before after : Option (List ℕ)) (more : Bool) (line : List ℕ) → more ≡ true → new.lines ≡ (if more then old.lines + 1 else old.lines) → is_comment line ≡ true → Told (coming old before) (coming new after) (Takes more line)
    → Told (content_ahead old before) (content_ahead new after) (λ was now. was ≡ now)
unfolding content_ahead
took-comment old new before after more line is count comment told =
    let one : new.lines ≡ old.lines + 1 = rw is at count in
    told-as old.lines new.lines (coming old before) (coming new after) (Takes true line) (λ was now. was ≡ now) (takes-at more true line (coming old before) (coming new after) is told) (λ was now takes. comment-passed old.lines new.lines line was now one comment takes)

-- A line that is no comment was taken.
pub took-line : (old new : LineReader) (before after : Option (List ℕ)) (more : Bool) (line : List ℕ) → more ≡ true → new.lines ≡ (if more then old.lines + 1 else old.lines) → is_comment line ≡ false → Told (coming old before) (coming new after) (Takes more line)
    → Told (content_ahead old before) (content_ahead new after) (TakesContent true new.lines line)
unfolding content_ahead
took-line old new before after more line is count plain told =
    let one : new.lines ≡ old.lines + 1 = rw is at count in
    told-as old.lines new.lines (coming old before) (coming new after) (Takes true line) (TakesContent true new.lines line) (takes-at more true line (coming old before) (coming new after) is told) (λ was now takes. line-passed old.lines new.lines line was now one plain takes)

-- No line was left.
pub took-none : (old new : LineReader) (before after : Option (List ℕ)) (more : Bool) (line : List ℕ) → more ≡ false → new.lines ≡ (if more then old.lines + 1 else old.lines) → Told (coming old before) (coming new after) (Takes more line)
    → Told (content_ahead old before) (content_ahead new after) (TakesContent false new.lines line)
unfolding content_ahead
took-none old new before after more line is count told =
    let same : new.lines ≡ old.lines = rw is at count in
    told-as old.lines new.lines (coming old before) (coming new after) (Takes false line) (TakesContent false new.lines line) (takes-at more false line (coming old before) (coming new after) is told)
    (λ was now takes. (rw takes.0 refl, takes.1, rw takes.0 (omega arith)))

if-as : (n : ℕ) (a : Option Ahead) (P : Ahead → Type 0) (Q : Content → Type 0) → IfSome a P → ((was : Ahead) → P was → Q (content_after n was)) → IfSome (option_map (content_after n) a) Q
if-as n None P Q h f = tt
if-as n (Some was) P Q h f = f was h

-- The next line is overlong.
pub took-overlong : (old : LineReader) (before : Option (List ℕ)) (line : ℕ) → IfSome (coming old before) (λ was. (line ≡ old.lines + 1) × (was.lines ≡ []) × (was.overlong ≡ true)) → IfSome (content_ahead old before) (IsPastLimit line)
unfolding content_ahead
took-overlong old before line over = if-as old.lines (coming old before) _ (IsPastLimit line) over
    (λ was is. record { none = rw is.1 refl; overlong = is.2; number = rw is.1 (let e = is.0 in omega arith) })

-- What holds where the lines ahead are told holds where the content ahead is.
pub where-told : (old : LineReader) (before : Option (List ℕ)) (P : Type 0) → IfSome (coming old before) (λ _. P) → IfSome (content_ahead old before) (λ _. P)
unfolding content_ahead
where-told old before P h = if-as old.lines (coming old before) (λ _. P) (λ _. P) h (λ was p. p)

map-map : (n : ℕ) (left : Option (List ℕ)) → n ≡ 0 → option_map (content_after n) (option_map (ahead_within MAX_FILE_BYTES) left) ≡ option_map content_of left
unfolding content_of
map-map n None none = refl
map-map n (Some text) none = ap (λ k. Some (content_after k (ahead_within MAX_FILE_BYTES text))) none

at-start : (reader : LineReader) (left : Option (List ℕ)) → coming reader left ≡ option_map (ahead_within MAX_FILE_BYTES) left → reader.lines ≡ 0 → content_ahead reader left ≡ option_map content_of left
unfolding content_ahead
at-start reader left is none = ap (option_map (content_after reader.lines)) is ∙ map-map reader.lines left none

in-text : (left : Option (List ℕ)) (P : Content → Type 0) → IfSome (option_map content_of left) P → IfSome left (λ text. P (content_of text))
in-text None P h = tt
in-text (Some text) P h = h

-- At its start a reader has the content of the whole text ahead.
pub of-text : (reader : LineReader) (left : Option (List ℕ)) (P : Content → Type 0) → coming reader left ≡ option_map (ahead_within MAX_FILE_BYTES) left → reader.lines ≡ 0 → IfSome (content_ahead reader left) P → IfSome left (λ text. P (content_of text))
of-text reader left P is none h = in-text left P (subst (λ (o : Option Content). IfSome o P) (at-start reader left is none) h)
