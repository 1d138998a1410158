-- Where a line ends, and what is left after a part of it was taken.
use Rattle.std.proofs.Common.{◌≡◌, ℕ, ◌+◌, ◌-◌, ◌<◌, ◌≤◌, Bool, true, false, Option, Some, None, Err, List, [], ◌∷◌, ◌++◌, length, take, drop, slice_range, IfSome, refl, sym, ap, subst, ◌∙◌, arith, ◌⊎◌, inl, inr, not, ◌==◌}
use Rattle.std.proofs.lemmas.Bool.Decides.{nat_tests}
use Rattle.std.proofs.lemmas.List.{drop_more, take-append-drop, length-take, length-drop, drop-drop, get_or-take, get_or_default, drop-take, append_assoc, append-nil, length-append}
use Rattle.std.proofs.lemmas.List.Elements.{All-append}
use Rattle.std.specs.Option.{option_map}
use Rattle.std.specs.Io.KnownBytes.{prepend_known, Consumes, Keeps}
use Rattle.memchr.specs.Find.{IsFirstByte, is_byte}
use Rattle.pg_text.specs.declared.readers.LineReader.{LineReader}
use Rattle.pg_text.specs.declared.faults.TextFault.{TextFault}
use Rattle.pg_text.specs.declared.faults.TextFault.TheVariants.{TooLong, Failed, OutOfMemory}
use Rattle.pg_text.specs.Answers.{OnTooLong}
use Rattle.pg_text.specs.Text.{is_newline}
use Rattle.pg_text.specs.Ahead.{Ahead, ahead_within}
use Rattle.pg_text.specs.Cuts.{HasNoNewline, IsNewlineAt, IsOverlong}
use Rattle.pg_text.specs.Coming.{held, bytes_ahead, IsDone, Told, Takes}
use Rattle.pg_text.specs.Taking.{TakesPart, HasMore, FillsLine}
use Rattle.pg_text.proofs.AheadLemmas.{ahead-line, ahead-last, ahead-none, ahead-overlong}

-- A fault that is passed on.
pub too_long-passed : (fault : TextFault) (P Q : ℕ → Type 0) → ((line : ℕ) → P line → Q line) → OnTooLong {A = Bool} (Err fault) P → OnTooLong {A = Bool} (Err fault) Q
too_long-passed (TooLong line) P Q f p = f line p
too_long-passed Failed P Q f p = p
too_long-passed OutOfMemory P Q f p = p

-- What is held after n of the held bytes were taken.
pub slice_range-drop : (xs : List ℕ) (from to n : ℕ) → n ≤ to - from → slice_range xs (from + n) to ≡ drop n (slice_range xs from to)
slice_range-drop xs from to n h =
    let m = (to - from) - n in
    let all : to - from ≡ n + m = omega arith in
    let rest : to - (from + n) ≡ m = omega arith in
    rw (all, rest) (ap (take m) (sym (drop-drop n from xs)) ∙ sym (drop-take n m (drop from xs)))

pub slice_range-length : (xs : List ℕ) (from to : ℕ) → from ≤ to → to ≤ length xs → length (slice_range xs from to) ≡ to - from
slice_range-length xs from to h w = simp (length-take, length-drop) (omega arith)

not_newline : (b : ℕ) → ¬ (is_byte 10 b ≡ true) → is_newline b ≡ false
not_newline b h = grind (arith, nat_tests)

newline : (b : ℕ) → is_byte 10 b ≡ true → b ≡ 10
newline b h = grind (arith, nat_tests)

pub IsNewlineAt-first : (bytes : List ℕ) (place : Option ℕ) → IsFirstByte (is_byte 10) bytes place → IsNewlineAt bytes place
IsNewlineAt-first bytes None h = λ k d w. rw (get_or_default bytes k d 0 w) (not_newline _ (h k (omega arith) w))
IsNewlineAt-first bytes (Some place) h =
    let low : place < length bytes = h.0.high in
    record {
      before = λ k d w.
          let below : k < place = omega (arith, length-take place bytes) in
          let inside : k < length bytes = omega arith in
          rw (get_or-take place bytes k d below, get_or_default bytes k d 0 inside) (not_newline _ (h.0.before k (omega arith) below));
      split = sym (take-append-drop place bytes) ∙ ap (λ rest. take place bytes ++ rest) (drop_more bytes place 0 low ∙ ap (λ b. b ∷ drop (place + 1) bytes) (newline _ h.1));
      within = low;
    }

-- The bytes hold no newline, and are more than the room.
pub overlong-all : (room count : ℕ) (bytes : List ℕ) → HasNoNewline bytes → length bytes ≡ count → room < count → IsOverlong room bytes
overlong-all room count bytes plain size past = record { part = bytes; rest = []; plain = plain; whole = sym (append-nil bytes); long = omega arith; past = omega arith }

consumes-part : (a left : Option (List ℕ)) (line h part newline rest : List ℕ) → Consumes a (prepend_known h left) line → h ≡ part ++ newline ++ rest
    → Consumes a (prepend_known rest left) (line ++ part ++ newline)
consumes-part None left line h part newline rest c e = tt
consumes-part (Some t) None line h part newline rest c e = absurd c
consumes-part (Some t) (Some u) line h part newline rest c e = c ∙ rw e (simp append_assoc)

consumes-keeps : (a b c : Option (List ℕ)) (line : List ℕ) → Consumes a b line → Keeps b c → Consumes a c line
consumes-keeps None b c line h k = tt
consumes-keeps (Some t) None c line h k = absurd h
consumes-keeps (Some t) (Some u) None line h k = absurd k
consumes-keeps (Some t) (Some u) (Some v) line h k = h ∙ ap (λ w. line ++ w) (sym k)

plain-append : (xs ys : List ℕ) → HasNoNewline xs → HasNoNewline ys → HasNoNewline (xs ++ ys)
plain-append xs ys p q = All-append (λ x. is_newline x ≡ false) xs ys p q

-- The line so far: no newline is in it, and what was left is the line and what is left now.
pub record LineSoFar (room : ℕ) (before : Option (List ℕ)) (now : LineReader) (after : Option (List ℕ)) : Type 0 where
  pub plain : HasNoNewline now.line.items
  pub bytes : Consumes before after now.line.items
  pub left : now.room + length now.line.items ≡ room

-- The newline of the line was met.
pub fills-newline : (room : ℕ) (cur new : LineReader) (a left : Option (List ℕ)) (ended : Bool) → ended ≡ true → TakesPart ended cur new → LineSoFar room a cur (bytes_ahead cur left)
    → FillsLine true room a new (bytes_ahead new left)
fills-newline room cur new a left false e part now = cc
fills-newline room cur new a left true e part now =
    record {
      plain = rw part.line (plain-append cur.line.items part.part now.plain part.plain);
      bytes = rw part.line (consumes-part a left cur.line.items (held cur) part.part (10 ∷ []) (held new) now.bytes part.bytes);
      left = rw part.line (omega (arith, part.room, now.left, length-append cur.line.items part.part));
    }

-- The line so far, after one more part of it was taken and the next piece was read.
pub fills-more : (room : ℕ) (cur mid new : LineReader) (a left later : Option (List ℕ)) (ended : Bool) → ended ≡ false → TakesPart ended cur mid → LineSoFar room a cur (bytes_ahead cur left)
    → Keeps (bytes_ahead mid left) (bytes_ahead new later) → new.line ≡ mid.line → new.room ≡ mid.room → LineSoFar room a new (bytes_ahead new later)
fills-more room cur mid new a left later true e part now keeps line count = cc
fills-more room cur mid new a left later false e part now keeps line count =
    let all : new.line.items ≡ cur.line.items ++ part.part = ap (λ l. l.items) line ∙ part.line in
    let went : Consumes a (bytes_ahead mid left) (cur.line.items ++ part.part) = subst (λ l. Consumes a (bytes_ahead mid left) l) (append-nil (cur.line.items ++ part.part)) (consumes-part a left cur.line.items (held cur) part.part [] (held mid) now.bytes part.bytes) in
    record {
      plain = rw all (plain-append cur.line.items part.part now.plain part.plain);
      bytes = rw all (consumes-keeps a (bytes_ahead mid left) (bytes_ahead new later) _ went keeps);
      left = rw all (omega (arith, part.room, now.left, length-append cur.line.items part.part));
    }

-- The input was read to its end before a newline was met.
pub fills-last : (room : ℕ) (new : LineReader) (a later : Option (List ℕ)) (more : Bool) → LineSoFar room a new (bytes_ahead new later) → more ≡ false → HasMore more new later
    → FillsLine false room a new (bytes_ahead new later)
fills-last room new a later true now e h = cc
fills-last room new a later false now e h = record { plain = now.plain; bytes = (now.bytes, h); left = omega (arith, now.left) }

overlong-at : (room : ℕ) (cur : LineReader) (t u : List ℕ) → IsOverlong cur.room (held cur) → HasNoNewline cur.line.items → t ≡ cur.line.items ++ (held cur ++ u) → cur.room + length cur.line.items ≡ room → IsOverlong room t
overlong-at room cur t u over plain bytes left =
    let front = cur.line.items ++ over.part in
    let all : t ≡ front ++ (over.rest ++ u) = bytes ∙ rw over.whole (simp append_assoc) in
    let size : length front ≡ length cur.line.items + length over.part = length-append cur.line.items over.part in
    record {
      part = front;
      rest = over.rest ++ u;
      plain = plain-append cur.line.items over.part plain over.plain;
      whole = all;
      long = omega (arith, over.long);
      past = omega (arith, ap length bytes, length-append cur.line.items (held cur ++ u), length-append (held cur) u, over.past);
    }

-- The first line ahead is overlong where the rest of it is.
pub overlong : (room : ℕ) (cur : LineReader) (a left : Option (List ℕ)) → LineSoFar room a cur (bytes_ahead cur left) → IsOverlong cur.room (held cur) → IfSome a (IsOverlong room)
overlong room cur None left now over = tt
overlong room cur (Some t) None now over = absurd now.bytes
overlong room cur (Some t) (Some u) now over = overlong-at room cur t u over now.plain now.bytes now.left

told-newline : (room : ℕ) (new : LineReader) (a b : Option (List ℕ)) → FillsLine true room a new b → Told (option_map (ahead_within room) a) (option_map (ahead_within new.room) b) (Takes true new.line.items)
told-newline room new None b fills = tt
told-newline room new (Some t) None fills = absurd fills.bytes
told-newline room new (Some t) (Some u) fills = ahead-line new.line.items u t new.room room fills.plain (fills.bytes ∙ append_assoc new.line.items (10 ∷ []) u) fills.left

told-last : (room : ℕ) (new : LineReader) (a b : Option (List ℕ)) → FillsLine false room a new b → 0 < length new.line.items → Told (option_map (ahead_within room) a) (option_map (ahead_within new.room) b) (Takes true new.line.items)
told-last room new None b fills some = tt
told-last room new (Some t) None fills some = absurd fills.bytes.0
told-last room new (Some t) (Some u) fills some =
    let line = new.line.items in
    let all : line ≡ t = sym (fills.bytes.0 ∙ ap (λ x. line ++ x) fills.bytes.1 ∙ append-nil line) in
    let took = ahead-last line new.room room fills.plain some (omega (arith, fills.left)) in
    rw (sym all, fills.bytes.1) took

-- The line that was filled was the first ahead, where it has a byte or its newline was met.
pub told-line : (room : ℕ) (new : LineReader) (a b : Option (List ℕ)) (ended : Bool) → FillsLine ended room a new b → (ended ≡ true) ⊎ (0 < length new.line.items)
    → Told (option_map (ahead_within room) a) (option_map (ahead_within new.room) b) (Takes true new.line.items)
told-line room new a b true fills some = told-newline room new a b fills
told-line room new a b false fills (inl e) = cc
told-line room new a b false fills (inr some) = told-last room new a b fills some

is_nil : (xs : List ℕ) → length xs ≡ 0 → xs ≡ []
is_nil [] e = refl
is_nil (x ∷ xs) e = absurd (omega arith)

-- Otherwise no line is ahead, and none was.
pub told-none : (room : ℕ) (new : LineReader) (a b : Option (List ℕ)) (ended : Bool) → FillsLine ended room a new b → ended ≡ false → length new.line.items ≡ 0
    → Told (option_map (ahead_within room) a) (option_map (ahead_within new.room) b) (λ was now. IsDone was × IsDone now)
told-none room new a b true fills e none = cc
told-none room new None b false fills e none = tt
told-none room new (Some t) None false fills e none = absurd fills.bytes.0
told-none room new (Some t) (Some u) false fills e none =
    let nil : t ≡ [] = fills.bytes.0 ∙ ap (λ x. new.line.items ++ x) fills.bytes.1 ∙ append-nil new.line.items ∙ is_nil new.line.items none in (
      subst (λ bytes. IsDone (ahead_within room bytes)) (sym nil) (ahead-none room),
      subst (λ bytes. IsDone (ahead_within new.room bytes)) (sym fills.bytes.1) (ahead-none new.room),
    )

pub told-was : (line : List ℕ) (a b : Option Ahead) → Told a b (λ was now. IsDone was × IsDone now) → Told a b (Takes false line)
told-was line None b h = tt
told-was line (Some x) None h = h
told-was line (Some x) (Some y) h = h.0

pub told-now : (a b : Option Ahead) → Told a b (λ was now. IsDone was × IsDone now) → Told a b (λ was now. IsDone now)
told-now None b h = tt
told-now (Some x) None h = h
told-now (Some x) (Some y) h = h.1

nil-append : (xs ys : List ℕ) → xs ++ ys ≡ [] → ys ≡ []
nil-append [] ys e = e
nil-append (x ∷ xs) ys e = cc

-- And the input was read to its end.
pub read-to_end : (room : ℕ) (new : LineReader) (a later : Option (List ℕ)) (ended : Bool) → FillsLine ended room a new (bytes_ahead new later) → ended ≡ false → IfSome (option_map (ahead_within room) a) (λ _. later ≡ Some [])
read-to_end room new a later true fills e = cc
read-to_end room new None later false fills e = tt
read-to_end room new (Some t) None false fills e = absurd fills.bytes.0
read-to_end room new (Some t) (Some u) false fills e = ap Some (nil-append (held new) u fills.bytes.1)

-- What is ahead of a reader whose first line is overlong.
pub told-overlong : (room lines line : ℕ) (a : Option (List ℕ)) → (line ≡ lines + 1) × IfSome a (IsOverlong room)
    → IfSome (option_map (ahead_within room) a) (λ was. (line ≡ lines + 1) × (was.lines ≡ []) × (was.overlong ≡ true))
told-overlong room lines line None h = tt
told-overlong room lines line (Some t) h = let none = ahead-overlong room t h.1 in (h.0, none.0, none.1)

pub some_bytes : (more empty : Bool) (n size : ℕ) → more ≡ true → more ≡ not empty → empty ≡ (n == 0) → n ≡ size → 0 < size
some_bytes more empty n size t is e s = grind (arith, nat_tests)

pub no_bytes : (more empty : Bool) (n size : ℕ) → more ≡ false → more ≡ not empty → empty ≡ (n == 0) → n ≡ size → size ≡ 0
no_bytes more empty n size t is e s = grind (arith, nat_tests)
