-- What one edge more, or one arc more, does to the marks.
use Rattle.std.proofs.Common.{◌≡◌, ◌≢◌, ℕ, ◌+◌, ◌-◌, ◌<◌, ◌≤◌, ◌++◌, ◌∙◌, List, [], ◌∷◌, length, get_or, set, inl, inr, refl, sym, ap, subst, arith, All, AllPairs, Any}
use Rattle.std.specs.List.{between}
use Rattle.std.proofs.lemmas.Bool.{cases_lt}
use Rattle.std.proofs.lemmas.List.{get_or-set_same, get_or-set_other, get_or_append_left, get_or_push, length_push, get_or_default}
use Rattle.std.proofs.lemmas.List.Elements.{All-push, All-nil}
use Rattle.pg_base.specs.declared.edges.Edge.{Edge}
use Rattle.std.proofs.lemmas.List.Edits.{between_more, length-between, get_or-between}
use Rattle.pg_base.specs.Graph.{Arc, IsEdge, Precedes}
use Rattle.pg_metis.specs.declared.pairing.NamedArc.{NamedArc}
use Rattle.pg_metis.specs.Pairing.{arc_of, arcs_named, AreNamed}
use Rattle.pg_metis.proofs.NamedArcs.{length-named, named_at, is_named, line_more}
use Rattle.pg_metis.specs.declared.pairing.Mark.{Mark}
use Rattle.pg_metis.specs.Marks.{IsMarkOf, LeaveMarks, Meets, MeetsNone, TakeMarks, mark_at, marked_by, met}

all_front : {X : Type 0} (P : X → Type 0) (xs : List X) (x : X) → All P (xs ++ x ∷ []) → All P xs × P x
all_front P xs x all = (
  λ k d within. subst P (get_or_append_left xs (x ∷ []) d k within) (all k d (omega (arith, length_push xs x))),
  subst P (get_or_push xs x x (length xs) refl) (all (length xs) x (omega (arith, length_push xs x))),
)

pub leaves_none : (marks : List Mark) → LeaveMarks [] marks marks
leaves_none marks = record {
  each = All-nil (λ e. (d : Mark) → mark_at marks e.v d ≡ marked_by e (mark_at marks e.v d));
  others = λ v d first apart. refl;
}

-- A write at one vertex leaves the marks of the others.
kept : (marks : List Mark) (v w : ℕ) (m d : Mark) → 1 ≤ v → 1 ≤ w → w ≢ v → mark_at (set marks (v - 1) m) w d ≡ mark_at marks w d
kept marks v w m d first first' apart = get_or-set_other marks (v - 1) (w - 1) m d (λ same. apart (omega arith))

written : (marks : List Mark) (v : ℕ) (m d : Mark) → 1 ≤ v → v ≤ length marks → mark_at (set marks (v - 1) m) v d ≡ m
written marks v m d first last = get_or-set_same marks (v - 1) m d (omega arith)

pub leaves_more : (row : List Edge) (e : Edge) (old now new : List Mark) → LeaveMarks row old now → length now ≡ length old → All (λ x. 1 ≤ x.v) row → All (λ x. x.v ≢ e.v) row → 1 ≤ e.v → e.v ≤ length old
    → ((d : Mark) → new ≡ set now (e.v - 1) (marked_by e (mark_at now e.v d))) → LeaveMarks (row ++ e ∷ []) old new
leaves_more row e old now new left size firsts apart first last is = record {
  each = All-push (λ x. (d : Mark) → mark_at new x.v d ≡ marked_by x (mark_at old x.v d)) row e
      (λ i x within d. let y : Edge = get_or row i x in
      ap (λ (ms : List Mark). mark_at ms y.v d) (is d) ∙ (kept now e.v y.v (marked_by e (mark_at now e.v d)) d first (firsts i x within) (apart i x within) ∙ left.each i x within d))
      (λ d. ap (λ (ms : List Mark). mark_at ms e.v d) (is d) ∙ (written now e.v (marked_by e (mark_at now e.v d)) d first (omega arith)
      ∙ ap (λ (m : Mark). marked_by e m) (left.others e.v d first apart)));
  others = λ v d first' all.
      let split = all_front (λ (x : Edge). x.v ≢ v) row e all in
      ap (λ (ms : List Mark). mark_at ms v d) (is d) ∙ (kept now e.v v (marked_by e (mark_at now e.v d)) d first first' (λ same. split.1 (sym same)) ∙ left.others v d first' split.0);
}

-- The mark that the arc finds is the one that stood there before the line.
pub found_before : (line : List Arc) (a : Arc) (old now : List Mark) (d : Mark) → TakeMarks line old now → All (λ x. x.to ≢ a.to) line → 1 ≤ a.to → mark_at now a.to d ≡ mark_at old a.to d
found_before line a old now d taken apart first = taken.others a.to d first (λ i x within greater. apart i x within)

pub meets_none_before : (line : List Arc) (a : Arc) (old now : List Mark) → TakeMarks line old now → All (λ x. x.to ≢ a.to) line → 1 ≤ a.to → MeetsNone a now → MeetsNone a old
meets_none_before line a old now taken apart first none = record {
  greater = none.greater;
  none = λ d is. none.none d (subst (λ (m : Mark). IsMarkOf a m) (sym (found_before line a old now d taken apart first)) is);
}

takes_lesser : (line : List Arc) (a : Arc) (old now : List Mark) → TakeMarks line old now → a.to < a.from → TakeMarks (line ++ a ∷ []) old now
takes_lesser line a old now taken lesser = record {
  own = All-push (λ x. x.from < x.to → (d : Mark) → IsMarkOf x (mark_at old x.to d)) line a taken.own (λ greater d. absurd (omega arith));
  each = All-push (λ x. x.from < x.to → (d : Mark) → mark_at now x.to d ≡ met (mark_at old x.to d)) line a taken.each (λ greater d. absurd (omega arith));
  others = λ v d first all. taken.others v d first (all_front (λ (x : Arc). x.from < x.to → x.to ≢ v) line a all).0;
}

takes_greater : (line : List Arc) (a : Arc) (old now new : List Mark) → TakeMarks line old now → length now ≡ length old → All (λ x. 1 ≤ x.to) line → All (λ x. x.to ≢ a.to) line → 1 ≤ a.to → a.to ≤ length old → a.from < a.to → Meets a now new
    → TakeMarks (line ++ a ∷ []) old new
takes_greater line a old now new taken size firsts apart first last greater meets =
    let own = meets.own greater in
    let is = meets.taken greater in
    record {
      own = All-push (λ x. x.from < x.to → (d : Mark) → IsMarkOf x (mark_at old x.to d)) line a taken.own
          (λ greater d. subst (λ (m : Mark). IsMarkOf a m) (found_before line a old now d taken apart first) (own d));
      each = All-push (λ x. x.from < x.to → (d : Mark) → mark_at new x.to d ≡ met (mark_at old x.to d)) line a
          (λ i x within up d. let y : Arc = get_or line i x in
          ap (λ (ms : List Mark). mark_at ms y.to d) (is d) ∙ (kept now a.to y.to (met (mark_at now a.to d)) d first (firsts i x within) (apart i x within) ∙ taken.each i x within up d))
          (λ up d. ap (λ (ms : List Mark). mark_at ms a.to d) (is d) ∙ (written now a.to (met (mark_at now a.to d)) d first (omega arith)
          ∙ ap (λ (m : Mark). met m) (found_before line a old now d taken apart first)));
      others = λ v d first' all.
          let split = all_front (λ (x : Arc). x.from < x.to → x.to ≢ v) line a all in
          ap (λ (ms : List Mark). mark_at ms v d) (is d) ∙ (kept now a.to v (met (mark_at now a.to d)) d first first' (λ same. split.1 greater (sym same)) ∙ taken.others v d first' split.0);
    }

pub takes_more : (line : List Arc) (a : Arc) (old now new : List Mark) → TakeMarks line old now → length now ≡ length old → All (λ x. 1 ≤ x.to) line → All (λ x. x.to ≢ a.to) line → 1 ≤ a.to → a.to ≤ length old → a.to ≢ a.from → Meets a now new
    → TakeMarks (line ++ a ∷ []) old new
takes_more line a old now new taken size firsts apart first last other meets =
    elim (cases_lt a.from a.to) [
      | inl greater ↦ takes_greater line a old now new taken size firsts apart first last greater meets
      | inr least ↦ let lesser : a.to < a.from = omega arith in
          subst (λ (ms : List Mark). TakeMarks (line ++ a ∷ []) old ms) (sym (meets.lesser lesser)) (takes_lesser line a old now taken lesser)
    ]

-- What holds of each element of a part, by its place in the whole.
all_between : {X : Type 0} (P : X → Type 0) (xs : List X) (begin end : ℕ) → end ≤ length xs → ((i : ℕ) (d : X) → begin ≤ i → i < end → P (get_or xs i d)) → All P (between begin end xs)
all_between P xs begin end within each k d below =
    let size = length-between xs begin end within in
    subst P (sym (get_or-between xs begin end k d (omega arith))) (each (begin + k) d (omega arith) (omega arith))

at_between : {X : Type 0} (P : X → Type 0) (xs : List X) (begin end i : ℕ) (d : X) → end ≤ length xs → All P (between begin end xs) → begin ≤ i → i < end → P (get_or xs i d)
at_between P xs begin end i d within all rises below =
    let size = length-between xs begin end within in
    let same : begin + (i - begin) ≡ i = omega arith in
    subst (λ (j : ℕ). P (get_or xs j d)) same (subst P (get_or-between xs begin end (i - begin) d (omega arith)) (all (i - begin) d (omega arith)))

-- A part of a list is one element longer.
pub all_longer : {X : Type 0} (P : X → Type 0) (xs : List X) (begin end : ℕ) (d : X) → begin ≤ end → end < length xs → All P (between begin end xs) → P (get_or xs end d) → All P (between begin (end + 1) xs)
all_longer P xs begin end d rises below all one =
    subst (λ zs. All P zs) (sym (between_more xs begin end d rises below)) (All-push P (between begin end xs) (get_or xs end d) all one)

pub row_marked : (edges : List Edge) (u begin end : ℕ) (d : Edge) (old now new : List Mark) → All (IsEdge (length old)) edges → AllPairs Precedes edges → begin ≤ end → end < length edges → length now ≡ length old
    → All (λ e. e.u ≡ u) (between begin end edges) → (get_or edges end d).u ≡ u → LeaveMarks (between begin end edges) old now
    → ((m : Mark) → new ≡ set now ((get_or edges end d).v - 1) (marked_by (get_or edges end d) (mark_at now (get_or edges end d).v m))) → LeaveMarks (between begin (end + 1) edges) old new
row_marked edges u begin end d old now new within ascending rises below size row own left is =
    let e : Edge = get_or edges end d in
    let edge = within end d below in
    let first = edge.first in
    let rise = edge.ascends in
    let last = edge.last in
    subst (λ (es : List Edge). LeaveMarks es old new) (sym (between_more edges begin end d rises below))
    (leaves_more (between begin end edges) e old now new left size
    (all_between (λ (x : Edge). 1 ≤ x.v) edges begin end (omega arith) (λ i x from to. let is_edge = within i x (omega arith) in omega (arith, is_edge.ascends)))
    (all_between (λ (x : Edge). x.v ≢ e.v) edges begin end (omega arith)
    (λ i x from to. let before : Precedes (get_or edges i x) (get_or edges end x) = ascending i end x to below in
    let here : get_or edges end x ≡ e = get_or_default edges end x d below in
    let before' = subst (λ (y : Edge). Precedes (get_or edges i x) y) here before in
    let same : (get_or edges i x).u ≡ u = at_between (λ (y : Edge). y.u ≡ u) edges begin end i x (omega arith) row from to in
    let less = before'.second (same ∙ sym own) in omega arith))
    (omega arith) last is)

apart_in_line : (xs : List NamedArc) (n u begin end : ℕ) (d : NamedArc) → AreNamed n (arcs_named xs) → begin ≤ end → end < length xs → All (λ a. a.from ≡ u) (between begin end (arcs_named xs)) → (get_or xs end d).from ≡ u
    → All (λ a. a.to ≢ (get_or xs end d).to) (between begin end (arcs_named xs))
apart_in_line xs n u begin end d named rises below line own =
    all_between (λ (a : Arc). a.to ≢ (get_or xs end d).to) (arcs_named xs) begin end (omega (arith, length-named xs))
    (λ i a from to same. let once = named.once i end a to (omega (arith, length-named xs)) in
    let here : get_or (arcs_named xs) end a ≡ arc_of (get_or xs end d) = named_at xs end d a below in
    let leaves : (get_or (arcs_named xs) i a).from ≡ u = at_between (λ (b : Arc). b.from ≡ u) (arcs_named xs) begin end i a (omega (arith, length-named xs)) line from to in
    once (leaves ∙ (sym own ∙ sym (ap (λ (b : Arc). b.from) here))) (same ∙ sym (ap (λ (b : Arc). b.to) here)))

firsts_in_line : (xs : List NamedArc) (n begin end : ℕ) → AreNamed n (arcs_named xs) → end ≤ length xs → All (λ a. 1 ≤ a.to) (between begin end (arcs_named xs))
firsts_in_line xs n begin end named within =
    all_between (λ (a : Arc). 1 ≤ a.to) (arcs_named xs) begin end (omega (arith, length-named xs)) (λ i a from to. let is = named.within i a (omega (arith, length-named xs)) in is.to_first)

pub line_taken : (xs : List NamedArc) (u begin end : ℕ) (d : NamedArc) (old now new : List Mark) → AreNamed (length old) (arcs_named xs) → begin ≤ end → end < length xs → length now ≡ length old
    → All (λ a. a.from ≡ u) (between begin end (arcs_named xs)) → (get_or xs end d).from ≡ u → TakeMarks (between begin end (arcs_named xs)) old now → Meets (arc_of (get_or xs end d)) now new
    → TakeMarks (between begin (end + 1) (arcs_named xs)) old new
line_taken xs u begin end d old now new named rises below size line own taken meets =
    let a : Arc = arc_of (get_or xs end d) in
    let is = is_named (length old) xs end d named below in
    subst (λ (ls : List Arc). TakeMarks ls old new) (sym (line_more xs begin end d rises below))
    (takes_more (between begin end (arcs_named xs)) a old now new taken size (firsts_in_line xs (length old) begin end named (omega arith)) (apart_in_line xs (length old) u begin end d named rises below line own) is.to_first is.to_last is.other meets)

pub line_longer : (xs : List NamedArc) (u begin end : ℕ) (d : NamedArc) → begin ≤ end → end < length xs → All (λ a. a.from ≡ u) (between begin end (arcs_named xs)) → (get_or xs end d).from ≡ u → All (λ a. a.from ≡ u) (between begin (end + 1) (arcs_named xs))
line_longer xs u begin end d rises below line own =
    subst (λ (ls : List Arc). All (λ a. a.from ≡ u) ls) (sym (line_more xs begin end d rises below)) (All-push (λ (a : Arc). a.from ≡ u) (between begin end (arcs_named xs)) (arc_of (get_or xs end d)) line own)

-- An arc of the line that found no mark shows that the vertex is unpaired.
pub line_stops : (xs : List NamedArc) (u begin end : ℕ) (d : NamedArc) (old now : List Mark) → AreNamed (length old) (arcs_named xs) → begin ≤ end → end < length xs
    → All (λ a. a.from ≡ u) (between begin end (arcs_named xs)) → (get_or xs end d).from ≡ u → TakeMarks (between begin end (arcs_named xs)) old now → MeetsNone (arc_of (get_or xs end d)) now
    → Any (λ a. (a.from ≡ u) × MeetsNone a old) (arcs_named xs)
line_stops xs u begin end d old now named rises below line own taken none =
    let a : Arc = arc_of (get_or xs end d) in
    let is = is_named (length old) xs end d named below in (
      end,
      a,
      omega (arith, length-named xs),
      named_at xs end d a below,
      (own, meets_none_before (between begin end (arcs_named xs)) a old now taken (apart_in_line xs (length old) u begin end d named rises below line own) is.to_first none),
    )
