-- The events with which a map of degrees begins: each own vertex's degree is put once.
use Rattle.std.proofs.Common.{◌≡◌, ◌≢◌, ◌⊎◌, inl, inr, ℕ, zero, suc, ◌+◌, ◌<◌, Bool, true, false, max, List, [], ◌∷◌, ◌++◌, length, append-nil, refl, sym, ap, ap₂, ◌∙◌, subst, arith, Contains}
use Rattle.std.specs.Prelude.{slice_index}
use Rattle.std.proofs.Math.Bool.{Bool-set}
use Rattle.std.proofs.lemmas.Bool.{cases_eq}
use Rattle.std.proofs.lemmas.List.Elements.{Contains-push, Contains-append_left}
use Rattle.pg_base.specs.Keyed.{row_of}
use Rattle.pg_adj.specs.Portions.{Portion}
use Rattle.pg_cells.specs.Consistency.{contradicts}
use Rattle.pg_cells.specs.declared.flags.Flags.{Flags}
use Rattle.pg_cells.specs.States.{CellState, new_cells}
use Rattle.pg_cells.specs.Steps.{CellsStep, Event}
use Rattle.pg_cells.specs.Steps.Event.{put, handled, sent, closed, round_ended}
use Rattle.pg_cells.specs.Runs.{Run, rounds, events_of, handled_from, sent_to, puts_to}
use Rattle.pg_uses.specs.DegreeMaps.{both_ways, degree_puts, no_degree, opening}
use Rattle.pg_uses.proofs.Events.{handled_append, put_none, put_one, puts_append, rounds_append, run_push, sent_append}

-- ---- events before the end of the first round

first_round : (events more : List Event) → rounds events ≡ 0 → events_of 0 (events ++ more) ≡ events ++ events_of 0 more
first_round [] more none = refl
first_round (round_ended ∷ events) more none = absurd (omega (arith, none))
first_round (put v x ∷ events) more none = ap (λ l. put v x ∷ l) (first_round events more none)
first_round (handled from body ∷ events) more none = ap (λ l. handled from body ∷ l) (first_round events more none)
first_round (sent to body ∷ events) more none = ap (λ l. sent to body ∷ l) (first_round events more none)
first_round (closed ∷ events) more none = ap (λ l. closed ∷ l) (first_round events more none)

later_round : (k : ℕ) (events more : List Event) → rounds events ≡ 0 → events_of (suc k) (events ++ more) ≡ events_of (suc k) more
later_round k [] more none = refl
later_round k (round_ended ∷ events) more none = absurd (omega (arith, none))
later_round k (put v x ∷ events) more none = later_round k events more none
later_round k (handled from body ∷ events) more none = later_round k events more none
later_round k (sent to body ∷ events) more none = later_round k events more none
later_round k (closed ∷ events) more none = later_round k events more none

-- Events that say nothing come first.
silent_first : {X : Type 0} (F : List Event → List X) → ((events more : List Event) → F (events ++ more) ≡ F events ++ F more)
    → (events more : List Event) → rounds events ≡ 0 → F events ≡ [] → (k : ℕ) → F (events_of k (events ++ more)) ≡ F (events_of k more)
silent_first F appends events more none silent zero = ap F (first_round events more none) ∙ (appends events (events_of 0 more) ∙ ap (λ l. l ++ F (events_of 0 more)) silent)
silent_first F appends events more none silent (suc k) = ap F (later_round k events more none)

-- ---- the degrees that are put

module _ (part : Portion) where
  abbrev put_at : ℕ → Event
  put_at place = put (slice_index part.vertices place) (length (row_of part.bounds part.arcs place))

  no_round : (count : ℕ) → rounds (degree_puts part count) ≡ 0
  no_round zero = refl
  no_round (suc count) = omega (arith, rounds_append (degree_puts part count) (put_at count ∷ []), no_round count)

  pub opening_rounds : rounds (opening part) ≡ 0
  opening_rounds = omega (arith, rounds_append (degree_puts part (length part.vertices)) (closed ∷ []), no_round (length part.vertices))

  none_handled : (rank count : ℕ) → handled_from rank (degree_puts part count) ≡ []
  none_handled rank zero = refl
  none_handled rank (suc count) = handled_append rank (degree_puts part count) (put_at count ∷ []) ∙ (append-nil (handled_from rank (degree_puts part count)) ∙ none_handled rank count)

  none_sent : (rank count : ℕ) → sent_to rank (degree_puts part count) ≡ []
  none_sent rank zero = refl
  none_sent rank (suc count) = sent_append rank (degree_puts part count) (put_at count ∷ []) ∙ (append-nil (sent_to rank (degree_puts part count)) ∙ none_sent rank count)

  pub opening_handles : (rank k : ℕ) (more : List Event) → handled_from rank (events_of k (opening part ++ more)) ≡ handled_from rank (events_of k more)
  opening_handles rank k more =
      silent_first (handled_from rank) (handled_append rank) (opening part) more opening_rounds
      (handled_append rank (degree_puts part (length part.vertices)) (closed ∷ []) ∙ (append-nil (handled_from rank (degree_puts part (length part.vertices))) ∙ none_handled rank (length part.vertices))) k

  pub opening_sends : (rank k : ℕ) (more : List Event) → sent_to rank (events_of k (opening part ++ more)) ≡ sent_to rank (events_of k more)
  opening_sends rank k more =
      silent_first (sent_to rank) (sent_append rank) (opening part) more opening_rounds
      (sent_append rank (degree_puts part (length part.vertices)) (closed ∷ []) ∙ (append-nil (sent_to rank (degree_puts part (length part.vertices))) ∙ none_sent rank (length part.vertices))) k

  pub opening_closes : (more : List Event) → Contains (events_of 0 (opening part ++ more)) closed
  opening_closes more =
      subst (λ l. Contains l closed) (sym (first_round (opening part) more opening_rounds))
      (Contains-append_left (opening part) (events_of 0 more) closed (Contains-push (degree_puts part (length part.vertices)) closed))

  puts_none : (v count : ℕ) → ((place : ℕ) → place < count → slice_index part.vertices place ≢ v) → puts_to v (degree_puts part count) ≡ []
  puts_none v zero apart = refl
  puts_none v (suc count) apart =
      puts_append v (degree_puts part count) (put_at count ∷ [])
      ∙ ap₂ ◌++◌ (puts_none v count (λ place h. apart place (omega (arith, h)))) (put_none v (slice_index part.vertices count) (length (row_of part.bounds part.arcs count)) (apart count (omega arith)))

  puts_one : (count place : ℕ) → place < count → ((i : ℕ) → i < count → slice_index part.vertices i ≡ slice_index part.vertices place → i ≡ place)
      → puts_to (slice_index part.vertices place) (degree_puts part count) ≡ length (row_of part.bounds part.arcs place) ∷ []
  puts_one zero place below once = absurd (omega (arith, below))
  puts_one (suc count) place below once =
      let v = slice_index part.vertices place in
      puts_append v (degree_puts part count) (put_at count ∷ [])
      ∙ elim (cases_eq count place) [
        | inl same ↦ ap₂ ◌++◌
            (puts_none v count (λ i h e. omega (arith, h, once i (omega (arith, h)) e, same)))
            (subst (λ i. puts_to (slice_index part.vertices i) (put_at count ∷ []) ≡ length (row_of part.bounds part.arcs i) ∷ []) same
            (put_one (slice_index part.vertices count) (length (row_of part.bounds part.arcs count))))
        | inr other ↦ ap₂ ◌++◌
            (puts_one count place (omega (arith, below, other)) (λ i h e. once i (omega (arith, h)) e))
            (put_none v (slice_index part.vertices count) (length (row_of part.bounds part.arcs count)) (λ e. other (once count (omega arith) e)))
      ]

  opening_puts : (v : ℕ) (more : List Event) → puts_to v more ≡ [] → puts_to v (opening part ++ more) ≡ puts_to v (degree_puts part (length part.vertices))
  opening_puts v more none =
      puts_append v (opening part) more
      ∙ (ap₂ ◌++◌ (puts_append v (degree_puts part (length part.vertices)) (closed ∷ []) ∙ append-nil (puts_to v (degree_puts part (length part.vertices)))) none
      ∙ append-nil (puts_to v (degree_puts part (length part.vertices))))

  -- Nothing is put to a vertex that isn't an own one.
  pub others_unput : (v : ℕ) (more : List Event) → puts_to v more ≡ [] → ((place : ℕ) → place < length part.vertices → slice_index part.vertices place ≢ v) → puts_to v (opening part ++ more) ≡ []
  others_unput v more none apart = opening_puts v more none ∙ puts_none v (length part.vertices) apart

  -- An own vertex gets its degree.
  pub own_put : (place : ℕ) (more : List Event) → puts_to (slice_index part.vertices place) more ≡ [] → place < length part.vertices
      → ((i : ℕ) → i < length part.vertices → slice_index part.vertices i ≡ slice_index part.vertices place → i ≡ place)
      → puts_to (slice_index part.vertices place) (opening part ++ more) ≡ length (row_of part.bounds part.arcs place) ∷ []
  own_put place more none below once = opening_puts (slice_index part.vertices place) more none ∙ puts_one (length part.vertices) place below once

-- One more own vertex's degree is put.
pub puts_more : (part : Portion) (place x : ℕ) (held : Portion) (s t u : CellState) → held ≡ part → x ≡ length (row_of part.bounds part.arcs place) → Run max no_degree s (degree_puts part place) t
    → CellsStep max no_degree t (put (slice_index held.vertices place) x) u → Run max no_degree s (degree_puts part (place + 1)) u
puts_more part place x held s t u same degree before step =
    let is : CellsStep max no_degree t (put (slice_index part.vertices place) (length (row_of part.bounds part.arcs place))) u =
    subst (λ (p : Portion). CellsStep max no_degree t (put (slice_index p.vertices place) (length (row_of part.bounds part.arcs place))) u) same
    (subst (λ y. CellsStep max no_degree t (put (slice_index held.vertices place) y) u) degree step) in
    let next : suc place ≡ place + 1 = omega arith in
    subst (λ k. Run max no_degree s (degree_puts part k) u) next
    (run_push max no_degree (degree_puts part place) (put (slice_index part.vertices place) (length (row_of part.bounds part.arcs place))) s t u before is)

-- ---- a new map

flags_same : (forward backward flush reset clear : Bool) (permitted : contradicts forward backward flush reset clear ≡ false) → forward ≡ true → backward ≡ true → flush ≡ false → reset ≡ false → clear ≡ false
    → record { forward = forward; backward = backward; flush = flush; reset = reset; clear = clear; permitted = permitted } ≡ both_ways
flags_same true true false false false permitted a b c d e = ap (λ p. record { forward = true; backward = true; flush = false; reset = false; clear = false; permitted = p }) (Bool-set false false permitted refl)
flags_same false backward flush reset clear permitted a b c d e = absurd (cc a)
flags_same true false flush reset clear permitted a b c d e = absurd (cc b)
flags_same true true true reset clear permitted a b c d e = absurd (cc c)
flags_same true true false true clear permitted a b c d e = absurd (cc d)
flags_same true true false false true permitted a b c d e = absurd (cc e)

pub flags_are : (flags : Flags) → flags.forward ≡ true → flags.backward ≡ true → flags.flush ≡ false → flags.reset ≡ false → flags.clear ≡ false → flags ≡ both_ways
flags_are flags a b c d e = flags_same flags.forward flags.backward flags.flush flags.reset flags.clear flags.permitted a b c d e

pub opened : (part : Portion) (flags : Flags) (s t u : CellState) → flags ≡ both_ways → s ≡ new_cells no_degree part flags → Run max no_degree s (degree_puts part (length part.vertices)) t → CellsStep max no_degree t closed u
    → Run max no_degree (new_cells no_degree part both_ways) (opening part) u
opened part flags s t u both new puts close =
    subst (λ c. Run max no_degree c (opening part) u) (new ∙ ap (new_cells no_degree part) both) (run_push max no_degree (degree_puts part (length part.vertices)) closed s t u puts close)
