-- Of two labels that hook to each other the lesser points to itself.
use Rattle.std.proofs.Common.{◌≡◌, ◌≢◌, ℕ, ◌+◌, ◌<◌, ◌≤◌, Bool, true, false, ◌&&◌, eqb, ltb, List, length, All, refl, sym, ap, ◌∙◌, arith, below_more, get_or-set_same, get_or-set_other}
use Rattle.std.specs.Prelude.{slice_index, slice_set}
use Rattle.std.proofs.lemmas.Bool.{cond-true, cond-false, and_parts, and_from, eqb-true, ltb-true, eq-eqb, lt-ltb}
use Rattle.std.proofs.lemmas.List.{length-set}
use Rattle.std.proofs.lemmas.List.Elements.{All-set}
use Rattle.pg_forest.specs.Phases.{point}

lesser : (hook : ℕ → ℕ) (l : ℕ) → hook (hook l) ≡ l → l < hook l → point hook l ≡ l
lesser hook l back less =
    cond-true (eqb (hook (hook l)) l && ltb l (hook l)) l (hook l)
    (and_from (eqb (hook (hook l)) l) (ltb l (hook l)) (eq-eqb (hook (hook l)) l back) (lt-ltb l (hook l) less))

other_by : (hook : ℕ → ℕ) (l : ℕ) (both : Bool) → (eqb (hook (hook l)) l && ltb l (hook l)) ≡ both → (l < hook l → hook (hook l) ≢ l) → point hook l ≡ hook l
other_by hook l true is apart =
    let parts = and_parts (eqb (hook (hook l)) l) (ltb l (hook l)) is in
    absurd (apart (ltb-true l (hook l) parts.1) (eqb-true (hook (hook l)) l parts.0))
other_by hook l false is apart = cond-false (eqb (hook (hook l)) l && ltb l (hook l)) l (hook l) is

other : (hook : ℕ → ℕ) (l : ℕ) → (l < hook l → hook (hook l) ≢ l) → point hook l ≡ hook l
other hook l = other_by hook l (eqb (hook (hook l)) l && ltb l (hook l)) refl

-- In place: entries below `label` are pointers, and those from it on hooks.
pub record IsPointing (old now : List ℕ) (label : ℕ) : Type 0 where
  pub same_count : length now ≡ length old
  pub within : All (λ p. p < length old) now
  pub done : (l : ℕ) → l < label → slice_index now l ≡ point (slice_index old) l
  pub left : (l : ℕ) → label ≤ l → slice_index now l ≡ slice_index old l

pub pointing_none : (old : List ℕ) → All (λ p. p < length old) old → IsPointing old old 0
pointing_none old within = record {
  same_count = refl;
  within = within;
  done = λ l below. absurd (omega arith);
  left = λ l above. refl;
}

-- Where a hook leads to a greater label, that label's hook still stands there.
across : (old now : List ℕ) (label : ℕ) → IsPointing old now label → label < slice_index old label → slice_index now (slice_index now label) ≡ slice_index old (slice_index old label)
across old now label is less =
    let here : slice_index now label ≡ slice_index old label = is.left label (omega arith) in
    ap (slice_index now) here ∙ is.left (slice_index old label) (omega arith)

pub pointing_more : (old now : List ℕ) (label : ℕ) → label < length old → IsPointing old now label → label < slice_index now label → slice_index now (slice_index now label) ≡ label → IsPointing old (slice_set now label label) (label + 1)
pointing_more old now label h is less back =
    let inside : label < length now = omega (arith, is.same_count, h) in
    let here : slice_index now label ≡ slice_index old label = is.left label (omega arith) in
    let less_old : label < slice_index old label = omega (arith, here, less) in
    record {
      same_count = length-set now label label ∙ is.same_count;
      within = All-set (λ p. p < length old) now label label h is.within;
      done = below_more (λ l. slice_index (slice_set now label label) l ≡ point (slice_index old) l) label
          (λ l below. let apart : l ≢ label = omega arith in get_or-set_other now label l label 0 apart ∙ is.done l below)
          (get_or-set_same now label label 0 inside ∙ sym (lesser (slice_index old) label (sym (across old now label is less_old) ∙ back) less_old));
      left = λ l above. let apart : l ≢ label = omega arith in get_or-set_other now label l label 0 apart ∙ is.left l (omega arith);
    }

pub pointing_same : (old now : List ℕ) (label : ℕ) → IsPointing old now label → (label < slice_index now label → slice_index now (slice_index now label) ≢ label) → IsPointing old now (label + 1)
pointing_same old now label is apart =
    let here : slice_index now label ≡ slice_index old label = is.left label (omega arith) in
    record {
      same_count = is.same_count;
      within = is.within;
      done = below_more (λ l. slice_index now l ≡ point (slice_index old) l) label is.done
          (here ∙ sym (other (slice_index old) label
          (λ less back. apart (omega (arith, here, less)) (across old now label is less ∙ back))));
      left = λ l above. is.left l (omega arith);
    }
