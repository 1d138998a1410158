-- Of the arcs that lines without a fault name, those that leave a vertex are the arcs of its line.
use Rattle.std.proofs.Common.{◌≡◌, ℕ, zero, suc, ◌+◌, ◌<◌, ◌≤◌, ◌==◌, Bool, true, false, Option, Some, None, List, [], ◌∷◌, ◌++◌, length, filter, get_or, refl, sym, ◌∙◌, ap, subst, arith, All, append-nil}
use Rattle.std.proofs.lemmas.Bool.{eq-eqb, ne_eqb}
use Rattle.std.proofs.lemmas.List.Elements.{All-head, All-tail, All-weaker, filter-append}
use Rattle.pg_base.specs.Graph.{Arc, arcs_from}
use Rattle.pg_metis.specs.Content.{NumberedLine}
use Rattle.pg_metis.specs.File.{Header, line_arcs}
use Rattle.pg_metis.specs.Fault.{arcs_or_none, lines_fault, named_arcs}
use Rattle.pg_metis.proofs.LineFaults.{line_row}
use Rattle.pg_metis.proofs.FaultLemmas.{first_line, named_lines, row_leaves}

module _ {X : Type 0} (p : X → Bool) where
  filter_all : (xs : List X) → All (λ x. p x ≡ true) xs → filter p xs ≡ xs
  filter_all [] all = refl
  filter_all (x ∷ xs) all =
      let here : p x ≡ true = All-head (λ x. p x ≡ true) x xs all in
      let rest = filter_all xs (All-tail (λ x. p x ≡ true) x xs all) in
      rw (here, rest) refl

  filter_none : (xs : List X) → All (λ x. p x ≡ false) xs → filter p xs ≡ []
  filter_none [] all = refl
  filter_none (x ∷ xs) all =
      let here : p x ≡ false = All-head (λ x. p x ≡ false) x xs all in
      let rest = filter_none xs (All-tail (λ x. p x ≡ false) x xs all) in
      rw (here, rest) refl

-- The arcs of v stand first.
from_first : (v : ℕ) (row later : List Arc) → All (λ a. a.from ≡ v) row → All (λ a. v + 1 ≤ a.from) later → arcs_from (row ++ later) v ≡ row
from_first v row later here after =
    let split = filter-append (λ (a : Arc). a.from == v) row later in
    let first = filter_all (λ (a : Arc). a.from == v) row (All-weaker (λ a. a.from ≡ v) (λ a. (a.from == v) ≡ true) (λ a same. eq-eqb a.from v same) row here) in
    let second = filter_none (λ (a : Arc). a.from == v) later (All-weaker (λ a. v + 1 ≤ a.from) (λ a. (a.from == v) ≡ false) (λ a more. ne_eqb a.from v (λ same. omega arith)) later after) in
    split ∙ (rw (first, second) (append-nil row))

from_later : (v w : ℕ) (row later : List Arc) → v < w → All (λ a. a.from ≡ v) row → arcs_from (row ++ later) w ≡ arcs_from later w
from_later v w row later below here =
    let split = filter-append (λ (a : Arc). a.from == w) row later in
    let first = filter_none (λ (a : Arc). a.from == w) row (All-weaker (λ a. a.from ≡ v) (λ a. (a.from == w) ≡ false) (λ a same. ne_eqb a.from w (λ other. omega arith)) row here) in
    split ∙ (rw first refl)

-- The line at place i of those from vertex v on.
pub line_part : (header : Header) (v : ℕ) (rows : List NumberedLine) → 1 ≤ v → v + length rows ≤ header.n + 1 → lines_fault header v rows ≡ None → (i : ℕ) (d : NumberedLine) (w : ℕ) → i < length rows → w ≡ v + i → line_arcs header.format w (get_or rows i d).bytes ≡ Some (arcs_from (named_arcs header.format v rows) w)
line_part header v [] first enough none i d w within is = absurd (omega arith)
line_part header v (line ∷ rest) first enough none zero d w within is =
    let same : v ≡ w = omega arith in
    let parts = first_line header v line rest (omega arith) none in
    let row = line_row header v line.bytes parts.0 in
    let later = named_lines header (v + 1) rest (omega arith) (omega arith) parts.1 in
    let arcs = from_first v row.0 (named_arcs header.format (v + 1) rest) (row_leaves header.n v [] row.0 row.2) later.from in
    subst (λ (x : ℕ). line_arcs header.format x line.bytes ≡ Some (arcs_from (named_arcs header.format v (line ∷ rest)) x)) same
    (subst (λ (o : Option (List Arc)). o ≡ Some (arcs_from (arcs_or_none o ++ named_arcs header.format (v + 1) rest) v)) (sym row.1) (ap Some (sym arcs)))
line_part header v (line ∷ rest) first enough none (suc i) d w within is =
    let parts = first_line header v line rest (omega arith) none in
    let row = line_row header v line.bytes parts.0 in
    let later = line_part header (v + 1) rest (omega arith) (omega arith) parts.1 i d w (omega arith) (omega arith) in
    let arcs = from_later v w row.0 (named_arcs header.format (v + 1) rest) (omega arith) (row_leaves header.n v [] row.0 row.2) in
    later ∙ subst (λ (o : Option (List Arc)). Some (arcs_from (named_arcs header.format (v + 1) rest) w) ≡ Some (arcs_from (arcs_or_none o ++ named_arcs header.format (v + 1) rest) w)) (sym row.1) (ap Some (sym arcs))
