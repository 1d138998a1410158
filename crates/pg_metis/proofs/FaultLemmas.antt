-- Lines without a fault name arcs line after line, each line other neighbours, all within the vertices.
pub use Rattle.pg_metis.proofs.HeaderFaults.{header_known, header_within}
pub use Rattle.pg_metis.proofs.LineFaults.{line_row}
use Rattle.std.proofs.Common.{◌≡◌, ◌≢◌, ℕ, ◌+◌, ◌≤◌, leb, Option, Some, None, List, [], ◌∷◌, ◌++◌, length, refl, sym, ◌∙◌, subst, arith, All, AllPairs, Contains}
use Rattle.std.proofs.lemmas.Bool.{cond-true, le-leb}
use Rattle.std.proofs.lemmas.List.Elements.{All-append, All-cons, All-contains, All-nil, All-weaker}
use Rattle.pg_base.specs.Graph.{Arc}
use Rattle.pg_base.proofs.Members.{AllPairs-cons, contains_later}
use Rattle.pg_text.specs.Text.{words}
use Rattle.pg_metis.specs.declared.faults.Kind.{Kind}
use Rattle.pg_metis.specs.Content.{NumberedLine}
use Rattle.pg_metis.specs.File.{Header}
use Rattle.pg_metis.specs.Fault.{arcs_or_none, at_line, extra_fault, line_fault, lines_fault, named_arcs, vertex_fault}
use Rattle.pg_metis.specs.Pairing.{AreNamed, IsNamed}
use Rattle.pg_metis.proofs.HeaderFaults.{none_parts}
use Rattle.pg_metis.proofs.LineFaults.{IsRow}
use Rattle.pg_metis.proofs.ListLemmas.{AllPairs-append, AllPairs-nil}

pub row_within : (n v : ℕ) (earlier : List ℕ) (arcs : List Arc) → 1 ≤ v → v ≤ n → IsRow n v earlier arcs → All (IsNamed n) arcs
row_within n v earlier [] first last row = All-nil (IsNamed n)
row_within n v earlier (a ∷ arcs) first last row =
    let from = row.0 in
    let is = row.2 in
    let named : IsNamed n a = record {
      from_first = omega arith;
      from_last = omega arith;
      to_first = is.first;
      to_last = is.last;
      other = λ same. is.other (same ∙ from);
      weight = row.1;
    } in
    All-cons (IsNamed n) a arcs named (row_within n v (a.to ∷ earlier) arcs first last row.3)

pub row_leaves : (n v : ℕ) (earlier : List ℕ) (arcs : List Arc) → IsRow n v earlier arcs → All (λ a. a.from ≡ v) arcs
row_leaves n v earlier [] row = All-nil (λ a. a.from ≡ v)
row_leaves n v earlier (a ∷ arcs) row = All-cons (λ a. a.from ≡ v) a arcs row.0 (row_leaves n v (a.to ∷ earlier) arcs row.3)

row_new : (n v : ℕ) (earlier : List ℕ) (arcs : List Arc) → IsRow n v earlier arcs → All (λ a. Contains earlier a.to → ⊥) arcs
row_new n v earlier [] row = All-nil (λ a. Contains earlier a.to → ⊥)
row_new n v earlier (a ∷ arcs) row =
    let later = row_new n v (a.to ∷ earlier) arcs row.3 in
    let new = row.2.new in
    All-cons (λ b. Contains earlier b.to → ⊥) a arcs new
    (All-weaker (λ b. Contains (a.to ∷ earlier) b.to → ⊥) (λ b. Contains earlier b.to → ⊥) (λ b out c. out (contains_later a.to earlier b.to c)) arcs later)

pub row_once : (n v : ℕ) (earlier : List ℕ) (arcs : List Arc) → IsRow n v earlier arcs → AllPairs (λ a b. a.to ≢ b.to) arcs
row_once n v earlier [] row = AllPairs-nil (λ a b. a.to ≢ b.to)
row_once n v earlier (a ∷ arcs) row =
    let later = row_new n v (a.to ∷ earlier) arcs row.3 in
    AllPairs-cons (λ a b. a.to ≢ b.to) a arcs
    (All-weaker (λ b. Contains (a.to ∷ earlier) b.to → ⊥) (λ b. a.to ≢ b.to) (λ b out same. out (0, omega arith, same)) arcs later)
    (row_once n v (a.to ∷ earlier) arcs row.3)

pub no_line_fault : (line : ℕ) (o : Option Kind) → at_line line o ≡ None → o ≡ None
no_line_fault line None e = refl
no_line_fault line (Some kind) e = cc

-- No fault in the line of a vertex, and none in the lines after it.
pub first_line : (header : Header) (v : ℕ) (line : NumberedLine) (rest : List NumberedLine) → v ≤ header.n → lines_fault header v (line ∷ rest) ≡ None → (vertex_fault header v (words line.bytes) ≡ None) × (lines_fault header (v + 1) rest ≡ None)
first_line header v line rest last none =
    let parts = none_parts (at_line line.number (line_fault header v (words line.bytes))) _ none in
    let here = no_line_fault line.number (line_fault header v (words line.bytes)) parts.0 in
    (sym (cond-true (leb v header.n) (vertex_fault header v (words line.bytes)) (extra_fault (words line.bytes)) (le-leb v header.n last)) ∙ here, parts.1)

-- Arcs of vertices from v on.
pub record NamedFrom (n v : ℕ) (arcs : List Arc) : Type 0 where
  pub named : AreNamed n arcs
  pub from : All (λ a. v ≤ a.from) arcs

-- A row before the arcs of later vertices.
row_before : (n v : ℕ) (row later : List Arc) → 1 ≤ v → v ≤ n → IsRow n v [] row → NamedFrom n (v + 1) later → NamedFrom n v (row ++ later)
row_before n v row later first last is rest =
    let leaves = row_leaves n v [] row is in
    let named = rest.named in
    let from_row : (a : Arc) → Contains row a → a.from ≡ v = λ a c. All-contains (λ a. a.from ≡ v) row a leaves c in
    let from_later : (a : Arc) → Contains later a → v + 1 ≤ a.from = λ a c. All-contains (λ a. v + 1 ≤ a.from) later a rest.from c in
    record {
      named = record {
        within = All-append (IsNamed n) row later (row_within n v [] row first last is) named.within;
        ascending = AllPairs-append (λ a b. a.from ≤ b.from) row later (λ i j d below within. let p = leaves i d (omega arith) in let q = leaves j d within in omega arith) named.ascending (λ a b c d. let p = from_row a c in let q = from_later b d in omega arith);
        once = AllPairs-append (λ a b. a.from ≡ b.from → a.to ≢ b.to) row later (λ i j d below within same. row_once n v [] row is i j d below within) named.once (λ a b c d same. let p = from_row a c in let q = from_later b d in absurd (omega arith));
      };
      from = All-append (λ a. v ≤ a.from) row later (All-weaker (λ a. a.from ≡ v) (λ a. v ≤ a.from) (λ a same. omega arith) row leaves) (All-weaker (λ a. v + 1 ≤ a.from) (λ a. v ≤ a.from) (λ a more. omega arith) later rest.from);
    }

pub named_lines : (header : Header) (v : ℕ) (rows : List NumberedLine) → 1 ≤ v → v + length rows ≤ header.n + 1 → lines_fault header v rows ≡ None → NamedFrom header.n v (named_arcs header.format v rows)
named_lines header v [] first enough none = record {
  named = record { within = All-nil (IsNamed header.n); ascending = AllPairs-nil (λ a b. a.from ≤ b.from); once = AllPairs-nil (λ a b. a.from ≡ b.from → a.to ≢ b.to) };
  from = All-nil (λ a. v ≤ a.from);
}
named_lines header v (line ∷ rest) first enough none =
    let parts = first_line header v line rest (omega arith) none in
    let row = line_row header v line.bytes parts.0 in
    let later = named_lines header (v + 1) rest (omega arith) (omega arith) parts.1 in
    subst (λ (o : Option (List Arc)). NamedFrom header.n v (arcs_or_none o ++ named_arcs header.format (v + 1) rest)) (sym row.1) (row_before header.n v row.0 (named_arcs header.format (v + 1) rest) first (omega arith) row.2 later)

pub are_named : (header : Header) (rows : List NumberedLine) → lines_fault header 1 rows ≡ None → length rows ≡ header.n → AreNamed header.n (named_arcs header.format 1 rows)
are_named header rows none long = (named_lines header 1 rows (omega arith) (omega arith) none).named
