-- The lines of a graph's vertices have no fault, each alone and all together.
use Rattle.std.proofs.Common.{◌≡◌, ◌≢◌, ℕ, zero, suc, ◌+◌, ◌-◌, ◌<◌, ◌≤◌, ◌==◌, leb, Some, None, List, [], ◌∷◌, length, map, take, get_or, refl, sym, ◌∙◌, subst, inl, inr, ⊎_elim, arith, All, AllPairs, Contains, IsPermutation}
use Rattle.std.proofs.lemmas.Bool.{cases_lt, cond-false, cond-true, le-leb, lt-leb}
use Rattle.std.proofs.lemmas.List.{get_or-take, length-take-le}
use Rattle.std.proofs.lemmas.List.Elements.{All-contains, All-contains_itself, All-head, All-tail, All-weaker}
use Rattle.std.proofs.lemmas.List.Kept.{AllPairs-filter}
use Rattle.std.proofs.lemmas.List.Sorted.{All-permutation, Contains-permutation, IsPermutation-map, IsPermutation-sym}
use Rattle.pg_base.specs.declared.edges.Edge.{Edge}
use Rattle.pg_base.specs.Graph.{Arc, Graph, IsEdge, IsGraph, arcs_of, arcs_from}
use Rattle.pg_base.proofs.ArcLemmas.{arc_is_within, arcs_from_leave, edge_of_arc}
use Rattle.pg_base.proofs.WalkLemmas.{arcs_of-turned, turned}
use Rattle.pg_base.proofs.Members.{contains_cases}
use Rattle.pg_text.specs.Text.{words}
use Rattle.pg_metis.specs.Content.{NumberedLine}
use Rattle.pg_metis.specs.File.{Format, Header, IsLineOf, line_arcs}
use Rattle.pg_metis.specs.Fault.{extra_fault, line_fault, lines_fault, named_arcs, vertex_fault}
use Rattle.pg_metis.specs.Pairing.{AreNamed, IsNamed}
use Rattle.pg_metis.proofs.LineFaults.{IsRow, row_line}
use Rattle.pg_metis.proofs.FaultLemmas.{are_named}
use Rattle.pg_metis.proofs.ListLemmas.{AllPairs-from_map, AllPairs-head, AllPairs-map, AllPairs-tail, differ_moved}
use Rattle.pg_metis.proofs.EdgeArcs.{Differ, SameArcs, arcs_differ, same_length}
use Rattle.pg_metis.proofs.LineParts.{line_part}
use Rattle.pg_metis.proofs.MirrorFaults.{ArePaired}
use Rattle.pg_metis.proofs.ContentLemmas.{lines_take}

edge_names : (n : ℕ) (edges : List Edge) → All (IsEdge n) edges → All (λ e. 1 ≤ e.w) edges → (a : Arc) → Contains (arcs_of edges) a → IsNamed n a
edge_names n edges within positive a c =
    let found = edge_of_arc edges a c in
    let e = found.0 in
    let is = All-contains (IsEdge n) edges e within found.1 in
    let first = is.first in
    let ascends = is.ascends in
    let last = is.last in
    let weight = All-contains (λ (x : Edge). 1 ≤ x.w) edges e positive found.1 in
    ⊎_elim
    (λ same. subst (IsNamed n) (sym same) (record { from_first = first; from_last = omega arith; to_first = omega arith; to_last = last; other = λ e. omega arith; weight = weight }))
    (λ same. subst (IsNamed n) (sym same) (record { from_first = omega arith; from_last = last; to_first = first; to_last = omega arith; other = λ e. omega arith; weight = weight }))
    found.2

row_from : (n v : ℕ) (earlier : List ℕ) (arcs : List Arc) → All (IsNamed n) arcs → All (λ a. a.from ≡ v) arcs → AllPairs (λ a b. a.to ≢ b.to) arcs → All (λ a. Contains earlier a.to → ⊥) arcs → IsRow n v earlier arcs
row_from n v earlier [] named leaves once new = tt
row_from n v earlier (a ∷ arcs) named leaves once new =
    let is : IsNamed n a = All-head (IsNamed n) a arcs named in
    let from : a.from ≡ v = All-head (λ a. a.from ≡ v) a arcs leaves in
    let later_new = All-tail (λ a. Contains earlier a.to → ⊥) a arcs new in
    let apart = AllPairs-head (λ a b. a.to ≢ b.to) a arcs once in
    let later = row_from n v (a.to ∷ earlier) arcs (All-tail (IsNamed n) a arcs named) (All-tail (λ a. a.from ≡ v) a arcs leaves) (AllPairs-tail (λ a b. a.to ≢ b.to) a arcs once) (λ k d within c. ⊎_elim (λ same. apart k d within same) (λ among. later_new k d within among) (contains_cases a.to earlier (get_or arcs k d).to c)) in (
      from,
      is.weight,
      record {
        first = is.to_first;
        last = is.to_last;
        other = λ same. is.other (same ∙ sym from);
        new = All-head (λ a. Contains earlier a.to → ⊥) a arcs new;
      },
      later,
    )

-- A line of a vertex of a graph names a row.
row_of_line : (format : Format) (g : Graph) (v : ℕ) (line : List ℕ) → IsGraph g → (is : IsLineOf format g v line) → IsRow g.n v [] is.arcs
row_of_line format g v line graph is =
    let part = arcs_from (arcs_of g.edges) v in
    let moved = IsPermutation-sym is.arcs part is.order in
    let leave : All (λ a. a.from ≡ v) part = All-weaker (Contains part) (λ a. a.from ≡ v) (λ a c. ((arcs_from_leave (arcs_of g.edges) v a).0 c).1) part (All-contains_itself part) in
    let named : All (IsNamed g.n) part = All-weaker (Contains part) (IsNamed g.n) (λ a c. edge_names g.n g.edges graph.within graph.positive a ((arcs_from_leave (arcs_of g.edges) v a).0 c).0) part (All-contains_itself part) in
    let differ = AllPairs-filter Differ (λ (a : Arc). a.from == v) (arcs_of g.edges) (arcs_differ g.n g.edges graph.within graph.ascending) in
    let once : AllPairs (λ a b. a.to ≢ b.to) part = λ i j d below within. differ i j d below within (leave i d (omega arith) ∙ sym (leave j d within)) in
    let targets = AllPairs-map (λ (x y : ℕ). x ≢ y) (λ (a : Arc). a.to) part once in
    let targets_moved = differ_moved (map (λ (a : Arc). a.to) part) (map (λ (a : Arc). a.to) is.arcs) (IsPermutation-map (λ (a : Arc). a.to) part is.arcs moved) targets in
    row_from g.n v [] is.arcs (All-permutation (IsNamed g.n) part is.arcs moved named) (All-permutation (λ a. a.from ≡ v) part is.arcs moved leave) (AllPairs-from_map (λ (x y : ℕ). x ≢ y) (λ (a : Arc). a.to) is.arcs targets_moved) (λ k d within c. absurd (omega (arith, c.1)))

-- The header of a file of this graph in this format.
abbrev pub heading : Format → Graph → Header
heading format g = record { n = g.n; m = length g.edges; format = format }

-- These lines are those of the graph's vertices, and more lines have no word.
pub record AreLinesOf (format : Format) (g : Graph) (rows : List NumberedLine) : Type 0 where
  pub graph : IsGraph g
  pub enough : g.n ≤ length rows
  pub each : (i : ℕ) (d : NumberedLine) → i < g.n → IsLineOf format g (i + 1) (get_or rows i d).bytes
  pub nothing_after : (i : ℕ) (d : NumberedLine) → g.n ≤ i → i < length rows → words (get_or rows i d).bytes ≡ []

lines_pass : (header : Header) (v : ℕ) (rows : List NumberedLine) → ((i : ℕ) (d : NumberedLine) (w : ℕ) → i < length rows → w ≡ v + i → line_fault header w (words (get_or rows i d).bytes) ≡ None) → lines_fault header v rows ≡ None
lines_pass header v [] each = refl
lines_pass header v (line ∷ rest) each =
    let here : line_fault header v (words line.bytes) ≡ None = each zero line v (omega arith) (omega arith) in
    let later = lines_pass header (v + 1) rest (λ i d w within is. each (suc i) d w (omega arith) (omega arith)) in
    rw (here, later) refl

line_passes : (format : Format) (g : Graph) (rows : List NumberedLine) → AreLinesOf format g rows → (i : ℕ) (d : NumberedLine) (w : ℕ) → i < length rows → w ≡ 1 + i → line_fault (heading format g) w (words (get_or rows i d).bytes) ≡ None
line_passes format g rows are i d w within is = elim (cases_lt g.n w) [
  | inl past ↦ cond-false (leb w g.n) _ (extra_fault (words (get_or rows i d).bytes)) (lt-leb w g.n past) ∙ (rw (are.nothing_after i d (omega arith) within) refl)
  | inr here ↦ cond-true (leb w g.n) (vertex_fault (heading format g) w (words (get_or rows i d).bytes)) _ (le-leb w g.n here) ∙
      (let same : i + 1 ≡ w = omega arith in
      let line = subst (λ (x : ℕ). IsLineOf format g x (get_or rows i d).bytes) same (are.each i d (omega arith)) in
      row_line (heading format g) w (get_or rows i d).bytes line.arcs line.named (row_of_line format g w (get_or rows i d).bytes are.graph line))
]

pub graph_lines_pass : (format : Format) (g : Graph) (rows : List NumberedLine) → AreLinesOf format g rows → lines_fault (heading format g) 1 rows ≡ None
graph_lines_pass format g rows are = lines_pass (heading format g) 1 rows (line_passes format g rows are)

named_part : (format : Format) (g : Graph) (rows : List NumberedLine) → AreLinesOf format g rows → (v : ℕ) → 1 ≤ v → v ≤ g.n → IsPermutation (arcs_from (named_arcs format 1 (take g.n rows)) v) (arcs_from (arcs_of g.edges) v)
named_part format g rows are v first last =
    let enough = are.enough in
    let none = lines_take (heading format g) 1 g.n rows (graph_lines_pass format g rows are) in
    let long = length-take-le g.n rows enough in
    let d : NumberedLine = record { number = 0; bytes = [] } in
    let part = line_part (heading format g) 1 (take g.n rows) (omega arith) (omega arith) none (v - 1) d v (omega arith) (omega arith) in
    let taken = get_or-take g.n rows (v - 1) d (omega arith) in
    let same : (v - 1) + 1 ≡ v = omega arith in
    let line = subst (λ (x : ℕ). IsLineOf format g x (get_or rows (v - 1) d).bytes) same (are.each (v - 1) d (omega arith)) in
    let named : line_arcs format v (get_or rows (v - 1) d).bytes ≡ Some (arcs_from (named_arcs format 1 (take g.n rows)) v) = subst (λ (l : NumberedLine). line_arcs format v l.bytes ≡ Some (arcs_from (named_arcs format 1 (take g.n rows)) v)) taken part in
    same_order (arcs_from (named_arcs format 1 (take g.n rows)) v) (arcs_from (arcs_of g.edges) v) line.arcs (some_same (sym line.named ∙ named)) line.order
  where
    some_same : {xs ys : List Arc} → Some xs ≡ Some ys → xs ≡ ys
    some_same e = cc

    same_order : (xs ys zs : List Arc) → zs ≡ xs → IsPermutation zs ys → IsPermutation xs ys
    same_order xs ys zs e moved = subst (λ (l : List Arc). IsPermutation l ys) e moved

-- The lines name the arcs of the graph and no others.
graph_arcs : (format : Format) (g : Graph) (rows : List NumberedLine) → AreLinesOf format g rows → AreNamed g.n (named_arcs format 1 (take g.n rows)) → SameArcs (named_arcs format 1 (take g.n rows)) (arcs_of g.edges)
graph_arcs format g rows are names = record {
  there = λ a c.
      (let is = All-contains (IsNamed g.n) arcs a names.within c in
      let moved = named_part format g rows are a.from is.from_first is.from_last in
      ((arcs_from_leave (arcs_of g.edges) a.from a).0 (Contains-permutation (arcs_from arcs a.from) (arcs_from (arcs_of g.edges) a.from) a moved ((arcs_from_leave arcs a.from a).1 (c, refl)))).0);
  back = λ a c.
      (let ends = arc_is_within g are.graph a c in
      let moved = named_part format g rows are a.from ends.0 ends.1 in
      ((arcs_from_leave arcs a.from a).0 (Contains-permutation (arcs_from (arcs_of g.edges) a.from) (arcs_from arcs a.from) a (IsPermutation-sym (arcs_from arcs a.from) (arcs_from (arcs_of g.edges) a.from) moved) ((arcs_from_leave (arcs_of g.edges) a.from a).1 (c, refl)))).0);
}
  where
    arcs : List Arc
    arcs = named_arcs format 1 (take g.n rows)

pub graph_lines_paired : (format : Format) (g : Graph) (rows : List NumberedLine) → AreLinesOf format g rows → ArePaired (length g.edges) (named_arcs format 1 (take g.n rows))
graph_lines_paired format g rows are =
    let names = are_named (heading format g) (take g.n rows) (lines_take (heading format g) 1 g.n rows (graph_lines_pass format g rows are)) (length-take-le g.n rows are.enough) in
    let same = graph_arcs format g rows are names in
    let graph = are.graph in
    record {
      count = same_length g.n (named_arcs format 1 (take g.n rows)) g.edges names graph.within graph.ascending same;
      mirrored = λ a c. same.back (turned a) (arcs_of-turned g.edges a (same.there a c));
    }
