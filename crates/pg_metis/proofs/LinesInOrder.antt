-- A text is a file of a graph where each of its lines is that of its vertex.
use Rattle.std.proofs.Common.{◌≡◌, ℕ, zero, suc, ◌+◌, ◌<◌, ◌≤◌, Some, List, [], ◌∷◌, length, get_or, subst, sym, arith, All}
use Rattle.std.specs.Prelude.{⊤}
use Rattle.std.proofs.lemmas.List.{drop_all}
use Rattle.std.proofs.lemmas.List.Elements.{All-nil}
use Rattle.std.proofs.lemmas.List.Sorted.{IsPermutation-refl}
use Rattle.pg_base.specs.Graph.{Graph, IsGraph, arcs_of, arcs_from}
use Rattle.pg_text.specs.Text.{words}
use Rattle.pg_metis.specs.declared.TheConstants.{MAX_FILE_BYTES}
use Rattle.pg_metis.specs.File.{FileOf, Format, IsLineOf, content_lines, header_of, line_arcs}

pub line_in_order : (format : Format) (g : Graph) (v : ℕ) (line : List ℕ) → line_arcs format v line ≡ Some (arcs_from (arcs_of g.edges) v) → IsLineOf format g v line
line_in_order format g v line named =
    record { arcs = arcs_from (arcs_of g.edges) v; named = named; order = IsPermutation-refl (arcs_from (arcs_of g.edges) v) }

-- Lines of the vertices from v on.
abbrev pub AreLines : Format → Graph → ℕ → List (List ℕ) → Type 0
AreLines format g v [] = ⊤
AreLines format g v (line ∷ rest) = IsLineOf format g v line × AreLines format g (v + 1) rest

line_at : (format : Format) (g : Graph) (v : ℕ) (rest : List (List ℕ)) → AreLines format g v rest → (i w : ℕ) → i < length rest → w ≡ v + i → IsLineOf format g w (get_or rest i [])
line_at format g v [] are i w within is = absurd (omega arith)
line_at format g v (line ∷ rest) are zero w within is = let same : v ≡ w = omega arith in subst (λ (x : ℕ). IsLineOf format g x line) same are.0
line_at format g v (line ∷ rest) are (suc i) w within is = line_at format g (v + 1) rest are.1 i w (omega arith) (omega arith)

pub file_of_lines : (text : List ℕ) (g : Graph) (format : Format) (header : List ℕ) (rest : List (List ℕ)) → length text ≤ MAX_FILE_BYTES → IsGraph g → content_lines text ≡ header ∷ rest → header_of (words header) ≡ Some (record { n = g.n; m = length g.edges; format = format }) → length rest ≡ g.n → AreLines format g 1 rest → FileOf text g
file_of_lines text g format header rest small graph content counts long are = record {
  small = small;
  graph = graph;
  header = header;
  rest = rest;
  content = content;
  format = format;
  counts = counts;
  enough = omega arith;
  each = λ i within. line_at format g 1 rest are i (i + 1) (omega arith) (omega arith);
  nothing_after = subst (All (λ line. words line ≡ [])) (sym (drop_all g.n rest (omega arith))) (All-nil (λ line. words line ≡ []));
}
