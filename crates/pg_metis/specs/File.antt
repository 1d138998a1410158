-- Which graph a METIS graph file is of.
-- Source: METIS 5.1 manual, section 4.1.1, in the profile of docs/FORMAT.md.
use Rattle.std.specs.Prelude.{◌≡◌, ℕ, ◌+◌, ◌<◌, ◌≤◌, max, Bool, ◌&&◌, ◌||◌, ◌==◌, nat_lt, not, if◌then◌else◌, Option, Some, None, option_and_then, List, [], ◌∷◌, length, filter, map, drop, slice_index_or, All, IsPermutation}
use Rattle.std.specs.Option.{option_map}
use Rattle.pg_base.specs.Graph.{Graph, IsGraph, Arc, arcs_of, arcs_from}
use Rattle.pg_metis.specs.declared.TheConstants.{MAX_FILE_BYTES}
use Rattle.pg_text.specs.Text.{lines, words, is_comment, number, numbers}

-- What the lines of the vertices hold beside neighbours: a size each, how many weights each, and whether
-- each neighbour's edge has its weight.
pub record Format : Type 0 where
  pub sizes : Bool
  pub vertex_weights : ℕ
  pub edge_weights : Bool

pub record Header : Type 0 where
  pub n : ℕ
  pub m : ℕ
  pub format : Format

-- The marks of sizes, vertex weights and edge weights.
pub record Marks : Type 0 where
  pub sizes : Bool
  pub vertices : Bool
  pub edges : Bool

abbrev pub is_mark : ℕ → Bool
is_mark digit = digit == 48 || digit == 49

abbrev pub marks_if : ℕ → ℕ → ℕ → Option Marks
marks_if a b c = if is_mark a && is_mark b && is_mark c then Some (record { sizes = a == 49; vertices = b == 49; edges = c == 49 }) else None

-- One to three digits 0 or 1, filled up with zeros on the left.
abbrev pub marks_of : List ℕ → Option Marks
marks_of (c ∷ []) = marks_if 48 48 c
marks_of (b ∷ c ∷ []) = marks_if 48 b c
marks_of (a ∷ b ∷ c ∷ []) = marks_if a b c
marks_of _ = None

-- The format of these marks, with ncon weights for each vertex where they are marked. An ncon of 0 counts as 1.
abbrev pub format_of : Marks → ℕ → Format
format_of marks ncon = record { sizes = marks.sizes; vertex_weights = (if marks.vertices then max ncon 1 else 0); edge_weights = marks.edges }

abbrev pub header_with : Option ℕ → Option ℕ → Option Marks → Option ℕ → Option Header
header_with (Some n) (Some m) (Some marks) (Some ncon) = Some (record { n = n; m = m; format = format_of marks ncon })
header_with _ _ _ _ = None

-- n, m, the format's digits (000 where they are missing) and ncon (1 where it is missing).
unfoldable pub header_of : List (List ℕ) → Option Header
header_of (n ∷ m ∷ []) = header_with (number n) (number m) (marks_of (48 ∷ [])) (Some 1)
header_of (n ∷ m ∷ fmt ∷ []) = header_with (number n) (number m) (marks_of fmt) (Some 1)
header_of (n ∷ m ∷ fmt ∷ ncon ∷ []) = header_with (number n) (number m) (marks_of fmt) (number ncon)
header_of _ = None

-- How many numbers stand before the neighbours.
abbrev pub leading : Format → ℕ
leading format = (if format.sizes then 1 else 0) + format.vertex_weights

-- Arcs from v, each neighbour followed by its edge's weight.
abbrev pub weighted_arcs : ℕ → List ℕ → Option (List Arc)
weighted_arcs v [] = Some []
weighted_arcs v (to ∷ []) = None
weighted_arcs v (to ∷ weight ∷ rest) = option_map (λ arcs. record { from = v; to = to; weight = weight } ∷ arcs) (weighted_arcs v rest)

abbrev pub plain_arc : ℕ → ℕ → Arc
plain_arc v to = record { from = v; to = to; weight = 1 }

abbrev pub arcs_in : Format → ℕ → List ℕ → Option (List Arc)
arcs_in format v neighbours = if format.edge_weights then weighted_arcs v neighbours else Some (map (plain_arc v) neighbours)

-- The arcs from v that its line names.
unfoldable pub line_arcs : Format → ℕ → List ℕ → Option (List Arc)
line_arcs format v line = option_and_then (λ given. if nat_lt (length given) (leading format) then None else arcs_in format v (drop (leading format) given)) (numbers (words line))

-- The line names each arc of the graph from v once, in any order, and no other.
pub record IsLineOf (format : Format) (g : Graph) (v : ℕ) (line : List ℕ) : Type 0 where
  pub arcs : List Arc
  pub named : line_arcs format v line ≡ Some arcs
  pub order : IsPermutation arcs (arcs_from (arcs_of g.edges) v)

abbrev pub content_lines : List ℕ → List (List ℕ)
content_lines text = filter (λ line. not (is_comment line)) (lines text)

-- The text is a graph file of this graph.
pub record FileOf (text : List ℕ) (g : Graph) : Type 0 where
  pub small : length text ≤ MAX_FILE_BYTES
  pub graph : IsGraph g
  pub header : List ℕ
  pub rest : List (List ℕ)
  pub content : content_lines text ≡ header ∷ rest
  pub format : Format
  pub counts : header_of (words header) ≡ Some (record { n = g.n; m = length g.edges; format = format })
  pub enough : g.n ≤ length rest
  pub each : (i : ℕ) → i < g.n → IsLineOf format g (i + 1) (slice_index_or rest i [])
  pub nothing_after : All (λ line. words line ≡ []) (drop g.n rest)
