-- What a run prints.
-- Source: Cormen, Leiserson, Rivest and Stein, Introduction to Algorithms, chapters 21.1 (components), 22.2 and 24 (least distances)
-- and 23 (spanning trees); Diestel, Graph Theory, chapter 5 (colours).
use Rattle.std.specs.Prelude.{◌≡◌, ℕ, ◌+◌, ◌<◌, ◌≤◌, Bool, true, false, Option, Some, None, List, length, map, slice_index_or, All}
use Rattle.pg_base.specs.declared.edges.Edge.{Edge}
use Rattle.pg_base.specs.Graph.{Graph, arcs_of}
use Rattle.pg_base.specs.Colouring.{AreProper, IsFirstFit, colour_in}
use Rattle.pg_base.specs.Forest.{IsForest, Spans, total_weight}
use Rattle.pg_base.specs.Walk.{LeastWeight, IsLowest}
use Rattle.pg_base.specs.Distances.{AreLeastArcs}
use Rattle.pg_make.specs.declared.TheConstants.{MAX_GRID_WEIGHT}
use Rattle.pg_print.specs.Columns.{column_text}
use Rattle.pg_print.specs.Forests.{forest_text}
use Rattle.pg_print.specs.Summaries.{summary_text}
use Rattle.pg_words.specs.Plan.{Meaning}
use Rattle.pg_words.specs.declared.plans.Algorithm.{Algorithm}
use Rattle.pg_words.specs.declared.plans.Algorithm.TheVariants.{Bfs, Sssp, Components, Forest, Colour, Grid}
use Rattle.pg_top.specs.Summary.{summary_of}

-- Place v - 1 holds the least weight of a walk from s to v.
pub record AreLeastWeights (g : Graph) (s : ℕ) (distances : List (Option ℕ)) : Type 0 where
  pub count : length distances ≡ g.n
  pub each : (v : ℕ) → v < g.n → LeastWeight (arcs_of g.edges) s (v + 1) (slice_index_or distances v None)

-- This number is there, and is the least vertex from which a walk leads to v.
abbrev pub IsRootOf : Graph → ℕ → Option ℕ → Type 0
IsRootOf g v None = ⊥
IsRootOf g v (Some u) = IsLowest (arcs_of g.edges) v u

-- Place v - 1 holds the least vertex of the component of v.
pub record AreLowest (g : Graph) (roots : List (Option ℕ)) : Type 0 where
  pub count : length roots ≡ g.n
  pub each : (v : ℕ) → v < g.n → IsRootOf g (v + 1) (slice_index_or roots v None)

-- These are the edges of the least spanning forest, ascending. They span, and no edges that span weigh less.
pub record IsLeastForest (g : Graph) (tree : List Edge) : Type 0 where
  pub forest : IsForest g.edges tree
  pub spans : Spans g.edges tree
  pub least : (other : List Edge) → Spans g.edges other → total_weight tree ≤ total_weight other

-- One colour for each vertex: they are proper, and those of first fit where one rank found them.
pub record AreColours (ranks : ℕ) (g : Graph) (colours : List ℕ) : Type 0 where
  pub proper : AreProper g colours
  pub first_fit : ranks ≡ 1 → IsFirstFit g (colour_in colours)

-- What the algorithm answers for each vertex, where it counts from this source.
abbrev pub AreAnswersOf : Algorithm → ℕ → Graph → List (Option ℕ) → Type 0
AreAnswersOf Bfs source g answers = AreLeastArcs g source answers
AreAnswersOf Sssp source g answers = AreLeastWeights g source answers
AreAnswersOf Components source g answers = AreLowest g answers
AreAnswersOf _ source g answers = ⊥

-- Whether the algorithm's answers count from a source.
abbrev pub has_source : Algorithm → Bool
has_source Bfs = true
has_source Sssp = true
has_source _ = false

-- Where the algorithm has a source, it is a vertex of the graph.
pub record IsInside (a : Algorithm) (source n : ℕ) : Type 0 where
  pub first : has_source a ≡ true → 1 ≤ source
  pub last : has_source a ≡ true → source ≤ n

-- A line for each vertex, with what the algorithm answers for it.
pub record IsColumnText (a : Algorithm) (source : ℕ) (g : Graph) (text : List ℕ) : Type 0 where
  pub inside : IsInside a source g.n
  pub answers : List (Option ℕ)
  pub right : AreAnswersOf a source g answers
  pub spelled : text ≡ column_text answers

-- The lines of the least spanning forest.
pub record IsForestText (g : Graph) (text : List ℕ) : Type 0 where
  pub tree : List Edge
  pub right : IsLeastForest g tree
  pub spelled : text ≡ forest_text tree

-- A line for each vertex, with its colour.
pub record IsColourText (ranks : ℕ) (g : Graph) (text : List ℕ) : Type 0 where
  pub colours : List ℕ
  pub right : AreColours ranks g colours
  pub spelled : text ≡ column_text (map Some colours)

-- A graph with a vertex, whose edges weigh no more than those of a grid.
pub record IsSmallGrid (g : Graph) : Type 0 where
  pub some : 1 ≤ g.n
  pub light : All (λ e. e.w ≤ MAX_GRID_WEIGHT) g.edges

-- The summary of what all algorithms answer, from vertex 1. No edge has ends of one colour.
pub record IsSummaryText (g : Graph) (text : List ℕ) : Type 0 where
  pub hops : List (Option ℕ)
  pub weights : List (Option ℕ)
  pub roots : List (Option ℕ)
  pub tree : List Edge
  pub least_arcs : AreLeastArcs g 1 hops
  pub least_weights : AreLeastWeights g 1 weights
  pub lowest : AreLowest g roots
  pub forest : IsLeastForest g tree
  pub spelled : text ≡ summary_text (summary_of g hops weights roots tree 0)

-- The text is what the algorithm says of the graph, on so many ranks and from this source.
abbrev pub IsAnswerText : Algorithm → ℕ → ℕ → Graph → List ℕ → Type 0
IsAnswerText Forest ranks source g text = IsForestText g text
IsAnswerText Colour ranks source g text = IsColourText ranks g text
IsAnswerText Grid ranks source g text = IsSummaryText g text
IsAnswerText a ranks source g text = IsColumnText a source g text

-- The text is what the plan's algorithm says of the graph.
abbrev pub IsTextOf : Meaning → Graph → List ℕ → Type 0
IsTextOf plan g text = IsAnswerText plan.algorithm plan.ranks plan.source g text
