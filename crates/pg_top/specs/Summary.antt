-- The numbers of a summary, counted from the answers of the algorithms. The answer of vertex v stands at place v - 1; an absent
-- one counts as 0.
use Rattle.std.specs.Prelude.{ℕ, ◌-◌, ◌==◌, Option, None, is_some, unwrap_or, max, List, length, count_by, sum_by, slice_index_or}
use Rattle.std.specs.List.{fold, range_with_len}
use Rattle.pg_base.specs.declared.edges.Edge.{Edge}
use Rattle.pg_base.specs.Forest.{total_weight}
use Rattle.pg_base.specs.Graph.{Graph}
use Rattle.pg_print.specs.declared.summaries.Summary.{Summary}
use Rattle.pg_print.specs.declared.summaries.Tally.{Tally}

abbrev pub number_in : Option ℕ → ℕ
number_in answer = unwrap_or answer 0

-- No distance on a grid is greater: fewer than 1,048,576 arcs, each of a weight of at most 4,096.
abbrev pub max_distance : ℕ
max_distance = 4294967296

-- The greatest number of them, 0 where there is none.
abbrev pub greatest : List (Option ℕ) → ℕ
greatest answers = fold (λ most a. max most (number_in a)) 0 answers

-- Of the vertices that a walk joins to the first one: how many there are, the greatest and the sum of their distances.
abbrev pub tally_of : List (Option ℕ) → Tally
tally_of distances = record {
  count = count_by is_some distances;
  far = greatest distances;
  sum = sum_by number_in distances;
}

-- The number of vertex v.
abbrev pub number_of : List (Option ℕ) → ℕ → ℕ
number_of answers v = number_in (slice_index_or answers (v - 1) None)

-- How many vertices are the lowest of their component, where these are the lowest ones of each.
abbrev pub component_count : List (Option ℕ) → ℕ
component_count roots = count_by (λ v. number_of roots v == v) (range_with_len 1 (length roots))

-- How many edges have ends of one colour.
abbrev pub clash_count : List Edge → List (Option ℕ) → ℕ
clash_count edges colours = count_by (λ e. number_of colours e.u == number_of colours e.v) edges

-- What the least numbers of arcs and least weights from the first vertex, the lowest vertices of components and a forest of
-- the graph come to, and so many clashes.
abbrev pub summary_of : Graph → List (Option ℕ) → List (Option ℕ) → List (Option ℕ) → List Edge → ℕ → Summary
summary_of g hops weights roots tree clashes = record {
  vertices = g.n;
  edges = length g.edges;
  hops = tally_of hops;
  weights = tally_of weights;
  components = component_count roots;
  forest = length tree;
  total = total_weight tree;
  clashes = clashes;
}
