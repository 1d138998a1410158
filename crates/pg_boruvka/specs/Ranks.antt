-- A whole run of Dense on all ranks over a divided graph, and which edges it chooses.
-- Source: Borůvka (1926); Dehne and Götz, Practical parallel algorithms for minimum spanning trees (1998).
use Rattle.std.specs.Prelude.{◌≡◌, ℕ, ◌<◌, ◌≤◌, true, List, length, map, slice_index_or, All}
use Rattle.pg_base.specs.declared.TheConstants.{MAX_WEIGHT}
use Rattle.pg_base.specs.declared.edges.Edge.{Edge}
use Rattle.pg_base.specs.Graph.{Graph, IsGraph}
use Rattle.pg_base.specs.Forest.{IsForest, Spans, total_weight}
use Rattle.pg_dist.specs.Sharing.{Sharing, IsSharing}
use Rattle.pg_group.specs.declared.messages.Body.{Body}
use Rattle.pg_group.specs.Book.{PairLists, IsWhole, IsMarked}
use Rattle.pg_group.specs.Ranked.{IsOther, list_at}
use Rattle.pg_adj.specs.Portions.{Portion}
use Rattle.pg_adj.specs.Division.{Divided}
use Rattle.pg_boruvka.specs.declared.messages.Message.{Message}
use Rattle.pg_boruvka.specs.declared.dense.Dense.{Dense}
use Rattle.pg_boruvka.specs.Parts.{edge_at}
use Rattle.pg_boruvka.specs.Portions.{part_of}
use Rattle.pg_boruvka.specs.Known.{part_in, edges_in, view_of}
use Rattle.pg_boruvka.specs.Shown.{KeepsDense}

-- The program has ended, and has kept its promise from its opening state over the lists of the book.
pub record HasChosenOver (ranks rank : ℕ) (sent taken : PairLists Message) (start now : Dense) : Type 0 where
  pub handled : List (List (Body Message))
  pub promised : List (List (Body Message))
  pub keeps : KeepsDense start handled promised now
  pub ended : (view_of now).ended ≡ true
  pub handled_is : (from : ℕ) → IsOther rank ranks from → list_at handled from ≡ taken from rank
  pub sent_is : (to : ℕ) → IsOther rank ranks to → list_at promised to ≡ sent rank to

-- Programs over the parts of a graph that is divided by a distribution. All that was sent was taken, and each program
-- has ended and kept its promise. Weights are numbers of 32 bits.
pub record IsDenseRun (s : Sharing) (g : Graph) (parts : List Portion) (starts programs : ℕ → Dense) (sent taken : PairLists Message) : Type 0 where
  pub laws : IsSharing s
  pub graph : IsGraph g
  pub weights : All (λ e. e.w ≤ MAX_WEIGHT) g.edges
  pub vertices : g.n ≡ s.n
  pub divided : Divided s g parts
  pub opened : (r : ℕ) (other : Portion) → r < s.ranks → part_in (starts r) ≡ part_of (length g.edges) (slice_index_or parts r other)
  pub whole : IsWhole s.ranks sent taken
  pub marked : IsMarked s.ranks sent
  pub kept : (r : ℕ) → r < s.ranks → HasChosenOver s.ranks r sent taken (starts r) (programs r)

-- The edges that a program chose, in the order of their indices.
abbrev pub chosen_edges : Graph → Dense → List Edge
chosen_edges g d = map (edge_at g) (edges_in d)

-- Then the edges of each program are exactly the forest.
abbrev pub DenseIsForest : Type 0
DenseIsForest = (s : Sharing) (g : Graph) (parts : List Portion) (starts programs : ℕ → Dense) (sent taken : PairLists Message)
    → IsDenseRun s g parts starts programs sent taken → (r : ℕ) → r < s.ranks → IsForest g.edges (chosen_edges g (programs r))

-- So they span, and no edges that span weigh less.
abbrev pub DenseIsLeast : Type 0
DenseIsLeast = (s : Sharing) (g : Graph) (parts : List Portion) (starts programs : ℕ → Dense) (sent taken : PairLists Message)
    → IsDenseRun s g parts starts programs sent taken → (r : ℕ) → r < s.ranks
    → Spans g.edges (chosen_edges g (programs r)) × ((tree : List Edge) → Spans g.edges tree → total_weight (chosen_edges g (programs r)) ≤ total_weight tree)
