-- A whole run of Borůvka's method on all ranks, and which edges it chooses.
-- Source: Borůvka (1926); Dehne and Götz, Practical parallel algorithms for minimum spanning trees (1998).
use Rattle.std.specs.Prelude.{◌≡◌, ℕ, ◌<◌, ◌≤◌, true, List, [], map, All}
use Rattle.pg_base.specs.declared.TheConstants.{MAX_WEIGHT}
use Rattle.pg_base.specs.declared.edges.Edge.{Edge}
use Rattle.pg_base.specs.Graph.{Graph, IsGraph}
use Rattle.pg_base.specs.Forest.{IsForest, Spans, total_weight}
use Rattle.pg_group.specs.declared.messages.Body.{Body}
use Rattle.pg_group.specs.Book.{PairLists, IsWhole, IsMarked}
use Rattle.pg_group.specs.Ranked.{IsOther, list_at}
use Rattle.pg_boruvka.specs.declared.messages.Message.{Message}
use Rattle.pg_boruvka.specs.Parts.{Part, IsDivided, edge_at}
use Rattle.pg_boruvka.specs.LocalDense.{State, LocalDense}

-- The rank has ended, and kept its promise over the lists of the book.
pub record HasEndedOver (far ranks rank : ℕ) (sent taken : PairLists Message) (part : Part) (s : State) : Type 0 where
  pub handled : List (List (Body Message))
  pub promised : List (List (Body Message))
  pub ended : s.ended ≡ true
  pub keeps : LocalDense far part handled promised s
  pub own_handled : list_at handled rank ≡ []
  pub handled_is : (from : ℕ) → IsOther rank ranks from → list_at handled from ≡ taken from rank
  pub sent_is : (to : ℕ) → IsOther rank ranks to → list_at promised to ≡ sent rank to

-- A whole run over a graph that is divided among the ranks, all of which have ended. Weights are numbers of 32 bits.
-- Labels move along their pointers as many steps as there are labels, or more.
pub record IsRun (far : ℕ) (g : Graph) (ranks : ℕ) (parts : ℕ → Part) (states : ℕ → State) (sent taken : PairLists Message) : Type 0 where
  pub graph : IsGraph g
  pub weights : All (λ e. e.w ≤ MAX_WEIGHT) g.edges
  pub far_enough : g.n ≤ far
  pub divided : IsDivided g ranks parts
  pub whole : IsWhole ranks sent taken
  pub marked : IsMarked ranks sent
  pub kept : (r : ℕ) → r < ranks → HasEndedOver far ranks r sent taken (parts r) (states r)

-- The edges that a rank chose, in the order of its indices.
abbrev pub edges_of : Graph → State → List Edge
edges_of g s = map (edge_at g) s.edges

-- Then the edges of each rank are exactly the forest.
abbrev pub WholeIsForest : Type 0
WholeIsForest = (far : ℕ) (g : Graph) (ranks : ℕ) (parts : ℕ → Part) (states : ℕ → State) (sent taken : PairLists Message)
    → IsRun far g ranks parts states sent taken → (r : ℕ) → r < ranks → IsForest g.edges (edges_of g (states r))

-- So they span, and no edges that span weigh less.
abbrev pub WholeIsLeast : Type 0
WholeIsLeast = (far : ℕ) (g : Graph) (ranks : ℕ) (parts : ℕ → Part) (states : ℕ → State) (sent taken : PairLists Message)
    → IsRun far g ranks parts states sent taken → (r : ℕ) → r < ranks
    → Spans g.edges (edges_of g (states r)) × ((tree : List Edge) → Spans g.edges tree → total_weight (edges_of g (states r)) ≤ total_weight tree)
