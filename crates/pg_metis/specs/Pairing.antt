-- Arcs that the lines of vertices name, and the edges whose two directions they are.
-- Source: METIS 5.1 manual, section 4.1.1: each edge stands in the lines of both its ends.
use Rattle.std.specs.Prelude.{◌≡◌, ◌≢◌, ℕ, ◌*◌, ◌≤◌, ⊤, min, max, Result, Err, List, length, map, All, AllPairs, Contains}
use Rattle.pg_base.specs.declared.edges.Edge.{Edge}
use Rattle.pg_base.specs.Graph.{Arc, IsEdge, Precedes, forward, backward}
use Rattle.pg_metis.specs.declared.pairing.NamedArc.{NamedArc}
use Rattle.pg_metis.specs.declared.pairing.PairFault.{PairFault}
use Rattle.pg_metis.specs.declared.pairing.PairFault.TheVariants.{NotPaired}
use Rattle.pg_metis.specs.Fault.{Unmirrored}

abbrev pub arc_of : NamedArc → Arc
arc_of named = record { from = named.from; to = named.to; weight = named.weight }

abbrev pub arcs_named : List NamedArc → List Arc
arcs_named named = map arc_of named

-- An arc between two different vertices of 1 to n, with a weight.
pub record IsNamed (n : ℕ) (a : Arc) : Type 0 where
  pub from_first : 1 ≤ a.from
  pub from_last : a.from ≤ n
  pub to_first : 1 ≤ a.to
  pub to_last : a.to ≤ n
  pub other : a.to ≢ a.from
  pub weight : 1 ≤ a.weight

-- Line after line in the order of vertices, where no line names a neighbour twice.
pub record AreNamed (n : ℕ) (arcs : List Arc) : Type 0 where
  pub within : All (IsNamed n) arcs
  pub ascending : AllPairs (λ a b. a.from ≤ b.from) arcs
  pub once : AllPairs (λ a b. a.from ≡ b.from → a.to ≢ b.to) arcs

-- The edge that has this arc as a direction.
abbrev pub edge_along : Arc → Edge
edge_along a = record { u = min a.from a.to; v = max a.from a.to; w = a.weight }

-- The arcs are both directions of each edge, once each and in any order, and no others. The edges ascend.
pub record AreEdgesOf (n : ℕ) (arcs : List Arc) (edges : List Edge) : Type 0 where
  pub within : All (IsEdge n) edges
  pub positive : All (λ e. 1 ≤ e.w) edges
  pub ascending : AllPairs Precedes edges
  pub each : All (λ a. Contains edges (edge_along a)) arcs
  pub directions : All (λ e. Contains arcs (forward e) × Contains arcs (backward e)) edges
  pub count : length arcs ≡ 2 * length edges

-- P holds of the vertex and the kind where the answer is that an arc has no equal mirror.
abbrev pub OnNotPaired : {A : Type 0} → Result A PairFault → (Unmirrored → Type 0) → Type 0
OnNotPaired (Err (NotPaired vertex kind)) P = P (record { vertex = vertex; kind = kind })
OnNotPaired _ P = ⊤
