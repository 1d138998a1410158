-- How a graph is divided: which arcs a rank has, and which vertices of others they lead to. The distribution
-- is given by its functions, the owner of a vertex and its place among the owner's vertices.
use Rattle.std.specs.Prelude.{◌≡◌, ◌==◌, ◌&&◌, not, ℕ, ◌+◌, ◌<◌, List, [], ◌∷◌, ◌++◌, Bool, length, map, filter, zero, suc, slice_index, slice_index_or, if◌then◌else◌}
use Rattle.std.specs.List.{list_any, AllPairs}
use Rattle.pg_base.specs.declared.edges.Edge.{Edge}
use Rattle.pg_adj.specs.declared.arcs.Arc.{Arc}
use Rattle.pg_adj.specs.declared.arcs.Ghost.{Ghost}
use Rattle.pg_base.specs.Graph.{Graph, Arc as GraphArc, arcs_of, arcs_from}
use Rattle.pg_dist.specs.Sharing.{Sharing}
use Rattle.pg_adj.specs.Portions.{Portion}
use Rattle.pg_base.specs.Keyed.{row_of, AreBounds}
use Rattle.pg_base.specs.Keyed.{items_of}
use Rattle.pg_adj.specs.Incidence.{incidences}
use Rattle.pg_adj.specs.Holdings.{holdings}

-- The end of an edge that isn't v.
abbrev pub other_end : Edge → ℕ → ℕ
other_end e v = if e.u == v then e.v else e.u

-- The arc of an edge with this index, from the end v.
abbrev pub arc_from : (ℕ → ℕ) → (ℕ → ℕ) → ℕ → Edge → ℕ → Arc
arc_from owner local v e k = record {
  to = record { 0 = other_end e v };
  home = record { 0 = owner (other_end e v) };
  place = local (other_end e v);
  w = e.w;
  edge = k;
}

-- What stands for an edge past the end of a list.
abbrev pub no_edge : Edge
no_edge = record { u = 0; v = 0; w = 0 }

-- The arc of edge k of the list, from the end v.
abbrev pub arc_at : (ℕ → ℕ) → (ℕ → ℕ) → List Edge → ℕ → ℕ → Arc
arc_at owner local edges v k = arc_from owner local v (slice_index_or edges k no_edge) k

-- The items lie row after row, and nothing else beside them.
pub record AreRows {X : Type 0} (rows : ℕ → List X) (count : ℕ) (bounds : List ℕ) (items : List X) : Type 0 where
  pub bounded : AreBounds count bounds (length items)
  pub first : slice_index bounds 0 ≡ 0
  pub last : slice_index bounds count ≡ length items
  pub row : (i : ℕ) → i < count → row_of bounds items i ≡ rows i

-- Whether one of the arcs leads to the vertex v, of another rank than r.
abbrev pub leads_abroad : ℕ → List Arc → ℕ → Bool
leads_abroad r arcs v = list_any (λ a. a.to.0 == v && not (a.home.0 == r)) arcs

-- The vertices 1 to n, ascending.
abbrev pub vertices_to : ℕ → List ℕ
vertices_to zero = []
vertices_to (suc n) = vertices_to n ++ (n + 1) ∷ []

-- The vertex v as a ghost.
abbrev pub ghost_of : (ℕ → ℕ) → (ℕ → ℕ) → ℕ → Ghost
ghost_of owner local v = record { vertex = record { 0 = v }; home = record { 0 = owner v }; place = local v }

-- The vertices of other ranks that the arcs of r lead to, ascending.
abbrev pub ghosts_of : (ℕ → ℕ) → (ℕ → ℕ) → ℕ → ℕ → List Arc → List Ghost
ghosts_of owner local n r arcs = map (ghost_of owner local) (filter (leads_abroad r arcs) (vertices_to n))

-- The arcs from the vertex v, in the order of the edges.
abbrev pub arcs_at : Sharing → List Edge → ℕ → List Arc
arcs_at s edges v = map (arc_at s.owner s.local edges v) (items_of (incidences 0 edges) v)

-- The vertices of the rank r in order of place, their arcs, and its ghosts.
pub record IsShare (s : Sharing) (edges : List Edge) (r : ℕ) (vertices bounds : List ℕ) (arcs : List Arc) (ghosts : List Ghost) : Type 0 where
  pub count : length vertices ≡ s.count r
  pub vertex : (i : ℕ) → i < s.count r → slice_index vertices i ≡ s.global r i
  pub row : AreRows (λ i. arcs_at s edges (slice_index vertices i)) (length vertices) bounds arcs
  pub ghost_list : ghosts ≡ ghosts_of s.owner s.local s.n r arcs

-- An arc at v as an arc of the undivided graph.
abbrev pub undivided : ℕ → Arc → GraphArc
undivided v a = record { from = v; to = a.to.0; weight = a.w }

-- The part of the rank r, where the ranks hold these ghosts.
pub record IsPartOf (s : Sharing) (g : Graph) (lists : List (List Ghost)) (r : ℕ) (p : Portion) : Type 0 where
  pub rank : p.rank ≡ r
  pub ranks : p.ranks ≡ s.ranks
  pub n : p.n ≡ g.n
  pub share : IsShare s g.edges r p.vertices p.bounds p.arcs p.ghosts
  pub arcs : (i : ℕ) → i < length p.vertices
      → map (undivided (slice_index p.vertices i)) (row_of p.bounds p.arcs i) ≡ arcs_from (arcs_of g.edges) (slice_index p.vertices i)
  pub ascend : (i : ℕ) → i < length p.vertices → AllPairs (λ a b. a.to.0 < b.to.0) (row_of p.bounds p.arcs i)
  pub holders : AreRows (λ i. items_of (holdings 0 lists) (slice_index p.vertices i)) (length p.vertices) p.holder_bounds p.holders

-- One part for each rank, in order.
pub record Divided (s : Sharing) (g : Graph) (parts : List Portion) : Type 0 where
  pub count : length parts ≡ s.ranks
  pub part : (r : ℕ) (d : Portion) → r < s.ranks → IsPartOf s g (map (λ p. p.ghosts) parts) r (slice_index_or parts r d)
