-- The grid whose edges and weights are drawn.
-- Source: Kernighan and Ritchie, The C Programming Language, section 2.7: the example of a generator, whose numbers of
-- 15 bits are the draws.
use Rattle.std.specs.Prelude.{ℕ, ◌+◌, ◌*◌, ◌/◌, ◌%◌, ◌^◌, ◌≤◌, ◌==◌, nat_lt, if◌then◌else◌, List, [], ◌∷◌, ◌++◌, All}
use Rattle.std.specs.List.{flat_map, range_with_len}
use Rattle.pg_base.specs.Graph.{Graph, IsGraph}
use Rattle.pg_base.specs.declared.TheConstants.{MAX_VERTICES}
use Rattle.pg_base.specs.declared.edges.Edge.{Edge}
use Rattle.pg_make.specs.declared.TheConstants.{MAX_GRID_WEIGHT}

-- A draw takes the next state, of 31 bits, and gives its upper 15 bits.
abbrev pub next : ℕ → ℕ
next state = (state * 1103515245 + 12345) % 2 ^ 31

abbrev pub draw_of : ℕ → ℕ
draw_of state = state / 65536

-- The edge between these ends by the number drawn for it: left out where 8 divides the number.
abbrev pub kept : ℕ × ℕ → ℕ → List Edge
kept ends draw = if draw % 8 == 0 then [] else record { u = ends.0; v = ends.1; w = 1 + draw / 8 } ∷ []

-- One draw for each two ends, in order.
abbrev pub drawn : ℕ → List (ℕ × ℕ) → List Edge
drawn state [] = []
drawn state (ends ∷ rest) = kept ends (draw_of (next state)) ++ drawn (next state) rest

-- The vertex in column x and row y is y * width + x + 1. It has the next vertex at its right, unless the column is
-- the last, and the vertex a width further below it, unless the row is the last.
abbrev pub neighbours : (width height x y : ℕ) → List (ℕ × ℕ)
neighbours width height x y =
    let vertex = y * width + x + 1 in
    (if nat_lt (x + 1) width then (vertex, vertex + 1) ∷ [] else [])
    ++ (if nat_lt (y + 1) height then (vertex, vertex + width) ∷ [] else [])

-- The ends of the edges from the vertices after the first `passed` ones, of which `count` are left.
abbrev pub ends_after : (width height passed count : ℕ) → List (ℕ × ℕ)
ends_after width height passed count =
    flat_map (λ k. neighbours width height (k % width) (k / width)) (range_with_len passed count)

-- The seed modulo 2 ^ 31 is the first state, and the vertices are taken in ascending order.
abbrev pub grid_of : (width height seed : ℕ) → Graph
grid_of width height seed = record {
  n = width * height;
  edges = drawn (seed % 2 ^ 31) (ends_after width height 0 (width * height));
}

abbrev pub GridsAreGraphs : Type 0
GridsAreGraphs = (width height seed : ℕ) → 1 ≤ width → width * height ≤ MAX_VERTICES → IsGraph (grid_of width height seed)

abbrev pub GridWeightsAreSmall : Type 0
GridWeightsAreSmall = (width height seed : ℕ) → 1 ≤ width → All (λ e. e.w ≤ MAX_GRID_WEIGHT) (grid_of width height seed).edges
