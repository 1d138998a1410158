-- The order of edge keys, and the number by which a graph's edges are ordered in the same way.
-- Source: Cormen, Leiserson, Rivest and Stein, Introduction to Algorithms, chapter 23 (ties among weights).
use Rattle.std.specs.Prelude.{◌≡◌, ℕ, ◌+◌, ◌*◌, ◌<◌, true, false, length, slice_index_or, IsTrue, ◌↔◌}
use Rattle.pg_base.specs.declared.TheConstants.{MAX_EDGES}
use Rattle.pg_base.specs.declared.edges.Edge.{Edge}
use Rattle.pg_base.specs.Graph.{Graph, IsGraph}
use Rattle.pg_base.specs.Forest.{key_lt}

-- No key is less than itself.
abbrev pub KeysAreStrict : Type 0
KeysAreStrict = (e : Edge) → key_lt e e ≡ false

abbrev pub KeysCarryOver : Type 0
KeysCarryOver = (d e f : Edge) → key_lt d e ≡ true → key_lt e f ≡ true → key_lt d f ≡ true

-- Of two different edges one has the lesser key.
abbrev pub KeysTellApart : Type 0
KeysTellApart = (d e : Edge) → key_lt d e ≡ false → key_lt e d ≡ false → d ≡ e

-- An edge's weight and index in one number.
abbrev pub key_number : Edge → ℕ → ℕ
key_number e index = e.w * MAX_EDGES + index

-- d at place i and e at place j are ordered by these numbers as by their keys.
abbrev pub OrderedAlike : Edge → ℕ → Edge → ℕ → Type 0
OrderedAlike d i e j = IsTrue (key_lt d e) ↔ (key_number d i < key_number e j)

-- So are any two edges of a graph at their places.
abbrev pub NumbersOrderKeys : Type 0
NumbersOrderKeys = (g : Graph) → IsGraph g → (i j : ℕ) (other : Edge) → i < length g.edges → j < length g.edges → OrderedAlike (slice_index_or g.edges i other) i (slice_index_or g.edges j other) j
