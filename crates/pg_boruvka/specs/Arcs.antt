-- A rank's arcs as they lie in memory, and what the pass over them finds of each label.
use Rattle.std.specs.Prelude.{◌≡◌, ◌≢◌, ◌==◌, not, ℕ, ◌+◌, ◌*◌, ◌<◌, ◌%◌, Bool, Some, List, length, map, filter, slice_index}
use Rattle.pg_base.specs.declared.TheConstants.{MAX_EDGES}
use Rattle.pg_boruvka.specs.declared.TheConstants.{NO_KEY}
use Rattle.pg_boruvka.specs.declared.arcs.DenseArc.{DenseArc}
use Rattle.pg_boruvka.specs.Parts.{LocalArc}
use Rattle.pg_boruvka.specs.Winners.{leaves, least_arc, key_of}

abbrev pub local : DenseArc → LocalArc
local a = record { from = a.from; to = a.to; key = a.weight * MAX_EDGES + a.edge; edge = a.edge }

abbrev pub locals : List DenseArc → List LocalArc
locals arcs = map local arcs

-- The arc between the labels of its ends.
abbrev pub relabelled : (ℕ → ℕ) → LocalArc → LocalArc
relabelled label a = record { from = label a.from; to = label a.to; key = a.key; edge = a.edge }

-- The arc's ends differ in label.
abbrev pub is_apart : (ℕ → ℕ) → LocalArc → Bool
is_apart label a = not (label a.from == label a.to)

-- The arc's ends have entries in lists of this length, and its edge is one of so many.
pub record IsInTables (count edges : ℕ) (a : DenseArc) : Type 0 where
  pub from : a.from < count
  pub to : a.to < count
  pub edge : a.edge < edges

-- For each label the key of the least of the arcs that leave it, the label to which that arc leads, and its edge.
pub record AreLeasts (arcs : List LocalArc) (label : ℕ → ℕ) (keys targets : List ℕ) : Type 0 where
  pub key : (l : ℕ) → l < length keys → slice_index keys l ≡ key_of (least_arc (filter (leaves label l) arcs))
  pub across : (l : ℕ) (a : LocalArc) → l < length keys → least_arc (filter (leaves label l) arcs) ≡ Some a → slice_index targets l ≡ label a.to
  pub edge : (l : ℕ) (a : LocalArc) → l < length keys → least_arc (filter (leaves label l) arcs) ≡ Some a → slice_index keys l % MAX_EDGES ≡ a.edge

-- A key, where there is one, is that of one of so many edges.
abbrev pub IsOfEdge : ℕ → ℕ → Type 0
IsOfEdge edges key = key ≢ NO_KEY → key % MAX_EDGES < edges
