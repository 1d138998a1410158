-- What a list of owners says, whose entry v - 1 is the rank that owns vertex v.
use Rattle.std.specs.Prelude.{ℕ, ◌+◌, ◌-◌, ◌==◌, List, [], ◌∷◌, length, take, slice_index, count_by, if◌then◌else◌}
use Rattle.pg_dist.specs.Sharing.{Sharing}

-- the rank that owns vertex v
abbrev pub owner_in : List ℕ → ℕ → ℕ
owner_in owners v = slice_index owners (v - 1)

-- how many vertices rank r owns
abbrev pub count_in : List ℕ → ℕ → ℕ
count_in owners r = count_by (λ o. o == r) owners

-- the place of vertex v: how many vertices before it have its owner
abbrev pub place_in : List ℕ → ℕ → ℕ
place_in owners v = count_in (take (v - 1) owners) (owner_in owners v)

-- the vertices of rank r, ascending, where the list begins with the owner of vertex v
abbrev pub vertices_from : ℕ → List ℕ → ℕ → List ℕ
vertices_from v [] r = []
vertices_from v (o ∷ owners) r =
    if o == r then v ∷ vertices_from (v + 1) owners r else vertices_from (v + 1) owners r

-- the vertex of rank r at place i
abbrev pub vertex_in : List ℕ → ℕ → ℕ → ℕ
vertex_in owners r i = slice_index (vertices_from 1 owners r) i

-- what the list says, all together
abbrev pub listed_sharing : List ℕ → ℕ → Sharing
listed_sharing owners ranks = record {
  n = length owners;
  ranks = ranks;
  owner = owner_in owners;
  local = place_in owners;
  count = count_in owners;
  global = vertex_in owners;
}
