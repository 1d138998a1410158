-- What a pass keeps, and what it depends on.
-- Source: Diestel, Graph Theory, chapter 5 (the greedy algorithm and its bound by the degree).
use Rattle.std.specs.Prelude.{◌≡◌, ◌⊎◌, ℕ, List, All, Contains}
use Rattle.pg_base.specs.declared.edges.Edge.{Edge}
use Rattle.pg_base.specs.Graph.{IsEdge}
use Rattle.pg_proper.specs.Passes.{Colours, IsLeastFree, Passes, HasColour, AreApart, AreBounded, IsNear}

-- A pass over any list keeps own neighbours apart, whatever the ghosts have.
abbrev pub PassKeepsApart : Type 0
PassKeepsApart = (n : ℕ) (edges : List Edge) (own list : List ℕ) (before after : Colours) → All (IsEdge n) edges
    → Passes edges own list before after → AreApart edges own before → AreApart edges own after

-- It keeps the bound by the degree.
abbrev pub PassKeepsBounded : Type 0
PassKeepsBounded = (edges : List Edge) (own list : List ℕ) (before after : Colours)
    → Passes edges own list before after → AreBounded edges own before → AreBounded edges own after

-- After it each own vertex has a colour that stands on the list or had one.
abbrev pub PassColours : Type 0
PassColours = (edges : List Edge) (own list : List ℕ) (before after : Colours) → Passes edges own list before after
    → (v : ℕ) → Contains own v → HasColour before v ⊎ Contains list v → HasColour after v

-- There is one least colour that no neighbour has.
abbrev pub LeastFreeIsOne : Type 0
LeastFreeIsOne = (edges : List Edge) (colours : Colours) (v c d : ℕ)
    → IsLeastFree edges colours v c → IsLeastFree edges colours v d → c ≡ d

-- Over own vertices a pass has one outcome, also from other colours that differ only where no own vertex is near.
abbrev pub PassIsOne : Type 0
PassIsOne = (edges : List Edge) (own list : List ℕ) (before other after changed : Colours) → All (Contains own) list
    → ((w : ℕ) → IsNear edges own w → other w ≡ before w)
    → Passes edges own list before after → Passes edges own list other changed → (v : ℕ) → Contains own v → changed v ≡ after v

-- Over own vertices a pass depends on the colours near them alone.
abbrev pub PassSeesNear : Type 0
PassSeesNear = (edges : List Edge) (own list : List ℕ) (before other after : Colours) → All (Contains own) list
    → ((w : ℕ) → IsNear edges own w → other w ≡ before w) → Passes edges own list before after → Passes edges own list other after
