-- What follows from the definitions of degrees.
use Rattle.std.specs.Prelude.{◌≡◌, ℕ, List}
use Rattle.pg_base.specs.Graph.{Graph}
use Rattle.pg_uses.specs.Degrees.{IsGreatestDegree}
use Rattle.pg_uses.specs.Neighbours.{AreNeighbourDegrees}

-- A graph has one greatest degree.
abbrev pub HasOneGreatestDegree : Type 0
HasOneGreatestDegree = (g : Graph) (x y : ℕ) → IsGreatestDegree g x → IsGreatestDegree g y → x ≡ y

-- A graph has one list of the greatest degrees among neighbours.
abbrev pub HasOneOfNeighbours : Type 0
HasOneOfNeighbours = (g : Graph) (xs ys : List ℕ) → AreNeighbourDegrees g xs → AreNeighbourDegrees g ys → xs ≡ ys
