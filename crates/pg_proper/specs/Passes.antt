-- A pass: one rank goes through a list and gives each vertex the least colour that no neighbour has then.
-- Source: Diestel, Graph Theory, chapter 5 (the greedy algorithm).
use Rattle.std.specs.Prelude.{◌≡◌, ◌⊎◌, ◌==◌, cond, ℕ, ◌<◌, ◌≤◌, List, [], ◌∷◌, Option, Some, Contains}
use Rattle.pg_base.specs.declared.edges.Edge.{Edge}
use Rattle.pg_base.specs.Colouring.{degree, AreJoined}

-- What a rank knows of colours: its own vertices' and its ghosts', as one function.
abbrev pub Colours : Type 0
Colours = ℕ → Option ℕ

-- A neighbour of v has colour d.
pub record IsTaken (edges : List Edge) (colours : Colours) (v d : ℕ) : Type 0 where
  pub neighbour : ℕ
  pub joined : AreJoined edges v neighbour
  pub has : colours neighbour ≡ Some d

-- c is the least colour that no neighbour of v has.
pub record IsLeastFree (edges : List Edge) (colours : Colours) (v c : ℕ) : Type 0 where
  pub free : IsTaken edges colours v c → ⊥
  pub least : (d : ℕ) → d < c → IsTaken edges colours v d

-- The colours once v has colour c.
abbrev pub with_colour : Colours → ℕ → ℕ → Colours
with_colour colours v c = λ w. cond (w == v) (Some c) (colours w)

-- Going through the list leads from the colours before to those after, as far as the rank's own vertices go.
abbrev pub Passes : List Edge → List ℕ → List ℕ → Colours → Colours → Type 0
Passes edges own [] before after = (v : ℕ) → Contains own v → after v ≡ before v
Passes edges own (v ∷ list) before after =
    (c : ℕ) × IsLeastFree edges before v c × Passes edges own list (with_colour before v c) after

abbrev pub HasColour : Colours → ℕ → Type 0
HasColour colours v = (c : ℕ) × (colours v ≡ Some c)

-- No two own neighbours have one colour. Vertices without a colour don't clash.
abbrev pub AreApart : List Edge → List ℕ → Colours → Type 0
AreApart edges own colours = (v w c : ℕ) → Contains own v → Contains own w → AreJoined edges v w
    → colours v ≡ Some c → colours w ≡ Some c → ⊥

-- Each colour of an own vertex is at most its degree.
abbrev pub AreBounded : List Edge → List ℕ → Colours → Type 0
AreBounded edges own colours = (v c : ℕ) → Contains own v → colours v ≡ Some c → c ≤ degree edges v

-- w is an own vertex or a neighbour of one.
abbrev pub IsNear : List Edge → List ℕ → ℕ → Type 0
IsNear edges own w = Contains own w ⊎ ((v : ℕ) × Contains own v × AreJoined edges v w)
