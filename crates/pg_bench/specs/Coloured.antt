-- How many colours a colouring has.
use Rattle.std.specs.Prelude.{◌≡◌, ◌≢◌, ℕ, ◌<◌, ◌≤◌, length}
use Rattle.pg_colour.specs.declared.TheConstants.{NO_COLOUR}
use Rattle.pg_colour.specs.declared.colouring.Colouring.{Colouring}
use Rattle.pg_colour.specs.Shown.{part_in, state_of}

-- The colours of a rank's vertices in its first places are below a bound.
abbrev pub AreBelow : Colouring → ℕ → ℕ → Type 0
AreBelow c places bound = (place : ℕ) → place < places → (state_of c).own place ≢ NO_COLOUR → (state_of c).own place < bound

-- The colours of all its vertices are.
abbrev pub HasColoursBelow : ℕ → Colouring → Type 0
HasColoursBelow bound c = AreBelow c (length (part_in c).vertices) bound

-- The number meets what no lesser one does.
pub record IsLeast (P : ℕ → Type 0) (least : ℕ) : Type 0 where
  pub meets : P least
  pub below : (n : ℕ) → P n → least ≤ n
