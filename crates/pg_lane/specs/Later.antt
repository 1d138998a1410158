-- What the end of a lane may be after calls on it.
use Rattle.std.specs.Prelude.{◌≡◌, ℕ, ◌≤◌, List, ◌++◌}

module _ {M : Type 0} where
  -- The list begins with the earlier one
  abbrev pub Extends : List M → List M → Type 0
  Extends earlier now = (more : List M) × (now ≡ earlier ++ more)

  -- No message that went through an end is taken back, and no look that it took is forgotten
  pub record Later (earlier : List M) (earlier_looks : ℕ) (now : List M) (looks : ℕ) : Type 0 where
    pub grows : Extends earlier now
    pub looks_on : earlier_looks ≤ looks
