-- Which of so many entries are yet to be sent, where they are sent in order.
use Rattle.std.specs.Prelude.{ℕ, ◌-◌, Bool, true, false, List, ◌++◌, replicate}

-- those from the next one on
abbrev pub unsent_from : ℕ → ℕ → List Bool
unsent_from count next = replicate next false ++ replicate (count - next) true
