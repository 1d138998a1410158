-- The consistency models of a distributed property map.
-- Source: the flags have the names of the Parallel Boost Graph Library's consistency models; which of them contradict
-- each other is said here.
use Rattle.std.specs.Prelude.{Bool, ◌&&◌, ◌||◌}

-- Forward and flush contradict each other, and so do any two of backward, reset and clear.
abbrev pub contradicts : Bool → Bool → Bool → Bool → Bool → Bool
contradicts forward backward flush reset clear = (forward && flush) || ((backward && reset) || ((backward && clear) || (reset && clear)))
