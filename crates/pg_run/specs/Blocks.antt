-- How places are cut into groups of neighbours: the block rule.
use Rattle.std.specs.Prelude.{ℕ, zero, suc, ◌+◌, ◌/◌, ◌%◌, nat_lt, if◌then◌else◌}

-- How many places a group has. The sizes of two groups differ by one at most, and the larger ones come first.
abbrev pub group_size : ℕ → ℕ → ℕ → ℕ
group_size places groups group = places / groups + (if nat_lt group (places % groups) then 1 else 0)

-- the place at which a group begins, after all groups before it
abbrev pub group_start : ℕ → ℕ → ℕ → ℕ
group_start places groups zero = 0
group_start places groups (suc group) = group_start places groups group + group_size places groups group
