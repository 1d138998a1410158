-- How vertices lie in blocks: each rank has `share` vertices, the first `extra` ranks have one more, and
-- the blocks follow one another in the order of the ranks.
use Rattle.std.specs.Prelude.{ℕ, ◌+◌, ◌-◌, ◌*◌, ◌/◌, ◌%◌, min, nat_lt, if◌then◌else◌}

-- how many vertices rank r has
abbrev pub count_of : ℕ → ℕ → ℕ → ℕ
count_of share extra r = if nat_lt r extra then share + 1 else share

-- the first vertex of rank r, after those of the ranks below
abbrev pub first_of : ℕ → ℕ → ℕ → ℕ
first_of share extra r = r * share + min r extra + 1

-- how many vertices the ranks with one more have
abbrev pub in_long : ℕ → ℕ → ℕ
in_long share extra = extra * (share + 1)

-- the rank that owns vertex v
abbrev pub owner_of : ℕ → ℕ → ℕ → ℕ
owner_of share extra v =
    if nat_lt (v - 1) (in_long share extra)
    then (v - 1) / (share + 1)
    else extra + (v - 1 - in_long share extra) / share

-- the place of vertex v in its owner's block
abbrev pub place_of : ℕ → ℕ → ℕ → ℕ
place_of share extra v =
    if nat_lt (v - 1) (in_long share extra)
    then (v - 1) % (share + 1)
    else (v - 1 - in_long share extra) % share
