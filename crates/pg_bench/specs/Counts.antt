-- How much the ranks of a division have, and how much was sent between ranks.
use Rattle.std.specs.Prelude.{◌≡◌, ℕ, ◌+◌, ◌%◌, ◌^◌, not, List, length, map, min, count_by}
use Rattle.std.specs.List.{sum_by, range_with_len}
use Rattle.pg_base.specs.Keyed.{row_of}
use Rattle.pg_lane.specs.declared.settling.Settled.{Settled}
use Rattle.pg_lane.specs.Settled.{settled_sent}
use Rattle.pg_group.specs.declared.messages.Body.{Body}
use Rattle.pg_group.specs.Rounds.{is_mark}
use Rattle.pg_adj.specs.Portions.{Portion}
use Rattle.pg_bench.specs.declared.counted.Counted.{Counted}

-- A sum that stands still at the end of 64 bits.
abbrev pub capped : ℕ → ℕ
capped n = min n 18446744073709551615

-- The arcs of all places of a rank.
abbrev pub arcs_in : Portion → ℕ
arcs_in p = sum_by length (map (row_of p.bounds p.arcs) (range_with_len 0 (length p.vertices)))

-- The holders of all places of a rank.
abbrev pub holders_in : Portion → ℕ
holders_in p = sum_by length (map (row_of p.holder_bounds p.holders) (range_with_len 0 (length p.vertices)))

-- The cells of a rank: one for each own vertex and each ghost.
abbrev pub cells_in : Portion → ℕ
cells_in p = length p.vertices + length p.ghosts

-- The messages that were sent down a lane.
abbrev pub sent_down : {M : Type 0} → Settled M → ℕ
sent_down lane = length (settled_sent lane)

module _ {B : Type 0} where
  -- How many of the bodies are items.
  abbrev pub items_among : List (Body B) → ℕ
  items_among bodies = count_by (λ body. not (is_mark body)) bodies

  -- There is a list for each rank, and they have so many items together, modulo 2^64.
  pub record AreCounted (size count : ℕ) (lists : List (List (Body B))) : Type 0 where
    pub each : length lists ≡ size
    pub items : count ≡ sum_by items_among lists % 2 ^ 64

-- The items that a program has handled, modulo 2^64.
abbrev pub items_taken : {P : Type 0} → Counted P → ℕ
items_taken c = c.taken
