-- Sets of ranks, and the ghosts and holders that a set for each vertex stands for.
use Rattle.std.specs.Prelude.{◌==◌, ℕ, ◌-◌, ◌<◌, List, Bool, All, length, map, filter, slice_index_or}
use Rattle.std.specs.Int.{bit_at}
use Rattle.std.specs.List.{range_with_len}
use Rattle.pg_base.specs.declared.TheConstants.{MAX_RANKS}
use Rattle.pg_adj.specs.declared.rank_sets.RankSet.{RankSet}
use Rattle.pg_adj.specs.declared.arcs.Holder.{Holder}
use Rattle.pg_adj.specs.Division.{vertices_to}

-- Bit r says whether the rank r is in the set.
abbrev pub has : RankSet → ℕ → Bool
has set r = bit_at set.0 r == 1

-- The ranks of the set, ascending. (It isn't an abbrev, as each goal would have the test of all 32 ranks.)
unfoldable pub members : RankSet → List ℕ
members set = filter (has set) (range_with_len 0 MAX_RANKS)

-- Every rank in a set is below this number.
abbrev pub HaveRanksBelow : ℕ → List RankSet → Type 0
HaveRanksBelow ranks sets = All (λ set. All (λ r. r < ranks) (members set)) sets

-- The set without a rank.
abbrev pub no_ranks : RankSet
no_ranks = record { 0 = 0 }

-- The set of the vertex v, at the place v - 1: by it a rank holds v as a ghost or doesn't.
abbrev pub ranks_holding : List RankSet → ℕ → RankSet
ranks_holding sets v = slice_index_or sets (v - 1) no_ranks

-- By these sets, the vertices up to n that the rank r holds.
abbrev pub held_up_to : List RankSet → ℕ → ℕ → List ℕ
held_up_to sets r n = filter (λ v. has (ranks_holding sets v) r) (vertices_to n)

-- By these sets, the holders of the vertex v. The slot of each is the number of vertices that it holds before v.
abbrev pub holders_by : List RankSet → ℕ → List Holder
holders_by sets v = map (λ r. record { rank = record { 0 = r }; slot = length (held_up_to sets r (v - 1)) }) (members (ranks_holding sets v))
