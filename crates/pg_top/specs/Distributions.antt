-- How a plan divides the vertices of its graph among the ranks.
use Rattle.std.specs.Prelude.{◌≡◌, ℕ, ◌+◌, ◌-◌, ◌/◌, ◌%◌, ◌<◌, ◌≤◌, Option, Some, None, List, slice_index}
use Rattle.pg_dist.specs.Sharing.{Sharing}
use Rattle.pg_dist.specs.Blocks.{count_of, first_of}

-- The vertices from 1 to n in blocks, the first ranks with one vertex more.
pub record IsInBlocks (n ranks : ℕ) (s : Sharing) : Type 0 where
  pub vertices : s.n ≡ n
  pub group : s.ranks ≡ ranks
  pub counts : (r : ℕ) → r < ranks → s.count r ≡ count_of (n / ranks) (n % ranks) r
  pub blocks : (r i : ℕ) → r < ranks → i < count_of (n / ranks) (n % ranks) r → s.global r i ≡ first_of (n / ranks) (n % ranks) r + i

-- The vertices from 1 to n by their owners.
pub record IsByOwners (owners : List ℕ) (n ranks : ℕ) (s : Sharing) : Type 0 where
  pub vertices : s.n ≡ n
  pub group : s.ranks ≡ ranks
  pub owner : (v : ℕ) → 1 ≤ v → v ≤ n → s.owner v ≡ slice_index owners (v - 1)

-- By the list of owners, or in blocks where there is none.
abbrev pub IsDistribution : Option (List ℕ) → ℕ → ℕ → Sharing → Type 0
IsDistribution None n ranks s = IsInBlocks n ranks s
IsDistribution (Some owners) n ranks s = IsByOwners owners n ranks s
