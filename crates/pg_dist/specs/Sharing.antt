-- What a distribution says, and the laws that hold of it.
-- Source: Gregor and Lumsdaine, Lifting Sequential Graph Algorithms for Distributed-Memory Parallel Computation (OOPSLA
-- 2005): owners, and local and global descriptors.
use Rattle.std.specs.Prelude.{◌≡◌, ℕ, ◌<◌, ◌≤◌}
use Rattle.pg_base.specs.declared.TheConstants.{MAX_VERTICES}

-- How many vertices and ranks there are; the owner of each vertex, and its place among the owner's vertices; how many
-- vertices each rank owns, and the vertex of a rank at a place.
pub record Sharing : Type 0 where
  pub n : ℕ
  pub ranks : ℕ
  pub owner : ℕ → ℕ
  pub local : ℕ → ℕ
  pub count : ℕ → ℕ
  pub global : ℕ → ℕ → ℕ

-- Each vertex has one owner and one place there, each place holds one vertex, and the vertices of a rank ascend.
pub record IsSharing (s : Sharing) : Type 0 where
  pub n_within : s.n ≤ MAX_VERTICES
  pub owner_is_rank : (v : ℕ) → 1 ≤ v → v ≤ s.n → s.owner v < s.ranks
  pub local_below : (v : ℕ) → 1 ≤ v → v ≤ s.n → s.local v < s.count (s.owner v)
  pub global_of_local : (v : ℕ) → 1 ≤ v → v ≤ s.n → s.global (s.owner v) (s.local v) ≡ v
  pub count_within : (r : ℕ) → r < s.ranks → s.count r ≤ s.n
  pub global_first : (r i : ℕ) → r < s.ranks → i < s.count r → 1 ≤ s.global r i
  pub global_last : (r i : ℕ) → r < s.ranks → i < s.count r → s.global r i ≤ s.n
  pub owner_of_global : (r i : ℕ) → r < s.ranks → i < s.count r → s.owner (s.global r i) ≡ r
  pub local_of_global : (r i : ℕ) → r < s.ranks → i < s.count r → s.local (s.global r i) ≡ i
  pub global_ascends : (r i j : ℕ) → r < s.ranks → i < j → j < s.count r → s.global r i < s.global r j
