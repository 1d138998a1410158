-- How the ghosts of the ranks and the holders at their owners belong together.
-- Source: ghost cells after Gregor and Lumsdaine, Lifting Sequential Graph Algorithms for Distributed-Memory Parallel
-- Computation (OOPSLA 2005).
use Rattle.std.specs.Prelude.{◌≡◌, ◌≢◌, ℕ, ◌<◌, List, Some, length, slice_get, AllPairs, Contains}
use Rattle.pg_base.specs.Graph.{Graph}
use Rattle.pg_base.specs.Keyed.{row_of}
use Rattle.pg_dist.specs.Sharing.{Sharing, IsSharing}
use Rattle.pg_adj.specs.declared.arcs.Ghost.{Ghost}
use Rattle.pg_adj.specs.declared.arcs.Holder.{Holder}
use Rattle.pg_adj.specs.Portions.{Portion}
use Rattle.pg_adj.specs.Division.{Divided}

-- The holders of the own vertex at a place.
abbrev pub holders_at : Portion → ℕ → List Holder
holders_at p place = row_of p.holder_bounds p.holders place

-- A ghost's vertex stands at its place of its home, which has this rank and slot among the vertex's holders.
pub record IsKept (parts : List Portion) (rank slot : ℕ) (g : Ghost) : Type 0 where
  pub home : Portion
  pub there : slice_get parts g.home.0 ≡ Some home
  pub vertex : slice_get home.vertices g.place ≡ Some g.vertex.0
  pub holder : Contains (holders_at home g.place) (record { rank = record { 0 = rank }; slot = slot })

-- A holder of the vertex at a place of this rank has that vertex as the ghost of its slot.
pub record IsHeld (parts : List Portion) (rank : ℕ) (p : Portion) (place : ℕ) (h : Holder) : Type 0 where
  pub holder : Portion
  pub ghost_there : Ghost
  pub there : slice_get parts h.rank.0 ≡ Some holder
  pub held : slice_get holder.ghosts h.slot ≡ Some ghost_there
  pub vertex : slice_get p.vertices place ≡ Some ghost_there.vertex.0
  pub home : ghost_there.home.0 ≡ rank
  pub at : ghost_there.place ≡ place

-- Ghosts and holders mirror each other. A vertex is own at one place of one rank, and in at most one slot of a rank,
-- which its owner has as a holder once.
pub record AreMirrored (parts : List Portion) : Type 0 where
  pub kept : (rank slot : ℕ) (p : Portion) (g : Ghost) → slice_get parts rank ≡ Some p → slice_get p.ghosts slot ≡ Some g → IsKept parts rank slot g
  pub held : (rank place : ℕ) (p : Portion) (h : Holder) → slice_get parts rank ≡ Some p → place < length p.vertices → Contains (holders_at p place) h → IsHeld parts rank p place h
  pub foreign : (rank slot : ℕ) (p : Portion) (g : Ghost) → slice_get parts rank ≡ Some p → slice_get p.ghosts slot ≡ Some g → g.home.0 ≢ rank
  pub one_holder : (rank place : ℕ) (p : Portion) → slice_get parts rank ≡ Some p → place < length p.vertices → AllPairs (λ a b. a ≢ b) (holders_at p place)
  pub one_slot : (rank k l : ℕ) (p : Portion) (g h : Ghost) → slice_get parts rank ≡ Some p → slice_get p.ghosts k ≡ Some g → slice_get p.ghosts l ≡ Some h
      → g.vertex.0 ≡ h.vertex.0 → k ≡ l
  pub one_place : (rank k l v : ℕ) (p : Portion) → slice_get parts rank ≡ Some p → slice_get p.vertices k ≡ Some v → slice_get p.vertices l ≡ Some v → k ≡ l
  pub one_owner : (r s k l v : ℕ) (p q : Portion) → slice_get parts r ≡ Some p → slice_get parts s ≡ Some q → slice_get p.vertices k ≡ Some v → slice_get q.vertices l ≡ Some v → r ≡ s

-- So it is with the parts of one division.
abbrev pub GhostsMirrorHolders : Type 0
GhostsMirrorHolders = (s : Sharing) (g : Graph) (parts : List Portion) → IsSharing s → Divided s g parts → AreMirrored parts
