-- How the ghosts of the ranks and the refreshes of their owners belong together.
-- Source: ghost cells after Gregor and Lumsdaine, Lifting Sequential Graph Algorithms for Distributed-Memory Parallel
-- Computation (OOPSLA 2005).
use Rattle.std.specs.Prelude.{◌≡◌, ℕ, List, Some, slice_get}
use Rattle.pg_adj.specs.declared.arcs.Ghost.{Ghost}
use Rattle.pg_adj.specs.Portions.{Portion}
use Rattle.pg_adj.specs.Mirrored.{AreMirrored}
use Rattle.pg_cells.specs.declared.refreshes.PendingRefresh.{PendingRefresh}
use Rattle.pg_cells.specs.States.{refreshes_of}

-- A ghost's vertex stands at its place of its home, whose refreshes have it for the ghost's rank and slot.
pub record IsPendingFrom (parts : List Portion) (rank slot : ℕ) (g : Ghost) : Type 0 where
  pub home : Portion
  pub entry : ℕ
  pub there : slice_get parts g.home.0 ≡ Some home
  pub vertex : slice_get home.vertices g.place ≡ Some g.vertex.0
  pub pending : slice_get (refreshes_of home) entry ≡ Some (record { place = g.place; holder = record { rank = record { 0 = rank }; slot = slot } })

-- A refresh goes to a rank that has the own vertex as the ghost of its slot.
pub record IsPendingTo (parts : List Portion) (rank : ℕ) (pending : PendingRefresh) : Type 0 where
  pub holder : Portion
  pub ghost_there : Ghost
  pub there : slice_get parts pending.holder.rank.0 ≡ Some holder
  pub held : slice_get holder.ghosts pending.holder.slot ≡ Some ghost_there
  pub home : ghost_there.home.0 ≡ rank
  pub place : ghost_there.place ≡ pending.place

-- Ghosts and refreshes mirror each other, and each refresh stands once.
pub record AreRefreshesMirrored (parts : List Portion) : Type 0 where
  pub mirrored : AreMirrored parts
  pub kept : (rank slot : ℕ) (p : Portion) (g : Ghost) → slice_get parts rank ≡ Some p → slice_get p.ghosts slot ≡ Some g → IsPendingFrom parts rank slot g
  pub held : (rank entry : ℕ) (p : Portion) (pending : PendingRefresh) → slice_get parts rank ≡ Some p → slice_get (refreshes_of p) entry ≡ Some pending → IsPendingTo parts rank pending
  pub one_pending : (rank k l : ℕ) (p : Portion) (pending : PendingRefresh) → slice_get parts rank ≡ Some p → slice_get (refreshes_of p) k ≡ Some pending → slice_get (refreshes_of p) l ≡ Some pending → k ≡ l
