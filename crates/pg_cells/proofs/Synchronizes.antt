-- The two laws of a synchronize, over the parts of one division.
use Rattle.std.specs.Prelude.{◌≡◌, ℕ}
use Rattle.pg_cells.specs.Freshness.{BackwardRefreshes, ForwardJoins}
use Rattle.pg_cells.proofs.Mirror.{mirrored}
use Rattle.pg_cells.proofs.Backward.{backward_refreshes}
use Rattle.pg_cells.proofs.Forward.{forward_joins}

module _ (join : ℕ → ℕ → ℕ) (start : ℕ → ℕ) where
  pub backward_law : BackwardRefreshes join start
  backward_law flags parts runs cells division = backward_refreshes join start flags parts runs cells (mirrored parts division)

  pub forward_law : ((a b c : ℕ) → join (join a b) c ≡ join a (join b c)) → ForwardJoins join start
  forward_law associative flags parts runs cells division all backward forward =
      forward_joins join start parts (mirrored parts division) flags runs cells all associative backward forward
