use Rattle.std.proofs.Common.{◌≡◌, ◌<◌, ℕ, length, map, slice_index_or}
use Rattle.pg_adj.specs.Portions.{Portion}
use Rattle.pg_adj.specs.Division.{IsPartOf}
use Rattle.pg_adj.specs.Shares.{ghost_lists}
use Rattle.pg_adj.proofs.SideBySide.{AreYielded}
use Rattle.pg_adj.proofs.splitting.joined.Given as goal

abbrev pub invariant-loop-share : goal.invariant-loop-share
invariant-loop-share g l = record {
  count : length l.parts.items ≡ length l.yielded;
  part : (r : ℕ) (d : Portion) → r < length l.yielded → IsPartOf (g.D.Distribution.sharing l.dist)
      l.graph (ghost_lists l.fn.shares.items) r (slice_index_or l.parts.items r d);
  ghosts : map (λ p. p.ghosts) l.parts.items ≡ ghost_lists (map (λ p. p.0) l.yielded);
  yielded : AreYielded l.fn.shares.items l.fn.holders.items l.yielded l.share-iterator;
}
