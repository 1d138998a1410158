use Rattle.std.proofs.Common.{◌≡◌, ◌+◌, ◌≤◌, ◌++◌, length, map, reverse, vec_len, None}
use Rattle.std.specs.Vec.{vec_capacity}
use Rattle.pg_group.specs.Entries.{Each}
use Rattle.pg_relax.specs.Shown.{IsNewRelax}
use Rattle.pg_top.specs.Paired.{hops_in, roots_in}
use Rattle.pg_top.proofs.pairs.pairs_of.Given as goal

abbrev pub invariant-loop-first : goal.invariant-loop-first
invariant-loop-first l =
    record {
      hops : l.fn.hops.items ≡ l.hops.items ++ map hops_in (reverse l.pairs.items);
      roots : l.fn.roots.items ≡ l.roots.items ++ map roots_in (reverse l.pairs.items);
      count : length l.roots.items ≡ length l.hops.items;
      fit : length l.hops.items + length l.pairs.items ≤ vec_capacity l.pairs;
      new : Each (λ rank p. IsNewRelax (hops_in p) × IsNewRelax (roots_in p) × (p.vote ≡ None)) (reverse l.pairs.items);
    }

abbrev pub decreases-loop-first : goal.decreases-loop-first
decreases-loop-first l = vec_len l.hops
