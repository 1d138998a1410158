use Rattle.std.proofs.Common.{◌≡◌, ◌+◌, ◌≤◌, ◌++◌, length, map, reverse, vec_len}
use Rattle.std.specs.Vec.{vec_capacity}
use Rattle.pg_group.specs.Entries.{Each}
use Rattle.pg_boruvka.specs.Known.{part_in}
use Rattle.pg_boruvka.specs.Portions.{part_of}
use Rattle.pg_boruvka.specs.Shown.{IsNewDense}
use Rattle.pg_top.specs.Grown.{HaveEdgesBelow}
use Rattle.pg_top.proofs.forests.programs_of.Given as goal

abbrev pub invariant-loop-part : goal.invariant-loop-part
invariant-loop-part l =
    record {
      parts : map (part_of l.edges) l.fn.parts.items ≡ map (part_of l.edges) l.parts.items ++ map part_in (reverse l.programs.items);
      fit : length l.parts.items + length l.programs.items ≤ vec_capacity l.programs;
      new : Each (λ rank p. IsNewDense p) (reverse l.programs.items);
      below : HaveEdgesBelow l.edges l.parts.items;
    }

abbrev pub decreases-loop-part : goal.decreases-loop-part
decreases-loop-part l = vec_len l.parts
