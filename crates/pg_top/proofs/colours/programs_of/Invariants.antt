use Rattle.std.proofs.Common.{◌≡◌, ◌+◌, ◌≤◌, ◌++◌, length, map, reverse, vec_len}
use Rattle.std.specs.Vec.{vec_capacity}
use Rattle.pg_group.specs.Entries.{Each}
use Rattle.pg_colour.specs.Shown.{IsNewColouring, part_in}
use Rattle.pg_top.proofs.colours.programs_of.Given as goal

abbrev pub invariant-loop-part : goal.invariant-loop-part
invariant-loop-part l =
    record {
      parts : l.fn.parts.items ≡ l.parts.items ++ map part_in (reverse l.programs.items);
      fit : length l.parts.items + length l.programs.items ≤ vec_capacity l.programs;
      new : Each (λ rank p. IsNewColouring p) (reverse l.programs.items);
    }

abbrev pub decreases-loop-part : goal.decreases-loop-part
decreases-loop-part l = vec_len l.parts
