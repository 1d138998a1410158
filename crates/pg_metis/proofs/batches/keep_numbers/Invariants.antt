use Rattle.std.proofs.Common.{◌≡◌, ◌++◌, map, take}
use Rattle.pg_metis.proofs.batches.keep_numbers.Given as goal

-- The numbers of the lines so far are kept.
abbrev pub invariant-loop-line : goal.invariant-loop-line
invariant-loop-line l = l.numbers.items ≡ l.fn.numbers.items ++ map (λ line. line.number) (take l.line-index l.lines)
