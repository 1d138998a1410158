use Rattle.std.proofs.Common.{◌≡◌, length}
use Rattle.pg_adj.proofs.owning.no_rows.Given as goal

abbrev pub invariant-loop : goal.invariant-loop
invariant-loop l = length l.made.items ≡ l.counter
