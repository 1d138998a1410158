use Rattle.std.proofs.Common.{◌≡◌, ◌++◌, length}
use Rattle.std.specs.Vec.Iter.{into_iter_items, into_iter_len}
use Rattle.pg_group.specs.Entries.{Each}
use Rattle.pg_bench.specs.Counts.{items_taken}
use Rattle.pg_bench.specs.Pairs.{EachPair}
use Rattle.pg_bench.proofs.groups.programs_of.Given as goal

abbrev pub invariant-loop-part : goal.invariant-loop-part
invariant-loop-part g l = record {
  count : length l.programs.items ≡ length l.yielded;
  rest : l.yielded ++ into_iter_items l.part-iterator ≡ l.fn.parts.items;
  left : into_iter_len l.part-iterator ≡ length (into_iter_items l.part-iterator);
  new : Each (λ rank p. g.P.Program.IsNew p.program × (items_taken p ≡ 0)) l.programs.items;
  own : EachPair (λ part p. g.P.Program.own p.program ≡ part.rank) l.yielded l.programs.items;
  size : EachPair (λ part p. g.P.Program.size p.program ≡ part.ranks) l.yielded l.programs.items;
  is_of : EachPair (λ part p. g.M.Maker.IsOf l.maker part p.program) l.yielded l.programs.items;
}
