use Rattle.pg_bench.proofs.CountedItems.{item_counted}
use Rattle.pg_bench.proofs.counted.CountedProgram.handle.Goals as goal

pub returns-clause-kept : goal.returns-clause-kept
returns-clause-kept g c = λ start handled sent kept. (
  c.handle.ensures.kept start.program handled sent kept.0,
  item_counted (g.P.Program.size c.args.self.now.program) _ c.args.self.now.taken c.args.from.0 c.args.body handled c.handle.ensures.same_size c.requires.0 kept.1,
)
