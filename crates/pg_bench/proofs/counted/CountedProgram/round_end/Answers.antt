use Rattle.pg_bench.proofs.CountedItems.{marks_uncounted}
use Rattle.pg_bench.proofs.counted.CountedProgram.round_end.Goals as goal

pub returns-clause-kept : goal.returns-clause-kept
returns-clause-kept g c = λ start handled sent kept. (
  c.round_end.ensures.kept start.program handled sent kept.0,
  marks_uncounted (g.P.Program.size c.args.self.now.program) _ c.args.self.now.taken (g.P.Program.own c.args.self.now.program) c.args.votes.now handled c.round_end.ensures.same_size kept.1,
)
