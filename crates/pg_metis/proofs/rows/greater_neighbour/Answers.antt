use Rattle.std.proofs.Common.{arith}
use Rattle.pg_metis.proofs.AscendingLemmas.{greater-fine}
use Rattle.pg_metis.proofs.rows.greater_neighbour.Goals as goal

pub returns-clause-faultless : goal.returns-clause-faultless
returns-clause-faultless c = λ earlier below. greater-fine c.args.n c.args.vertex c.args.last c.in-Ok.to earlier c.args.word.now c.in-Ok.ensures.ok c.in-Ok.ensures.value (omega arith) (omega arith) c.if-to-vertex.false below
