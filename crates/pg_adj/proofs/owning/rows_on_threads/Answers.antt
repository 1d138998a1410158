use Rattle.std.proofs.Common.{length, ap, arith}
use Rattle.pg_adj.proofs.TakenRows.{taken_rows}
use Rattle.pg_adj.proofs.owning.rows_on_threads.Goals as goal

pub returns-clause-row : goal.returns-clause-row
returns-clause-row g c =
    taken_rows (g.D.Distribution.sharing c.args.dist.now) c.args.graph.now.edges c.edges-2.result.now c.make_rows.new.made _ c.in_ok-made.made.len c.taken.result (λ rows. rows.items)
    c.edges-2.ensures.value (omega (arith, c.make_rows.ensures.size, ap length c.deref_mut.ensures.value, c.in_ok-made.made.ok.0)) c.make_rows.ensures.rows c.taken.ensures
