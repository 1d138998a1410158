use Rattle.std.proofs.Common.{sym, subst}
use Rattle.pg_run.specs.Kept.{Follows}
use Rattle.pg_run.proofs.Ready.{one_followed}
use Rattle.pg_run_tests.proofs.gate_tests.turn_one.Goals as goal

pub returns : goal.returns
returns g c = record {
  follow = one_followed g.met.M.Outbox.later_same g.met.M.Outbox.later_on c.args.machines.now c.args.rank c.index-machines-rank.result c.turn.new.self c.requires c.index-machines-rank.is (subst (λ (w : _). Follows w c.turn.new.self) (sym c.index-machines-rank.is) c.turn.ensures.follows);
}
