use Rattle.std.proofs.Common.{refl}
use Rattle.pg_boruvka.proofs.RoundsEnding.{up_keeps}
use Rattle.pg_base.specs.declared.TheConstants.{MAX_VERTICES}
use Rattle.pg_boruvka.specs.Known.{view_of}
use Rattle.pg_boruvka.proofs.BeginningPhases.{new_keeps}
use Rattle.pg_boruvka.proofs.programs.DenseProgram.rank.Goals as goal

pub returns-clause-opening : goal.returns-clause-opening
returns-clause-opening c = λ new. record { part = refl; chosen = new_keeps MAX_VERTICES (view_of c.args.self.now) new.view }
