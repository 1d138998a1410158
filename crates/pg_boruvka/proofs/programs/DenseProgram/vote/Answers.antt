use Rattle.std.proofs.Common.{refl, arith, ◌≤◌}
use Rattle.pg_base.specs.declared.TheConstants.{MAX_VERTICES}
use Rattle.pg_boruvka.specs.Known.{view_of}
use Rattle.pg_boruvka.proofs.Passing.{voted_keeps}
use Rattle.pg_boruvka.proofs.Regular.{regular_of}
use Rattle.pg_boruvka.proofs.programs.DenseProgram.vote.Goals as goal

pub returns-clause-kept : goal.returns-clause-kept
returns-clause-kept c = λ start handled sent kept.
    let d = c.args.self.now in
    record {
      part = kept.part;
      chosen = voted_keeps MAX_VERTICES handled sent (view_of d) kept.chosen (regular_of d) c.requires.uncast (record { a = 0; b = 0; c = 0; d = 0 })
          (record { a = refl; b = refl; c = refl; d = refl }) (omega (arith, d.rests c.requires.idle, d.is_size));
    }
