use Rattle.std.proofs.Common.{refl}
use Rattle.pg_colour.specs.Shown.{state_of}
use Rattle.pg_colour.proofs.Stepping.{opening_keeps}
use Rattle.pg_colour.proofs.programs.ColouringProgram.rank.Goals as goal

pub returns-clause-opening : goal.returns-clause-opening
returns-clause-opening c = λ new. record {
  part = refl;
  coloured = opening_keeps c.args.self.now.part (state_of c.args.self.now) new.opening;
}
