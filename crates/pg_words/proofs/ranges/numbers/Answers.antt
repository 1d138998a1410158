use Rattle.std.proofs.Common.{◌≡◌, true}
use Rattle.clap.specs.Matches.{found_of}
use Rattle.clap.specs.Walk.{rows_of}
use Rattle.pg_words.specs.Needs.{fits}
use Rattle.pg_words.proofs.PlanLaws.{grid_sides}
use Rattle.pg_words.proofs.ranges.numbers.Goals as goal

pub returns-clause-range : goal.returns-clause-range
returns-clause-range c =
    let fit : fits c.args.algorithm (rows_of (found_of c.args.matches.now)) ≡ true = cc in
    record {
      crew = c.in_ok-crew.ensures.range;
      delta = λ is. c.in_ok-search.ensures.range is;
      sides = λ is. let given = grid_sides c.args.algorithm (rows_of (found_of c.args.matches.now)) fit is in c.in_ok-size.ensures.sides given.0 given.1;
      size = c.in_ok-size.ensures.range;
    }
