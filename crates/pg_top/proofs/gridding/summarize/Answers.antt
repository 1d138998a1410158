use Rattle.std.proofs.Common.{None}
use Rattle.pg_top.proofs.SummaryLemmas.{colours_apart}
use Rattle.pg_top.proofs.gridding.summarize.Goals as goal

pub told-requires-clause-apart : goal.told-requires-clause-apart
told-requires-clause-apart g c =
    let coloured = c.in_ok-coloured.coloured in
    colours_apart None c.args.crew.now.ranks c.args.crew.now.capacity c.args.graph coloured.colours.of_vertices.items coloured.finished.programs.items coloured.finished.lanes.items c.in_ok-coloured.ensures

pub returns-clause-work : goal.returns-clause-work
returns-clause-work g c =
    c.told.ensures.work c.args.delta c.args.crew.now.ranks c.args.crew.now.capacity c.in_ok-searched.ensures.carried c.in_ok-weighted.ensures.carried c.in_ok-grown.ensures.held c.in_ok-coloured.ensures
