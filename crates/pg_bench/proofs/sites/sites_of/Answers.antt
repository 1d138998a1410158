use Rattle.std.proofs.Common.{sym, ◌∙◌}
use Rattle.pg_run.proofs.Seating.{in_group}
use Rattle.pg_bench.proofs.sites.sites_of.Goals as goal

pub seated-requires-clause-own : goal.seated-requires-clause-own
seated-requires-clause-own g c = λ place part port at_part at_port.
    (in_group _ c.in_ok-group.group.items c.in_ok-group.ensures.group place port at_port).0 ∙ sym (c.requires.rank place part at_part)

pub seated-requires-clause-size : goal.seated-requires-clause-size
seated-requires-clause-size g c = λ place part port at_part at_port.
    (in_group _ c.in_ok-group.group.items c.in_ok-group.ensures.group place port at_port).1 ∙ c.in_ok-group.ensures.count ∙ sym (c.requires.ranks place part at_part)
