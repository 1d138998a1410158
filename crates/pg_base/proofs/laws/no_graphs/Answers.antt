-- Each list breaks the rule that its clause names, at its first edge or between its two.
use Rattle.std.proofs.Common.{refl, arith}
use Rattle.pg_base.specs.Examples.{edge}
use Rattle.pg_base.proofs.laws.no_graphs.Goals as goal

pub returns-clause-pair_twice : goal.returns-clause-pair_twice
returns-clause-pair_twice c = λ is. let p = is.ascending 0 1 (edge 0 0 0) (omega arith) (omega arith) in omega (arith, p.second refl)

pub returns-clause-self_edge : goal.returns-clause-self_edge
returns-clause-self_edge c = λ is. let e = is.within 0 (edge 0 0 0) (omega arith) in omega (arith, e.ascends)

pub returns-clause-descending_ends : goal.returns-clause-descending_ends
returns-clause-descending_ends c = λ is. let e = is.within 0 (edge 0 0 0) (omega arith) in omega (arith, e.ascends)

pub returns-clause-no_weight : goal.returns-clause-no_weight
returns-clause-no_weight c = λ is. omega (arith, is.positive 0 (edge 0 0 0) (omega arith))

pub returns-clause-first_past : goal.returns-clause-first_past
returns-clause-first_past c = λ is. let e = is.within 0 (edge 0 0 0) (omega arith) in omega (arith, e.first)

pub returns-clause-last_past : goal.returns-clause-last_past
returns-clause-last_past c = λ is. let e = is.within 0 (edge 0 0 0) (omega arith) in omega (arith, e.last)

pub returns-clause-out_of_order : goal.returns-clause-out_of_order
returns-clause-out_of_order c = λ is. let p = is.ascending 0 1 (edge 0 0 0) (omega arith) (omega arith) in omega (arith, p.first)

pub returns-clause-seconds_out_of_order : goal.returns-clause-seconds_out_of_order
returns-clause-seconds_out_of_order c = λ is. let p = is.ascending 0 1 (edge 0 0 0) (omega arith) (omega arith) in omega (arith, p.second refl)
