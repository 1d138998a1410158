-- The digits of small numbers are computed.
use Rattle.std.proofs.Common.{refl}
use Rattle.std.specs.Fmt.{digits}
use Rattle.pg_print.proofs.laws.fault_lines.Goals as goal

pub returns-clause-graph : goal.returns-clause-graph
unfolding digits
returns-clause-graph c = refl

pub returns-clause-header : goal.returns-clause-header
unfolding digits
returns-clause-header c = refl

pub returns-clause-source : goal.returns-clause-source
unfolding digits
returns-clause-source c = refl

pub returns-clause-parts : goal.returns-clause-parts
unfolding digits
returns-clause-parts c = refl
