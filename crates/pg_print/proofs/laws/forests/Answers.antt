-- The digits of small numbers are computed.
use Rattle.std.proofs.Common.{refl}
use Rattle.std.specs.Fmt.{digits}
use Rattle.pg_print.proofs.laws.forests.Goals as goal

pub returns-clause-no_edge : goal.returns-clause-no_edge
unfolding digits
returns-clause-no_edge c = refl

pub returns-clause-path : goal.returns-clause-path
unfolding digits
returns-clause-path c = refl

pub returns-clause-chosen : goal.returns-clause-chosen
unfolding digits
returns-clause-chosen c = refl
