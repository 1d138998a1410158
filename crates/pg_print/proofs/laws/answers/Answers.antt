-- The digits of small numbers are computed.
use Rattle.std.proofs.Common.{refl}
use Rattle.std.specs.Fmt.{digits}
use Rattle.pg_print.proofs.laws.answers.Goals as goal

pub returns-clause-zero : goal.returns-clause-zero
unfolding digits
returns-clause-zero c = refl

pub returns-clause-twelve : goal.returns-clause-twelve
unfolding digits
returns-clause-twelve c = refl

pub returns-clause-column : goal.returns-clause-column
unfolding digits
returns-clause-column c = refl
