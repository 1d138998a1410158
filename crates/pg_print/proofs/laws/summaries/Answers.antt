-- The digits of small numbers are computed.
use Rattle.std.proofs.Common.{refl}
use Rattle.std.specs.Fmt.{digits}
use Rattle.pg_print.proofs.laws.summaries.Goals as goal

pub returns : goal.returns
unfolding digits
returns c = refl
