use Rattle.std.proofs.Common.{Some, None, refl}
use Rattle.pg_text.specs.Coming.{coming}
use Rattle.pg_text.proofs.readers.LineReader.new.Goals as goal

pub returns-clause-coming : goal.returns-clause-coming
unfolding coming
returns-clause-coming c None = refl
returns-clause-coming c (Some text) = refl
