use Rattle.pg_relax.proofs.WholeLemmas.{whole_is_best, whole_is_relaxed, whole_ends_alike}
use Rattle.pg_relax.proofs.laws.whole_runs.Goals as goal

pub returns : goal.returns
returns c = record { best = whole_is_best; relaxed = whole_is_relaxed; alike = whole_ends_alike }
