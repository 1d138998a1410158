use Rattle.pg_text.proofs.AheadLemmas.{lines_within-all, lines_within-line, lines_within-none}
use Rattle.pg_text.proofs.laws.limit_laws.Goals as goal

pub returns : goal.returns
returns c = record { short_texts = lines_within-all; counted = lines_within-line; long_lines = lines_within-none }
