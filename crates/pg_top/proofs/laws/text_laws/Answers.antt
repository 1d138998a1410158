use Rattle.pg_top.proofs.OneText.{text_is_one}
use Rattle.pg_top.proofs.laws.text_laws.Goals as goal

pub returns : goal.returns
returns c = text_is_one
