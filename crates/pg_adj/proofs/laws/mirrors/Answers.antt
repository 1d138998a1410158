use Rattle.pg_adj.proofs.Mirror.{ghosts_mirror_holders}
use Rattle.pg_adj.proofs.laws.mirrors.Goals as goal

pub returns : goal.returns
returns c = record { mirrored = ghosts_mirror_holders }
