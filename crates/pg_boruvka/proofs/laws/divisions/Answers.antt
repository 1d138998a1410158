use Rattle.pg_boruvka.proofs.Divisions.{divisions_serve}
use Rattle.pg_boruvka.proofs.laws.divisions.Goals as goal

pub returns : goal.returns
returns c = divisions_serve
