use Rattle.pg_uses.proofs.NeighbourLaws.{of_path, one_list}
use Rattle.pg_uses.proofs.laws.neighbours.Goals as goal

pub returns : goal.returns
returns c = record { one = one_list; path = of_path }
