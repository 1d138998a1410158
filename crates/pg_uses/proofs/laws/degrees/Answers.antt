use Rattle.std.proofs.Common.{◌==◌, ◌||◌, inr, refl, arith}
use Rattle.std.proofs.lemmas.List.Sums.{count_by-le-length}
use Rattle.pg_base.specs.Examples.{path_edges}
use Rattle.pg_uses.specs.Degrees.{IsDegree}
use Rattle.pg_uses.proofs.Greatests.{one_greatest}
use Rattle.pg_uses.proofs.laws.degrees.Goals as goal

pub returns : goal.returns
returns c = record {
  one = λ g x y. one_greatest (IsDegree g) x y;
  path = record {
    bounds = λ y d. omega (arith, d.has, count_by-le-length (λ e. e.u == d.vertex || e.v == d.vertex) path_edges);
    reached = inr (record { vertex = 2; first = omega arith; last = omega arith; has = refl });
  };
}
