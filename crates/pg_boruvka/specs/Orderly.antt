-- What is so of each arc of a rank.
use Rattle.std.specs.Prelude.{ℕ, ◌<◌}
use Rattle.pg_adj.specs.Portions.{IsVertex}
use Rattle.pg_boruvka.specs.declared.TheConstants.{NO_KEY}
use Rattle.pg_boruvka.specs.Parts.{LocalArc}

-- An arc between vertices. Its key is less than what stands for none.
pub record IsOrderly (n : ℕ) (a : LocalArc) : Type 0 where
  pub from : IsVertex n a.from
  pub to : IsVertex n a.to
  pub key : a.key < NO_KEY
