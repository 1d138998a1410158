-- How many phases a count has counted.
use Rattle.std.specs.Prelude.{ℕ, suc}
use Rattle.pg_boruvka.specs.declared.rounds.Phases.{Phases, None, OneMore'}

abbrev pub count_of : Phases → ℕ
count_of None = 0
count_of (OneMore' marker before) = suc (count_of before)
