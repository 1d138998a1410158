-- How many rounds a count has counted.
use Rattle.std.specs.Prelude.{ℕ, suc}
use Rattle.pg_colour.specs.declared.rounds.Rounds.{Rounds, None, OneMore'}

abbrev pub count_of : Rounds → ℕ
count_of None = 0
count_of (OneMore' marker before) = suc (count_of before)
