-- What a pair shows its caller.
use Rattle.std.specs.Prelude.{Bool}
use Rattle.pg_group.specs.declared.programs.Program.{Ghosts as ProgramGhosts}
use Rattle.pg_triggers.specs.declared.pairs.Pair.{Pair}

module _ {A B X Y : Type 0} {p : ProgramGhosts A X} {q : ProgramGhosts B Y} where
  -- its first member
  abbrev pub first_of : Pair A B X Y p q → A
  first_of pair = pair.first

  -- its second member
  abbrev pub second_of : Pair A B X Y p q → B
  second_of pair = pair.second

  -- whether its first member has ended
  abbrev pub first_ended : Pair A B X Y p q → Bool
  first_ended pair = pair.first_ended

  -- whether its second member has ended
  abbrev pub second_ended : Pair A B X Y p q → Bool
  second_ended pair = pair.second_ended
