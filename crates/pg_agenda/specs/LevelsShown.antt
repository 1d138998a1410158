-- What `Levels` shows its caller.
use Rattle.std.specs.Prelude.{ℕ, Bool, List, length}
use Rattle.pg_agenda.specs.declared.levels.Levels.{Levels}
use Rattle.pg_agenda.specs.Shares.{Places, only_all}
use Rattle.pg_agenda.specs.LevelLists.{is_set, is_in}

-- how many places there are
abbrev pub place_count : Levels → ℕ
place_count levels = length levels.pending.items

-- for each place whether it is pending
abbrev pub pending_flags : Levels → List Bool
pending_flags levels = levels.pending.items

-- the places of this level
abbrev pub this_level : Levels → List ℕ
this_level levels = levels.this.items

-- the places of the next level
abbrev pub next_level : Levels → List ℕ
next_level levels = levels.next.items

-- a place of either level is pending for all its arcs
abbrev pub pending_places : Levels → Places
pending_places levels = only_all (is_set (pending_flags levels))

-- a place of this level is ready
abbrev pub ready_places : Levels → Places
ready_places levels = only_all (is_in (this_level levels))
