use Rattle.std.proofs.Common.{◌≡◌, length, sym, rules}
use Rattle.pg_dist.specs.Seats.{owners_of, places_of}
use Rattle.pg_dist.specs.Tables.{AreRanks, ArePlaces, AreStarts, AreInSlots}
use Rattle.pg_dist.proofs.lists.Listed.new.Goals as goal

-- what `tables_of` told of the list that is lent to it
told_owners : (c : goal.In_ok-tables) → owners_of c.in_ok-tables.tables.seats.items ≡ c.deref.result.now
told_owners c = search rules

told_ranks : (c : goal.In_ok-tables) → AreRanks c.deref.result.now c.args.ranks
told_ranks c = search rules

told_places : (c : goal.In_ok-tables) → ArePlaces c.deref.result.now (places_of c.in_ok-tables.tables.seats.items)
told_places c = search rules

told_starts : (c : goal.In_ok-tables) → AreStarts c.deref.result.now c.args.ranks c.in_ok-tables.tables.starts.items
told_starts c = search rules

told_slots : (c : goal.In_ok-tables)
    → AreInSlots c.deref.result.now (length c.deref.result.now) c.in_ok-tables.tables.vertices.items
told_slots c = search rules

told_each_slot : (c : goal.In_ok-tables) → length c.in_ok-tables.tables.vertices.items ≡ length c.deref.result.now
told_each_slot c = search rules

pub invariant_of-result-clause-are_ranks : goal.invariant_of-result-clause-are_ranks
invariant_of-result-clause-are_ranks c = rw (told_owners c) (told_ranks c)

pub invariant_of-result-clause-are_places : goal.invariant_of-result-clause-are_places
invariant_of-result-clause-are_places c = rw (sym (told_owners c)) at (told_places c)

pub invariant_of-result-clause-are_starts : goal.invariant_of-result-clause-are_starts
invariant_of-result-clause-are_starts c = rw (told_owners c) (told_starts c)

pub invariant_of-result-clause-in_slots : goal.invariant_of-result-clause-in_slots
invariant_of-result-clause-in_slots c = rw (sym (told_owners c)) at (told_slots c)

pub invariant_of-result-clause-each_slot : goal.invariant_of-result-clause-each_slot
invariant_of-result-clause-each_slot c = rw (told_owners c) (told_each_slot c)
