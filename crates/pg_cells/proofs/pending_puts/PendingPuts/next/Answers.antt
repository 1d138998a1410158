use Rattle.std.proofs.Common.{◌≡◌, ◌∙◌, sym, rules}
use Rattle.pg_cells.specs.PendingPuts.{next_slot}
use Rattle.pg_cells.proofs.Owing.{none_left, no_notes_left, next_has}
use Rattle.pg_cells.proofs.pending_puts.PendingPuts.next.Goals as goal

pub returns-clause-pending_put : goal.returns-clause-pending_put
returns-clause-pending_put c = let s = c.args.self.now in let is : c.copied.result ≡ next_slot s.slots.items = search rules in next_has s.owed.items s.noted.items s.slots.items _ s.listed is

pub returns-clause-owed : goal.returns-clause-owed
returns-clause-owed c e = let s = c.args.self.now in let is : c.copied.result ≡ next_slot s.slots.items = search rules in none_left s.owed.items s.noted.items s.slots.items s.listed (sym is ∙ e)

pub returns-clause-noted : goal.returns-clause-noted
returns-clause-noted c e = let s = c.args.self.now in let is : c.copied.result ≡ next_slot s.slots.items = search rules in no_notes_left s.owed.items s.noted.items s.slots.items s.listed (sym is ∙ e)
