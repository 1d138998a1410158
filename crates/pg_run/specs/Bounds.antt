-- How much is taken and sent at most.
use Rattle.std.specs.Prelude.{◌≡◌, ◌≢◌, ◌+◌, ◌≤◌, ℕ, suc, List, [], ◌∷◌, length}
use Rattle.pg_group.specs.declared.programs.Program.{Ghosts as ProgramGhosts}
use Rattle.pg_group.specs.declared.outboxes.Outbox.{Ghosts as OutboxGhosts}
use Rattle.pg_group.specs.declared.mailboxes.Mailbox.{Ghosts as MailboxGhosts}
use Rattle.pg_group.specs.declared.messages.Body.{Body}
use Rattle.pg_group.specs.declared.messages.Body.TheVariants.{Item, Mark}
use Rattle.pg_group.specs.Ranked.{list_at}
use Rattle.pg_run.specs.Machines.{port_of}
use Rattle.pg_run.specs.declared.runners.Runner.{Runner}

module _ {B : Type 0} where
  -- how many items a list has
  abbrev pub item_count : List (Body B) → ℕ
  item_count [] = 0
  item_count (Item x ∷ bs) = suc (item_count bs)
  item_count (Mark v ∷ bs) = item_count bs

  -- how many items the lists have together
  abbrev pub items_together : List (List (Body B)) → ℕ
  items_together [] = 0
  items_together (list ∷ lists) = item_count list + items_together lists

module _ {P M B : Type 0} {p : ProgramGhosts P B} {m : MailboxGhosts M B} {o : OutboxGhosts M B} where
  -- Each list taken grew by at most so many messages, and all lists sent together by at most so many items.
  pub record AtMost (messages items : ℕ) (old new : Runner P M B p m o) : Type 0 where
    pub taken : (rank : ℕ) → length (list_at (m.taken (port_of new)) rank) ≤ length (list_at (m.taken (port_of old)) rank) + messages
    pub sent : items_together (o.sent (port_of new)) ≤ items_together (o.sent (port_of old)) + items

  -- only the list taken from this rank grew
  abbrev pub OnlyFrom : ℕ → Runner P M B p m o → Runner P M B p m o → Type 0
  OnlyFrom from old new = (rank : ℕ) → rank ≢ from → list_at (m.taken (port_of new)) rank ≡ list_at (m.taken (port_of old)) rank
