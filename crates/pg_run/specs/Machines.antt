-- What a machine shows, and a group of them.
use Rattle.std.specs.Prelude.{ℕ, Bool, List, length}
use Rattle.pg_group.specs.declared.programs.Program.{Ghosts as ProgramGhosts}
use Rattle.pg_group.specs.declared.outboxes.Outbox.{Ghosts as OutboxGhosts}
use Rattle.pg_group.specs.declared.mailboxes.Mailbox.{Ghosts as MailboxGhosts}
use Rattle.pg_run.specs.Room.{HasRoomFor}
use Rattle.pg_run.specs.declared.runners.Runner.{Runner}
use Rattle.pg_run.specs.declared.groups.Assembly.{Assembly}

module _ {P M B : Type 0} {p : ProgramGhosts P B} {m : MailboxGhosts M B} {o : OutboxGhosts M B} where
  -- the state in which a machine's program began
  abbrev pub opening_of : Runner P M B p m o → P
  opening_of r = r.opening.value

  -- its program, in its present state
  abbrev pub program_of : Runner P M B p m o → P
  program_of r = r.program

  -- the mailbox that its program stands at
  abbrev pub port_of : Runner P M B p m o → M
  port_of r = r.outlet.port

  -- how many turns it had, modulo 2^64
  abbrev pub turns_of : Runner P M B p m o → ℕ
  turns_of r = r.turns

  -- whether its program's vote of this round is cast
  abbrev pub has_voted : Runner P M B p m o → Bool
  has_voted r = r.voted

  -- whether its program has ended
  abbrev pub has_ended : Runner P M B p m o → Bool
  has_ended r = r.done

  -- the machines of a group, by rank
  abbrev pub machines_of : Assembly P M B p m o → List (Runner P M B p m o)
  machines_of a = a.runners.items

  -- the group has room for what its machines leave at the end
  abbrev pub HasRoom : Assembly P M B p m o → Type 0
  HasRoom a = HasRoomFor (length (machines_of a)) a.programs a.ports a.lanes
