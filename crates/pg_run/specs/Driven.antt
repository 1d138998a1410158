-- Lists of machines, and what driving them does.
use Rattle.std.specs.Prelude.{◌≡◌, ◌+◌, ◌%◌, ◌^◌, ℕ, List, map, true, false}
use Rattle.pg_group.specs.declared.programs.Program.{Ghosts as ProgramGhosts}
use Rattle.pg_group.specs.declared.outboxes.Outbox.{Ghosts as OutboxGhosts}
use Rattle.pg_group.specs.declared.mailboxes.Mailbox.{Ghosts as MailboxGhosts}
use Rattle.pg_group.specs.Entries.{Each}
use Rattle.pg_group.specs.Grouped.{AreOneGroup}
use Rattle.pg_run.specs.Bounds.{AtMost}
use Rattle.pg_run.specs.Kept.{Kept, Follows}
use Rattle.pg_run.specs.Machines.{port_of, turns_of, has_ended}
use Rattle.pg_run.specs.Repeated.{Repeated, RepeatedToEnd, AllStepped}
use Rattle.pg_run.specs.Turns.{Answers}
use Rattle.pg_run.specs.declared.runners.Runner.{Runner}
use Rattle.pg_run.specs.declared.turns.Turn.{Turn}

module _ {P M B : Type 0} {p : ProgramGhosts P B} {m : MailboxGhosts M B} {o : OutboxGhosts M B} where
  -- each machine has become the one that stands in its place
  abbrev pub HaveFollowed : List (Runner P M B p m o) → List (Runner P M B p m o) → Type 0
  HaveFollowed = AllStepped Follows

  -- The machine had one turn, which answered something. One that had ended stays; any other counts a turn more.
  pub record HadTurn (old new : Runner P M B p m o) : Type 0 where
    pub follows : Follows old new
    pub bounds : AtMost 64 256 old new
    pub answer : Turn
    pub answers : Answers answer old new
    pub stays : has_ended old ≡ true → new ≡ old
    pub counted : has_ended old ≡ false → turns_of new ≡ (turns_of old + 1) % 2 ^ 64

  -- one pass: each machine had one turn in its place
  abbrev pub HadPass : List (Runner P M B p m o) → List (Runner P M B p m o) → Type 0
  HadPass = AllStepped HadTurn

  -- so many passes, one after another
  abbrev pub HadPasses : ℕ → List (Runner P M B p m o) → List (Runner P M B p m o) → Type 0
  HadPasses = Repeated HadPass

  -- one pass of groups: each machine had so many turns in its place, or fewer and has ended
  abbrev pub HadGroupPass : ℕ → List (Runner P M B p m o) → List (Runner P M B p m o) → Type 0
  HadGroupPass turns = AllStepped (RepeatedToEnd HadTurn has_ended turns)

  -- The machines of one whole group, in order of rank, which all keep their programs' promises.
  pub record AreReady (runners : List (Runner P M B p m o)) : Type 0 where
    pub group : AreOneGroup (map (λ r. m.wiring (port_of r)) runners)
    pub kept : Each (λ rank r. Kept r) runners
