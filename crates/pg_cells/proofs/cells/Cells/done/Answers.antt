use Rattle.std.proofs.Common.{false, cond, None, length, replicate, set, sym, ap, ◌∙◌, vec_len, arith}
use Rattle.pg_cells.specs.Unsent.{unsent_from}
use Rattle.pg_cells.specs.Shown.{state_of}
use Rattle.pg_cells.proofs.Padded.{set_padded}
use Rattle.pg_cells.proofs.NextSends.{sent_more}
use Rattle.pg_cells.proofs.cells.Cells.done.Goals as goal

pub returns-in-PutOf-clause-state : goal.returns-in-PutOf-clause-state
returns-in-PutOf-clause-state g c =
    let s = c.args.self.now in
    let old = s.pending_puts in
    let slot = c.in-PutOf.slot in
    let ghosts = length s.part.value.ghosts in
    let put = ap (λ os. cond s.flags.forward os (replicate ghosts None)) c.settle.ensures.owed ∙ set_padded s.flags.forward old.owed.items ghosts slot None in
    let note = ap (λ ns. cond s.flags.flush ns (replicate ghosts false)) c.settle.ensures.noted ∙ set_padded s.flags.flush old.noted.items ghosts slot false in
    rw c.in-PutOf.is (ap (λ os. record (state_of s) { owed = os; noted = cond s.flags.flush c.settle.new.self.noted.items (replicate ghosts false) }) put
    ∙ ap (λ ns. record (state_of s) { owed = set (state_of s).owed slot None; noted = ns }) note)

pub returns-in-RefreshOf-clause-state : goal.returns-in-RefreshOf-clause-state
returns-in-RefreshOf-clause-state g c =
    let pending = rw c.in-RefreshOf.is at c.requires in
    let old = c.args.self.now.refreshes in
    let new = c.sent.new.self in
    let more = sent_more (vec_len old.entries) old.next (omega (arith, old.entries.ok.0, pending.1, pending.2)) in
    rw c.in-RefreshOf.is (ap (λ us. record (state_of c.args.self.now) { unsent = us })
    (ap (λ ds. unsent_from (vec_len ds) new.next) c.sent.ensures.entries ∙ (ap (unsent_from (vec_len old.entries)) c.sent.ensures.next
    ∙ (more ∙ ap (λ k. set (unsent_from (vec_len old.entries) old.next) k false) (sym pending.1)))))
