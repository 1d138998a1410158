use Rattle.std.proofs.Common.{length, drop, ap, ◌∙◌, arith}
use Rattle.std.proofs.lemmas.List.{length-map, take_at}
use Rattle.pg_cells.proofs.Padded.{no_note}
use Rattle.pg_cells.proofs.cells.Cells.leave_ghosts.Goals as goal

pub invariant_of-self-then-self-clause-noted_values : goal.invariant_of-self-then-self-clause-noted_values
invariant_of-self-then-self-clause-noted_values g c slot h =
    let s = c.args.self.now in absurd (no_note s.flags.flush s.pending_puts.noted.items (length s.part.value.ghosts) slot s.noted_none c.requires h)

pub invariant_of-self-then-self-2-clause-noted_values : goal.invariant_of-self-then-self-2-clause-noted_values
invariant_of-self-then-self-2-clause-noted_values g c slot h =
    let s = c.args.self.now in absurd (no_note s.flags.flush s.pending_puts.noted.items (length s.part.value.ghosts) slot s.noted_none c.requires h)

pub invariant_of-self-then-self-clause-ghosts_each : goal.invariant_of-self-then-self-clause-ghosts_each
invariant_of-self-then-self-clause-ghosts_each g c =
    let s = c.args.self.now in
    let new = c.start_all.new.ghosts in
    let each = ap length c.start_all.ensures ∙ (length-map c.deref.result.now _ ∙ ap length c.deref.ensures.value) in
    ap length (take_at new (drop (length new) s.ghosts.items) s.ghosts.len (omega (arith, each, s.ghosts.ok.0, s.ghosts_each))) ∙ each
