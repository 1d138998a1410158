use Rattle.std.proofs.Common.{◌≡◌, ◌∙◌, length, ap}
use Rattle.pg_cells.specs.Shown.{state_of}
use Rattle.pg_cells.specs.States.{CellState}
use Rattle.pg_uses.proofs.Opening.{puts_more}
use Rattle.pg_uses.proofs.neighbours.put_degrees.Goals as goal

pub loop-place-preserved : goal.loop-place-preserved
loop-place-preserved c =
    let inv = c.loop-place.invariant in
    let part = c.args.part.now in
    let same : c.loop-place.cells.part.value ≡ part = ap (λ s. s.value) inv.same_part ∙ c.requires.part in
    record {
      puts = puts_more part c.loop-place.place (length c.arcs.result.now) (c.loop-place.cells.part.value) (state_of c.args.cells.now) (state_of c.loop-place.cells) (state_of c.put_at.new.self) same (ap length c.arcs.ensures.row) inv.puts c.put_at.ensures.step;
      same_part = c.put_at.ensures.part ∙ inv.same_part;
      same_flags = ap (λ (s : CellState). s.flags) c.put_at.ensures.state ∙ inv.same_flags;
      same_phase = c.put_at.ensures.phase ∙ inv.same_phase;
    }
