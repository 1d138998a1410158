use Rattle.std.proofs.Common.{◌∙◌, refl, sym, ap}
use Rattle.pg_cells.specs.Shown.{state_of}
use Rattle.pg_cells.specs.States.{CellState}
use Rattle.pg_cells.specs.declared.flags.Flags.{Flags}
use Rattle.pg_uses.specs.DegreeMaps.{is_filling}
use Rattle.pg_uses.proofs.Opening.{flags_are, opened}
use Rattle.pg_uses.proofs.neighbours.NeighbourDegrees.new.Goals as goal

pub invariant_of-result-clause-same_part : goal.invariant_of-result-clause-same_part
invariant_of-result-clause-same_part c =
    ap (λ (v : _). v.value) c.close.ensures.part ∙ (ap (λ (v : _). v.value) c.put_degrees.ensures.part ∙ ap (λ (s : CellState). s.part) c.in_ok-cells.ensures.new)

pub invariant_of-result-clause-backward : goal.invariant_of-result-clause-backward
invariant_of-result-clause-backward c =
    ap (λ (s : CellState). s.flags.backward) c.close.ensures.step.1
    ∙ (ap (λ (f : Flags). f.backward) c.put_degrees.ensures.flags ∙ (ap (λ (s : CellState). s.flags.backward) c.in_ok-cells.ensures.new ∙ c.bidirectional-flags.ensures.backward))

pub invariant_of-result-clause-over : goal.invariant_of-result-clause-over
invariant_of-result-clause-over c = sym (ap (λ (s : CellState). is_filling s.phase) c.close.ensures.step.1)

pub returns : goal.returns
returns c =
    let f = c.bidirectional-flags.ensures in
    record {
      new = record { closing = ap (λ (s : CellState). s.phase) c.close.ensures.step.1; idle = refl; cast = refl; ended = refl };
      same_part = refl;
      opened = opened c.args.part c.bidirectional-flags.result (state_of c.in_ok-cells.cells) (state_of c.put_degrees.new.cells) (state_of c.close.new.self)
          (flags_are c.bidirectional-flags.result f.forward f.backward f.flush f.reset f.clear) c.in_ok-cells.ensures.new c.put_degrees.ensures.puts c.close.ensures.step;
    }
