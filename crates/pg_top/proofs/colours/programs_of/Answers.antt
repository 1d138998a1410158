use Rattle.std.proofs.Common.{◌∙◌, ◌∷◌, [], sym, ap, subst, arith, length, length-append}
use Rattle.pg_group.specs.Entries.{Each}
use Rattle.pg_run.proofs.Seating.{taken_over, each_reverse}
use Rattle.pg_colour.specs.Shown.{IsNewColouring, part_in}
use Rattle.pg_top.proofs.colours.programs_of.Goals as goal

pub loop-part-preserved : goal.loop-part-preserved
loop-part-preserved c =
    let inv = c.loop-part.invariant in
    let last = c.in-Some.ensures.items in
    let r = c.in_ok-new.field-0 in
    let said = c.in_ok-new.ensures in
    let pushed = c.push_reserved.ensures.items in
    let before = c.loop-part.programs.items in
    let one = ap length last ∙ length-append c.pop.new.self.items (c.in-Some.part ∷ []) in
    let two = ap length pushed ∙ length-append before (r ∷ []) in
    record {
      parts = taken_over part_in c.args.parts.items c.loop-part.parts.items c.pop.new.self.items c.in-Some.part before c.push_reserved.new.self.items r inv.parts last pushed said.part;
      fit = omega (arith, inv.fit, one, two, c.push_reserved.ensures.capacity);
      new = each_reverse (λ p. IsNewColouring p) before c.push_reserved.new.self.items r pushed said.new inv.new;
    }

pub returns-clause-new : goal.returns-clause-new
returns-clause-new c = subst (λ l. Each (λ rank p. IsNewColouring p) l) (sym c.reverse.ensures.items) c.loop-part.invariant.new
