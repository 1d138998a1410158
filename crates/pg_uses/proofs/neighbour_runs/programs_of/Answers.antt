use Rattle.std.proofs.Common.{◌≡◌, ◌∙◌, ◌∷◌, ◌++◌, [], sym, ap, subst, arith, length, length-append, append-nil, append_assoc}
use Rattle.std.specs.Vec.Iter.{into_iter_items}
use Rattle.pg_uses.specs.Synchronizing.{IsMapOf}
use Rattle.pg_uses.proofs.Beside.{Beside, beside_pushed, no_items}
use Rattle.pg_uses.proofs.neighbour_runs.programs_of.Goals as goal

pub loop-part-preserved : goal.loop-part-preserved
loop-part-preserved c =
    let inv = c.loop-part.invariant in
    let before = c.loop-part.programs.items in
    let past = c.loop-part.yielded in
    let part = c.in-Some.part in
    let r = c.in_ok-program.program in
    let grown = c.in-Ok.ensures.items in
    let stepped = c.in-Some.ensures.steps in
    record {
      count = omega (arith, inv.count, ap length grown, length-append before (r ∷ []), length-append past (part ∷ []));
      rest = append_assoc past (part ∷ []) (into_iter_items c.next.new.self) ∙ (ap (λ l. past ++ l) (sym stepped.0) ∙ inv.rest);
      left = omega (arith, inv.left, ap length stepped.0, stepped.1);
      each = beside_pushed IsMapOf past before c.push.new.self.items part r inv.count grown inv.each c.in_ok-program.ensures;
    }

pub returns-clause-each : goal.returns-clause-each
returns-clause-each c =
    let inv = c.loop-part.invariant in
    let all : c.loop-part.yielded ≡ c.args.parts.items =
    sym (append-nil c.loop-part.yielded) ∙ (ap (λ l. c.loop-part.yielded ++ l) (sym (no_items (into_iter_items c.loop-part.part-iterator) (omega (arith, inv.left, c.in-None.ensures.steps.0)))) ∙ inv.rest) in
    subst (λ l. Beside IsMapOf l c.loop-part.programs.items) all inv.each
