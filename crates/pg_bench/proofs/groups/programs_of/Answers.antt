use Rattle.std.proofs.Common.{◌≡◌, ◌∙◌, ◌∷◌, ◌++◌, [], sym, ap, subst, arith, length, length-append, append_assoc}
use Rattle.std.specs.Vec.Iter.{into_iter_items}
use Rattle.pg_group.proofs.Growing.{each_push}
use Rattle.pg_bench.specs.Counts.{items_taken}
use Rattle.pg_bench.proofs.Paired.{pair_pushed}
use Rattle.pg_bench.proofs.groups.programs_of.Goals as goal

pub loop-part-preserved : goal.loop-part-preserved
loop-part-preserved g c =
    let inv = c.loop-part.invariant in
    let before = c.loop-part.programs.items in
    let after = c.push.new.self.items in
    let past = c.loop-part.yielded in
    let part = c.in-Some.part in
    let r = c.new.result in
    let grown = c.in-Ok.ensures.items in
    let said = c.in_ok-program.ensures in
    let stepped = c.in-Some.ensures.steps in
    let within = c.new.ensures.program in
    record {
      count = omega (arith, inv.count, ap length grown, length-append before (r ∷ []), length-append past (part ∷ []));
      rest = append_assoc past (part ∷ []) (into_iter_items c.next.new.self) ∙ (ap (λ l. past ++ l) (sym stepped.0) ∙ inv.rest);
      left = omega (arith, inv.left, ap length stepped.0, stepped.1);
      new = each_push (λ rank p. g.P.Program.IsNew p.program × (items_taken p ≡ 0)) before after r grown inv.new (subst (λ p. g.P.Program.IsNew p) (sym within) said.new, c.new.ensures.none);
      own = pair_pushed (λ part p. g.P.Program.own p.program ≡ part.rank) past before after part r inv.count grown inv.own (ap g.P.Program.own within ∙ said.own);
      size = pair_pushed (λ part p. g.P.Program.size p.program ≡ part.ranks) past before after part r inv.count grown inv.size (ap g.P.Program.size within ∙ said.size);
      is_of = pair_pushed (λ part p. g.M.Maker.IsOf c.args.maker.now part p.program) past before after part r inv.count grown inv.is_of (subst (λ p. g.M.Maker.IsOf c.args.maker.now part p) (sym within) said.is_of);
    }
