use Rattle.std.proofs.Common.{refl, sym, ◌∙◌, arith}
use Rattle.pg_agenda.specs.Moves.{home, stamp}
use Rattle.pg_agenda.specs.declared.moves.Moves.{None}
use Rattle.pg_agenda.proofs.Linking.{all_alone}
use Rattle.pg_agenda.proofs.place_lists.PlaceLists.new.Goals as goal

pub invariant_of-result : goal.invariant_of-result
invariant_of-result c =
    let next = c.in_ok-own_links.field-0.items in
    let prev = c.in_ok-own_links-2.field-0.items in
    let a = c.in_ok-own_links.ensures in
    let b = c.in_ok-own_links-2.ensures in
    record {
      as_many = b.nodes ∙ sym a.nodes;
      within = omega (arith, a.nodes);
      numbered = omega (arith, a.nodes, c.requires);
      linked = all_alone c.args.count next prev (home None) (stamp None) 0 (b.nodes ∙ sym a.nodes) (λ x lt. a.own x (omega (arith, a.nodes, lt))) (λ x lt. b.own x (omega (arith, a.nodes, lt))) (λ x. refl) (λ x. refl);
    }
