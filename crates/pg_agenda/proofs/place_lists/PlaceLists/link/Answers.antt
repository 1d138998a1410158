use Rattle.std.proofs.Common.{arith}
use Rattle.std.proofs.lemmas.List.{get_or_read}
use Rattle.pg_agenda.proofs.Linking.{length_twice, linked_by}
use Rattle.pg_agenda.proofs.place_lists.PlaceLists.link.Goals as goal

pub invariant_of-self : goal.invariant_of-self
invariant_of-self c =
    let s = c.args.self.now in
    let p = c.args.place in
    let list = c.args.list in
    let b = c.index-after.result.now in
    let next = s.next.items in
    let prev = s.prev.items in
    record {
      as_many = omega (arith, length_twice next p b list p, length_twice prev b p p list, s.as_many);
      within = omega (arith, length_twice next p b list p, s.within);
      numbered = omega (arith, length_twice next p b list p, s.numbered);
      linked = linked_by next prev p list b c.requires.place c.requires.head c.requires.list s.as_many c.requires.next c.requires.prev (get_or_read next list b c.requires.list c.index-after.ensures 0) s.linked (record { here = c.add.ensures.here; newest = c.add.ensures.newest; others = c.add.ensures.others; older = c.add.ensures.older; counted = c.add.ensures.counted });
    }
