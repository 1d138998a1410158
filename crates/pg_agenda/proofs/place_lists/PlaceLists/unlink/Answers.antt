use Rattle.std.proofs.Common.{arith}
use Rattle.std.proofs.lemmas.List.{get_or_read}
use Rattle.pg_agenda.proofs.Linking.{length_twice, unlinked_by}
use Rattle.pg_agenda.proofs.place_lists.PlaceLists.unlink.Goals as goal

pub invariant_of-self : goal.invariant_of-self
invariant_of-self c =
    let s = c.args.self.now in
    let p = c.args.place in
    let a = c.index-before.result.now in
    let b = c.index-after.result.now in
    let next = s.next.items in
    let prev = s.prev.items in
    record {
      as_many = omega (arith, length_twice next a b p p, length_twice prev b a p p, s.as_many);
      within = omega (arith, length_twice next a b p p, s.within);
      numbered = omega (arith, length_twice next a b p p, s.numbered);
      linked = unlinked_by next prev p a b c.requires s.within s.as_many (get_or_read prev p a (omega arith) c.index-before.ensures 0) (get_or_read next p b (omega arith) c.index-after.ensures 0) s.linked (record { here = c.add.ensures.here; newest = c.add.ensures.newest; others = c.add.ensures.others; older = c.add.ensures.older; counted = c.add.ensures.counted });
    }
