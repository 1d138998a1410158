use Rattle.std.proofs.Common.{◌≡◌, false, rules, arith}
use Rattle.pg_agenda.specs.LevelLists.{is_set}
use Rattle.pg_agenda.proofs.PlaceSets.{set_room}
use Rattle.pg_agenda.proofs.place_sets.PlaceSet.add.Goals as goal

pub push_reserved-requires : goal.push_reserved-requires
push_reserved-requires c =
    let s = c.args.self.now in
    let off : is_set s.members.items c.args.place ≡ false = search rules in
    omega (arith, set_room s.members.items s.places.items c.args.place s.listed c.requires off, s.places.ok.0, s.room)
