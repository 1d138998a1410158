use Rattle.std.proofs.Common.{◌≡◌, false, subst, [], rules, arith}
use Rattle.pg_agenda.specs.LevelLists.{AreLevels, is_any}
use Rattle.pg_agenda.proofs.LevelSteps.{levels_last, set_within}
use Rattle.pg_agenda.proofs.PlaceSets.{none_left}
use Rattle.pg_agenda.proofs.place_sets.PlaceSet.take.Goals as goal

pub returns-in_err-place-clause-none : goal.returns-in_err-place-clause-none
returns-in_err-place-clause-none c =
    let s = c.args.self.now in
    let e : s.places.items ≡ [] = search rules in
    let left : is_any s.members.items ≡ false = none_left s.members.items (subst (λ xs. AreLevels s.members.items xs []) e s.listed) in
    search rules

pub index_mut-requires : goal.index_mut-requires
index_mut-requires c =
    let s = c.args.self.now in
    let l = subst (λ xs. AreLevels s.members.items xs []) c.in_ok-place.ensures.items s.listed in
    omega (arith, set_within s.members.items c.in_ok-place.place (levels_last s.members.items c.pop.new.self.items [] c.in_ok-place.place l), s.members.ok.0)
