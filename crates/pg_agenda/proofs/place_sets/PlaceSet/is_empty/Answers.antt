use Rattle.std.proofs.Common.{ap, ◌∙◌, arith}
use Rattle.std.specs.Prelude.{nat_eq}
use Rattle.pg_agenda.proofs.PlaceSets.{empty_by_length}
use Rattle.pg_agenda.proofs.place_sets.PlaceSet.is_empty.Goals as goal

pub returns : goal.returns
returns c =
    let s = c.args.self.now in
    empty_by_length s.members.items s.places.items _ s.listed (c.is_empty.ensures ∙ ap (λ n. nat_eq n 0) (omega (arith, s.places.ok.0)))
