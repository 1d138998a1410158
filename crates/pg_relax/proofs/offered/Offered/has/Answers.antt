use Rattle.std.proofs.lemmas.Option.{slice_get_within}
use Rattle.pg_relax.proofs.offered.Offered.has.Goals as goal

pub returns-in-None-clause-not : goal.returns-in-None-clause-not
returns-in-None-clause-not c = λ no known. c.in-None.ensures.none known.index (slice_get_within c.args.self.now.told.items known.index known.told known.stands) known.vertex
