use Rattle.pg_relax.proofs.OfferedLemmas.{known_of}
use Rattle.pg_relax.proofs.offered.Offered.note.Goals as goal

pub returns-in-Some-clause-known : goal.returns-in-Some-clause-known
returns-in-Some-clause-known c = λ index within vertex.
    known_of c.args.self.now.first c.args.self.now.told c.in-Some.index index c.args.home.0 c.args.offer.now c.in-Some.ensures.some.1 c.in-Some.ensures.some.0 c.requires.within

pub returns-in_default-clause-known : goal.returns-in_default-clause-known
returns-in_default-clause-known c = λ index within vertex. absurd (c.in_default.ensures.none index within vertex)
