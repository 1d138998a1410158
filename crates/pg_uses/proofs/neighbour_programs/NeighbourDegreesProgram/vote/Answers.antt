use Rattle.std.proofs.Common.{refl}
use Rattle.pg_uses.proofs.Keeping.{vote_kept}
use Rattle.pg_uses.proofs.neighbour_programs.NeighbourDegreesProgram.vote.Goals as goal

pub returns-clause-kept : goal.returns-clause-kept
returns-clause-kept c = λ start handled sent kept. vote_kept start c.args.self.now _ handled sent _ refl refl refl refl c.requires.uncast kept
