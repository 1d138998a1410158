use Rattle.pg_adj.proofs.RankSets.{put_in}
use Rattle.pg_adj.proofs.rank_sets.RankSet.insert.Goals as goal

pub returns : goal.returns
returns c = λ r. put_in c.args.self.now.0 c.args.rank.0 r c.requires
