use Rattle.std.proofs.Common.{rules}
use Rattle.pg_adj.proofs.RankSets.{members_counted}
use Rattle.pg_adj.proofs.rank_sets.RankSet.len.Goals as goal

pub returns-clause-value : goal.returns-clause-value
returns-clause-value c = members_counted c.args.self (search rules)
