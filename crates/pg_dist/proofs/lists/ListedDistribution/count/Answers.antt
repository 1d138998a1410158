use Rattle.std.proofs.Common.{arith}
use Rattle.pg_dist.specs.Seats.{owners_of}
use Rattle.pg_dist.proofs.Slots.{count-read}
use Rattle.pg_dist.proofs.lists.ListedDistribution.count.Goals as goal

pub overflow_sub-result : goal.overflow_sub-result
overflow_sub-result c =
    let d = c.args.self.now in
    omega (
      arith,
      count-read (owners_of d.tables.seats.items) d.tables.starts.items d.ranks c.args.r.0 c.index-2.result.now
          c.index.result.now d.are_starts d.each_start c.requires c.index-2.ensures c.index.ensures,
    )

pub returns : goal.returns
returns c =
    let d = c.args.self.now in
    omega (
      arith,
      count-read (owners_of d.tables.seats.items) d.tables.starts.items d.ranks c.args.r.0 c.index-2.result.now
          c.index.result.now d.are_starts d.each_start c.requires c.index-2.ensures c.index.ensures,
    )
