use Rattle.std.proofs.Common.{◌≡◌, ◌+◌, arith, ap}
use Rattle.pg_dist.specs.Seats.{owners_of}
use Rattle.pg_dist.specs.Tables.{start_in}
use Rattle.pg_dist.proofs.Slots.{start-read, slot-within, slot-read}
use Rattle.pg_dist.proofs.lists.ListedDistribution.global.Goals as goal

pub overflow_add-slot : goal.overflow_add-slot
overflow_add-slot c =
    let d = c.args.self.now in
    omega (
      arith,
      slot-within (owners_of d.tables.seats.items) c.args.r.0 c.args.i c.requires.place,
      d.few_owners,
      start-read (owners_of d.tables.seats.items) d.tables.starts.items d.ranks c.args.r.0 c.index.result.now d.are_starts
          d.each_start (omega (arith, c.requires.rank)) c.index.ensures,
    )

pub index-requires-2 : goal.index-requires-2
index-requires-2 c =
    let d = c.args.self.now in
    omega (
      arith,
      slot-within (owners_of d.tables.seats.items) c.args.r.0 c.args.i c.requires.place,
      d.each_slot,
      start-read (owners_of d.tables.seats.items) d.tables.starts.items d.ranks c.args.r.0 c.index.result.now d.are_starts
          d.each_start (omega (arith, c.requires.rank)) c.index.ensures,
    )

pub returns : goal.returns
returns c =
    let d = c.args.self.now in
    let start : c.index.result.now ≡ start_in (owners_of d.tables.seats.items) c.args.r.0
    = start-read (owners_of d.tables.seats.items) d.tables.starts.items d.ranks c.args.r.0 c.index.result.now d.are_starts
    d.each_start (omega (arith, c.requires.rank)) c.index.ensures in
    slot-read (owners_of d.tables.seats.items) d.tables.vertices.items c.args.r.0 c.args.i (c.index.result.now + c.args.i)
    c.index-2.result.now d.in_slots d.each_slot c.requires.place (ap (λ x. x + c.args.i) start) c.index-2.ensures
