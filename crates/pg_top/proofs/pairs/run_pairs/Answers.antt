use Rattle.std.proofs.Common.{◌∙◌, ◌-◌, length, sym, ap, arith}
use Rattle.std.specs.Prelude.{slice_get}
use Rattle.pg_group.specs.Ranked.{place_of}
use Rattle.pg_lane.specs.Settled.{settled_capacity}
use Rattle.pg_dist.specs.Sharing.{Sharing}
use Rattle.pg_run.specs.Lanes.{sent_on, taken_on}
use Rattle.pg_run.specs.Machines.{machines_of, opening_of}
use Rattle.pg_top.proofs.PairRuns.{are_paired, ended_at}
use Rattle.pg_top.proofs.RunLemmas.{entry_below, replicate_entry}
use Rattle.pg_top.proofs.pairs.run_pairs.Goals as goal

pub returns : goal.returns
returns g c =
    let s : Sharing = g.D.Distribution.sharing c.args.dist.now in
    let pairs = c.in_ok-pairs.pairs.items in
    let said = c.in_ok-pairs.ensures in
    let group = c.in_ok-group.ensures in
    let ran = c.run.ensures in
    let machines = machines_of c.in_ok-group.group in
    let left = c.run.result in
    are_paired _ (λ start now handled sent kept. kept) (λ start now handled sent kept. kept) (λ now ended. ended) (λ now ended. ended)
    c.members_have_whole_books.ensures.first c.members_have_whole_books.ensures.second c.relaxations_stop_once_all_votes_are_quiet.ensures c.relaxations_stop_once_all_votes_are_quiet-2.ensures
    c.args.source s c.args.graph.now c.args.crew.now.capacity (length machines) pairs left.programs.items left.lanes.items
    (search arith) (group.count ∙ said.count) said.hops said.roots
    (record {
      count = ran.programs;
      lane_for_each = ran.lanes;
      capacities = λ sender receiver lane is.
          let m = entry_below machines sender is.0 in
          replicate_entry (length pairs - 1) (place_of sender receiver) c.args.crew.now.capacity (settled_capacity lane)
          (ap (λ l. slice_get l (place_of sender receiver)) (sym (group.capacities sender m.0 m.1)) ∙ ran.capacities sender m.0 m.1 receiver lane is);
      book = ran.book;
      marks = ran.marks;
      ended = ended_at _ opening_of machines pairs left.programs.items (sent_on (length machines) left.lanes.items) (taken_on (length machines) left.lanes.items) group.openings ran.programs ran.ended ran.keeps;
    })
