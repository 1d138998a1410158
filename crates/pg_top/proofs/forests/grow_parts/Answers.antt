use Rattle.std.proofs.Common.{◌≡◌, ◌∙◌, ◌-◌, length, sym, ap, subst}
use Rattle.std.specs.Prelude.{slice_get}
use Rattle.pg_group.proofs.ByRank.{length_of_map}
use Rattle.pg_group.specs.Ranked.{place_of}
use Rattle.pg_run.specs.Machines.{machines_of, opening_of}
use Rattle.pg_boruvka.specs.Known.{part_in}
use Rattle.pg_boruvka.specs.Portions.{part_of}
use Rattle.pg_top.specs.Grown.{IsGrowthOver}
use Rattle.pg_lane.specs.Settled.{settled_capacity}
use Rattle.pg_group.specs.Book.{KeepsOver}
use Rattle.pg_run.specs.Lanes.{sent_on, taken_on}
use Rattle.pg_top.proofs.RunLemmas.{replicate_entry, from_openings, entry_below}
use Rattle.pg_top.proofs.GrownLemmas.{in_order}
use Rattle.pg_top.proofs.forests.grow_parts.Goals as goal

pub assemble-requires-clause-ranks : goal.assemble-requires-clause-ranks
assemble-requires-clause-ranks g c κs = λ k p at. (in_order c.in_ok-programs.programs.items c.args.parts.items c.args.edges c.in_ok-programs.ensures.parts c.requires.order k p at).0

pub assemble-requires-clause-sizes : goal.assemble-requires-clause-sizes
assemble-requires-clause-sizes g c κs = λ k p at. (in_order c.in_ok-programs.programs.items c.args.parts.items c.args.edges c.in_ok-programs.ensures.parts c.requires.order k p at).1

pub returns : goal.returns
returns g c =
    let made = c.in_ok-programs.ensures in
    let group = c.in_ok-group.ensures in
    let ran = c.run.ensures in
    let machines = machines_of c.in_ok-group.group in
    let openings = c.in_ok-programs.programs.items in
    let long : length machines ≡ length c.args.parts.items = group.count ∙ (sym (length_of_map part_in openings) ∙ (ap length made.parts ∙ length_of_map (part_of c.args.edges) c.args.parts.items)) in
    subst (λ n. IsGrowthOver c.args.edges n c.args.parts.items c.args.crew.now.capacity c.run.result.programs.items c.run.result.lanes.items) long
    (record {
      openings = openings;
      opened = made.parts;
      new = made.new;
      count = ran.programs;
      lane_for_each = ran.lanes;
      capacities = λ sender receiver lane is.
          let m = entry_below machines sender is.0 in
          replicate_entry (length openings - 1) (place_of sender receiver) c.args.crew.now.capacity (settled_capacity lane)
          (ap (λ l. slice_get l (place_of sender receiver)) (sym (group.capacities sender m.0 m.1)) ∙ ran.capacities sender m.0 m.1 receiver lane is);
      book = ran.book;
      marks = ran.marks;
      kept = λ rank p at start there.
          let k = from_openings opening_of machines openings group.openings (λ r was now. KeepsOver _ (length machines) r (sent_on (length machines) c.run.result.lanes.items) (taken_on (length machines) c.run.result.lanes.items) was now)
          c.run.result.programs.items ran.keeps rank p start at there in
          record { handled = k.handled; promised = k.promised; keeps = k.keeps; ended = ran.ended rank p at; own_handled = k.own_handled; handled_is = k.handled_is; sent_is = k.sent_is };
    })
