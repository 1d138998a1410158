use denote.Exit.{no}
use denote.Param.{copied, param}
use denote.Param.Send.{param_send, arg_send}
use Rattle.std.proofs.Common.{◌≡◌, ◌∙◌, ◌-◌, length, sym, ap, subst, arith}
use Rattle.std.specs.Prelude.{slice_get}
use Rattle.std.proofs.lemmas.Option.{slice_get_within}
use Rattle.pg_group.proofs.ByRank.{length_of_map}
use Rattle.pg_group.specs.Ranked.{place_of}
use Rattle.pg_relax.specs.Shown.{part_in}
use Rattle.pg_run.specs.Machines.{machines_of, opening_of}
use Rattle.pg_top.specs.Relaxed.{IsRunOver}
use Rattle.pg_lane.specs.Settled.{settled_capacity}
use Rattle.pg_group.specs.Book.{KeepsOver}
use Rattle.pg_run.specs.Lanes.{sent_on, taken_on}
use Rattle.pg_top.proofs.RunLemmas.{replicate_entry, in_order, from_openings, entry_below}
use Rattle.pg_top.proofs.Sending.{relax_send}
use Rattle.pg_top.proofs.relaxing.relax_parts.Goals as goal

pub assemble-requires-clause-ranks : goal.assemble-requires-clause-ranks
assemble-requires-clause-ranks g c κs = λ _ k p at. (in_order c.in_ok-programs.programs.items c.args.parts.items c.in_ok-programs.ensures.parts c.requires.order k p at).0

pub assemble-requires-clause-sizes : goal.assemble-requires-clause-sizes
assemble-requires-clause-sizes g c κs = λ _ k p at. (in_order c.in_ok-programs.programs.items c.args.parts.items c.in_ok-programs.ensures.parts c.requires.order k p at).1

pub returns : goal.returns
returns g c =
    let made = c.in_ok-programs.ensures in
    let group = c.in_ok-group.ensures in
    let ran = c.run.ensures in
    let machines = machines_of c.in_ok-group.group in
    let openings = c.in_ok-programs.programs.items in
    let long : length machines ≡ length c.args.parts.items = group.count ∙ (sym (length_of_map part_in openings) ∙ ap length made.parts) in
    subst (λ n. IsRunOver c.args.label (g.M.Agendas.takes c.args.agendas.now) n c.args.parts.items c.args.crew.now.capacity c.run.result.programs.items c.run.result.lanes.items) long
    (record {
      openings = openings;
      opened = made.parts;
      new = made.new;
      labels = made.labels;
      shares = made.shares;
      final_shares = λ rank p at share w.
          let s = entry_below openings rank (omega (arith, slice_get_within c.run.result.programs.items rank p at, ran.programs, group.count)) in
          let k = from_openings opening_of machines openings group.openings (λ r was now. KeepsOver _ (length machines) r (sent_on (length machines) c.run.result.lanes.items) (taken_on (length machines) c.run.result.lanes.items) was now)
          c.run.result.programs.items ran.keeps rank p s.0 at s.1 in
          k.keeps.takes share w ∙ made.shares rank s.0 s.1 share w;
      count = ran.programs;
      lane_for_each = ran.lanes;
      capacities = λ sender receiver lane is.
          let m = entry_below machines sender is.0 in
          replicate_entry (length openings - 1) (place_of sender receiver) c.args.crew.now.capacity (settled_capacity lane)
          (ap (λ l. slice_get l (place_of sender receiver)) (sym (group.capacities sender m.0 m.1)) ∙ ran.capacities sender m.0 m.1 receiver lane is);
      book = ran.book;
      marks = ran.marks;
      kept = λ rank p at start there.
          let k = from_openings opening_of machines openings group.openings (λ r was now. KeepsOver _ (length machines) r (sent_on (length machines) c.run.result.lanes.items) (taken_on (length machines) c.run.result.lanes.items) was now)
          c.run.result.programs.items ran.keeps rank p start at there in
          record { handled = k.handled; promised = k.promised; keeps = k.keeps; ended = ran.ended rank p at; handled_is = k.handled_is; sent_is = k.sent_is };
    })

pub assemble-requires-send-P : goal.assemble-requires-send-P
assemble-requires-send-P g c κs within = param_send 0 _ (arg_send _ no _ (relax_send (copied 1 g.row.L) (param 2 g.row.A) _ _ c.type_bounds.send-L c.type_bounds.send-A))

pub run-requires-send-P : goal.run-requires-send-P
run-requires-send-P g c κs within = param_send 1 _ (arg_send _ no _ (relax_send (copied 1 g.row.L) (param 2 g.row.A) _ _ c.type_bounds.send-L c.type_bounds.send-A))
