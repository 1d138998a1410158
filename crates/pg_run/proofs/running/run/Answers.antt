use Rattle.std.proofs.Common.{refl, sym}
use Rattle.pg_run.proofs.Seating.{group_of, pairs_counted}
use Rattle.pg_run.proofs.WholeBook.{still_group, run_ended, settled_through, run_lanes, run_book, run_marks, run_keeps, run_capacities}
use Rattle.pg_run.proofs.running.run.Goals as goal

pub close_ports-requires-clause-whole : goal.close_ports-requires-clause-whole
close_ports-requires-clause-whole g c = λ _ _.
    group_of _ (λ r. r.outlet.port) c.drive_list.new.machines.items c.take_apart.new.mailboxes.items c.take_apart.ensures.mailboxes
    (still_group (λ x. refl) (λ x. refl) c.args.group.runners.items c.drive_list.new.machines.items c.requires.ready c.drive_list.ensures.follow c.drive_list.ensures.done)

pub returns-clause-ended : goal.returns-clause-ended
returns-clause-ended g c =
    run_ended (λ x. refl) (λ x. refl) c.args.group.runners.items c.drive_list.new.machines.items c.requires.ready c.drive_list.ensures.follow c.drive_list.ensures.done _ c.take_apart.ensures.programs

pub returns-clause-lanes : goal.returns-clause-lanes
returns-clause-lanes g c =
    let rs = c.drive_list.new.machines.items in
    let lanes = c.close_ports.new.lanes.items in
    let settled = settled_through (λ r. r.outlet.port) rs c.take_apart.new.mailboxes.items lanes _ _ _ (sym c.take_apart.ensures.mailboxes) c.close_ports.ensures.each in
    run_lanes (λ x. refl) (λ x. refl) c.args.group.runners.items rs c.requires.ready c.drive_list.ensures.follow c.drive_list.ensures.done lanes settled
    (pairs_counted _ (λ r. r.outlet.port) rs c.take_apart.new.mailboxes.items c.take_apart.ensures.mailboxes c.close_ports.ensures.count)

pub returns-clause-book : goal.returns-clause-book
returns-clause-book g c =
    let rs = c.drive_list.new.machines.items in
    let lanes = c.close_ports.new.lanes.items in
    let settled = settled_through (λ r. r.outlet.port) rs c.take_apart.new.mailboxes.items lanes _ _ _ (sym c.take_apart.ensures.mailboxes) c.close_ports.ensures.each in
    run_book (λ x. refl) (λ x. refl) c.args.group.runners.items rs c.requires.ready c.drive_list.ensures.follow c.drive_list.ensures.done lanes settled

pub returns-clause-marks : goal.returns-clause-marks
returns-clause-marks g c =
    let rs = c.drive_list.new.machines.items in
    let lanes = c.close_ports.new.lanes.items in
    let settled = settled_through (λ r. r.outlet.port) rs c.take_apart.new.mailboxes.items lanes _ _ _ (sym c.take_apart.ensures.mailboxes) c.close_ports.ensures.each in
    run_marks (λ x. refl) (λ x. refl) c.args.group.runners.items rs c.requires.ready c.drive_list.ensures.follow c.drive_list.ensures.done lanes settled

pub returns-clause-keeps : goal.returns-clause-keeps
returns-clause-keeps g c =
    let rs = c.drive_list.new.machines.items in
    let lanes = c.close_ports.new.lanes.items in
    let settled = settled_through (λ r. r.outlet.port) rs c.take_apart.new.mailboxes.items lanes _ _ _ (sym c.take_apart.ensures.mailboxes) c.close_ports.ensures.each in
    run_keeps (λ x. refl) (λ x. refl) c.args.group.runners.items rs c.requires.ready c.drive_list.ensures.follow c.drive_list.ensures.done lanes settled _ c.take_apart.ensures.programs

pub returns-clause-capacities : goal.returns-clause-capacities
returns-clause-capacities g c =
    let rs = c.drive_list.new.machines.items in
    let lanes = c.close_ports.new.lanes.items in
    let settled = settled_through (λ r. r.outlet.port) rs c.take_apart.new.mailboxes.items lanes _ _ _ (sym c.take_apart.ensures.mailboxes) c.close_ports.ensures.each in
    run_capacities (λ x. refl) (λ x. refl) c.args.group.runners.items rs c.requires.ready c.drive_list.ensures.follow c.drive_list.ensures.done lanes settled
