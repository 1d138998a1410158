use Rattle.std.proofs.Common.{◌≡◌, ◌+◌, ◌-◌, ◌≤◌, suc, refl, sym, ap, arith, ◌∙◌}
use Rattle.pg_run.specs.Blocks.{group_start}
use Rattle.pg_run.proofs.Blocks.{start_of_all}
use Rattle.pg_run.proofs.threading.drive_all.Goals as goal

pub passes-init : goal.passes-init
passes-init g c = record { passes = (0, refl); long = refl }

pub drive_groups-requires-clause-machines : goal.drive_groups-requires-clause-machines
drive_groups-requires-clause-machines g c κs within =
    let cut = c.new-cut.result in
    let some : 1 ≤ cut.groups = omega (arith, c.new-cut.ensures.groups) in
    let last : cut.groups - 1 + 1 ≡ cut.groups = omega (arith, some) in
    c.passes.invariant.long ∙ (sym c.new-cut.ensures.places ∙ (sym (start_of_all cut.places cut.groups some) ∙ ap (group_start cut.places cut.groups) (sym last)))

pub returns-then-have_ended-clause-passes : goal.returns-then-have_ended-clause-passes
returns-then-have_ended-clause-passes g c = (suc c.passes.invariant.passes.0, (c.passes.machines, c.passes.invariant.passes.1, c.drive_groups.ensures))

pub passes-preserved : goal.passes-preserved
passes-preserved g c = record {
  passes = (suc c.passes.invariant.passes.0, (c.passes.machines, c.passes.invariant.passes.1, c.drive_groups.ensures));
  long = c.drive_groups.ensures.long ∙ c.passes.invariant.long;
}
