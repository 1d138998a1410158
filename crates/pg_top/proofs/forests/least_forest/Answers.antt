use Rattle.std.proofs.Common.{◌∙◌, ◌≤◌, All, length, ap, arith}
use Rattle.std.specs.Prelude.{slice_get}
use Rattle.std.specs.Option.{option_map}
use Rattle.pg_base.specs.declared.TheConstants.{MAX_WEIGHT}
use Rattle.pg_base.specs.declared.edges.Edge.{Edge}
use Rattle.pg_top.proofs.GrownLemmas.{as_many, first_below, first_is_held, first_is_least, first_is_right, first_is_spelled}
use Rattle.pg_top.proofs.RunLemmas.{entry_below}
use Rattle.pg_top.proofs.forests.least_forest.Goals as goal

pub indices_of-requires : goal.indices_of-requires
indices_of-requires g c =
    let owners = option_map (λ owners. owners.items) c.args.input.owners in
    let f = c.in_ok-finished.finished in
    let many = as_many owners c.args.crew.now.ranks c.args.crew.now.capacity c.args.input.graph f.programs.items f.lanes.items c.in_ok-finished.ensures in
    omega (arith, ap length c.deref.ensures.value, many)

pub invariant_of-result : goal.invariant_of-result
invariant_of-result g c =
    let owners = option_map (λ owners. owners.items) c.args.input.owners in
    let f = c.in_ok-finished.finished in
    let many = as_many owners c.args.crew.now.ranks c.args.crew.now.capacity c.args.input.graph f.programs.items f.lanes.items c.in_ok-finished.ensures in
    let first = entry_below f.programs.items 0 (omega (arith, many)) in
    let same = c.in_ok-indices.ensures first.0 (ap (λ list. slice_get list 0) c.deref.ensures.value ∙ first.1) in
    let below = first_below owners c.args.crew.now.ranks c.args.crew.now.capacity c.args.input.graph f.programs.items f.lanes.items c.in_ok-finished.ensures first.0 first.1 c.in_ok-indices.indices.items same in
    record { within = below.0; few = below.1 }

pub returns-clause-right : goal.returns-clause-right
returns-clause-right g c =
    let owners = option_map (λ owners. owners.items) c.args.input.owners in
    let f = c.in_ok-finished.finished in
    let many = as_many owners c.args.crew.now.ranks c.args.crew.now.capacity c.args.input.graph f.programs.items f.lanes.items c.in_ok-finished.ensures in
    let first = entry_below f.programs.items 0 (omega (arith, many)) in
    let same = c.in_ok-indices.ensures first.0 (ap (λ list. slice_get list 0) c.deref.ensures.value ∙ first.1) in
    let light : All (λ (e : Edge). e.w ≤ MAX_WEIGHT) c.args.input.graph.edges = λ k d h. omega (arith, c.heaviest-most.ensures.most k d h) in
    first_is_right owners c.args.crew.now.ranks c.args.crew.now.capacity c.args.input.graph f.programs.items f.lanes.items c.in_ok-finished.ensures first.0 first.1 c.in_ok-indices.indices.items same c.heaviest-most.ensures.graph light

pub returns-clause-spells : goal.returns-clause-spells
returns-clause-spells g c =
    let owners = option_map (λ owners. owners.items) c.args.input.owners in
    let f = c.in_ok-finished.finished in
    let many = as_many owners c.args.crew.now.ranks c.args.crew.now.capacity c.args.input.graph f.programs.items f.lanes.items c.in_ok-finished.ensures in
    let first = entry_below f.programs.items 0 (omega (arith, many)) in
    let same = c.in_ok-indices.ensures first.0 (ap (λ list. slice_get list 0) c.deref.ensures.value ∙ first.1) in
    let light : All (λ (e : Edge). e.w ≤ MAX_WEIGHT) c.args.input.graph.edges = λ k d h. omega (arith, c.heaviest-most.ensures.most k d h) in
    first_is_spelled owners c.args.crew.now.ranks c.args.crew.now.capacity c.args.input.graph f.programs.items f.lanes.items c.in_ok-finished.ensures first.0 first.1 c.in_ok-indices.indices.items same c.heaviest-most.ensures.graph light

pub returns-clause-least : goal.returns-clause-least
returns-clause-least g c =
    let owners = option_map (λ owners. owners.items) c.args.input.owners in
    let f = c.in_ok-finished.finished in
    let many = as_many owners c.args.crew.now.ranks c.args.crew.now.capacity c.args.input.graph f.programs.items f.lanes.items c.in_ok-finished.ensures in
    let first = entry_below f.programs.items 0 (omega (arith, many)) in
    let same = c.in_ok-indices.ensures first.0 (ap (λ list. slice_get list 0) c.deref.ensures.value ∙ first.1) in
    let light : All (λ (e : Edge). e.w ≤ MAX_WEIGHT) c.args.input.graph.edges = λ k d h. omega (arith, c.heaviest-most.ensures.most k d h) in
    first_is_least owners c.args.crew.now.ranks c.args.crew.now.capacity c.args.input.graph f.programs.items f.lanes.items c.in_ok-finished.ensures first.0 first.1 c.in_ok-indices.indices.items same c.heaviest-most.ensures.graph light

pub returns-clause-held : goal.returns-clause-held
returns-clause-held g c =
    let owners = option_map (λ owners. owners.items) c.args.input.owners in
    let f = c.in_ok-finished.finished in
    let many = as_many owners c.args.crew.now.ranks c.args.crew.now.capacity c.args.input.graph f.programs.items f.lanes.items c.in_ok-finished.ensures in
    let first = entry_below f.programs.items 0 (omega (arith, many)) in
    let same = c.in_ok-indices.ensures first.0 (ap (λ list. slice_get list 0) c.deref.ensures.value ∙ first.1) in
    let light : All (λ (e : Edge). e.w ≤ MAX_WEIGHT) c.args.input.graph.edges = λ k d h. omega (arith, c.heaviest-most.ensures.most k d h) in
    first_is_held owners c.args.crew.now.ranks c.args.crew.now.capacity c.args.input.graph f.programs.items f.lanes.items c.in_ok-finished.ensures first.0 first.1 c.in_ok-indices.indices.items same c.heaviest-most.ensures.graph light
