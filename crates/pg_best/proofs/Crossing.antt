-- In an idle run every arc between two ranks is relaxed by an offer.
use Rattle.std.proofs.Common.{◌<◌, ◌∙◌}
use Rattle.std.proofs.lemmas.List.Elements.{All-contains}
use Rattle.pg_best.specs.Parts.{local_arc}
use Rattle.pg_best.specs.Relaxation.{IsArc, IdleIsRelaxed}

pub idle_is_relaxed : IdleIsRelaxed
idle_is_relaxed run is idle a x among apart has within =
    let r = run.owner a.from in
    let rank : r < run.ranks = is.divided.owned a.from (All-contains (IsArc run.n) run.arcs a is.arcs among).from in
    let b = local_arc run.owner run.place a in
    let o = (is.kept r rank).relaxed.other b x (is.divided.given a among) (idle r b rank) has within (λ e. apart (e ∙ is.divided.rank r rank)) in
    record { offer = o.offer; among = o.among; to = o.to; at = o.place; value = o.most }
