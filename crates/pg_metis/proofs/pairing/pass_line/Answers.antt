use Rattle.std.proofs.Common.{length, refl, sym, ◌∙◌}
use Rattle.pg_metis.specs.Pairing.{arcs_named}
use Rattle.pg_metis.proofs.Settled.{edges_are, owed_first, settled_in_order, unmet_first, settled_more}
use Rattle.pg_metis.proofs.pairing.pass_line.Goals as goal

pub returns-then-is_owed-clause-unpaired : goal.returns-then-is_owed-clause-unpaired
returns-then-is_owed-clause-unpaired c =
    owed_first (length c.args.marks.now) (arcs_named c.args.arcs.now) c.args.edges.now c.requires.named c.requires.lower c.args.u c.args.place.arcs c.args.place.edges c.args.marks.now refl c.requires.settled c.requires.first c.requires.last
    (sym c.is_owed.ensures ∙ c.if-is_owed.true)

pub returns-in-Some-clause-settled : goal.returns-in-Some-clause-settled
returns-in-Some-clause-settled c =
    settled_in_order (length c.args.marks.now) (arcs_named c.args.arcs.now) c.args.edges.now c.requires.named c.requires.lower c.args.u c.args.place.arcs c.args.place.edges c.args.marks.now refl c.requires.settled c.requires.first c.requires.last
    c.in-Some.next.arcs c.in-Some.next.edges c.in-Some.ensures (sym c.is_owed.ensures ∙ c.if-is_owed.false)

pub mark_edges-marked-requires-clause-within : goal.mark_edges-marked-requires-clause-within
mark_edges-marked-requires-clause-within c = edges_are (length c.args.marks.now) (arcs_named c.args.arcs.now) c.args.edges.now c.requires.named c.requires.lower

pub returns-in_default-look_at_line-clause-unpaired : goal.returns-in_default-look_at_line-clause-unpaired
returns-in_default-look_at_line-clause-unpaired c =
    unmet_first (length c.args.marks.now) (arcs_named c.args.arcs.now) c.args.edges.now c.requires.named c.requires.lower c.args.u c.args.place.arcs c.args.place.edges c.args.marks.now refl c.requires.settled c.requires.first c.requires.last
    c.mark_edges-marked.result c.mark_edges-marked.new.marks c.mark_edges-marked.ensures.run c.mark_edges-marked.ensures.marks c.in_default-look_at_line.ensures.unpaired

pub returns-clause-settled : goal.returns-clause-settled
returns-clause-settled c =
    settled_more (length c.args.marks.now) (arcs_named c.args.arcs.now) c.args.edges.now c.requires.named c.requires.lower c.args.u c.args.place.arcs c.args.place.edges c.args.marks.now refl c.requires.settled c.requires.first c.requires.last
    c.mark_edges-marked.result c.mark_edges-marked.new.marks c.mark_edges-marked.ensures.run c.mark_edges-marked.ensures.marks c.in-Some-look_at_line.looked c.look_at_line.new.marks c.in-Some-look_at_line.ensures.paired
    (sym c.is_owed.ensures ∙ c.if-is_owed.false) (c.look_at_line.auto.marks ∙ c.mark_edges-marked.auto.marks)
