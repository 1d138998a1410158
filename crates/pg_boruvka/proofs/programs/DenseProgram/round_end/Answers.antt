use Rattle.std.proofs.Common.{◌≡◌, ℕ, ◌+◌, Bool, List, None, length, map, filter, sym, ap, ◌∙◌, subst}
use Rattle.std.specs.Prelude.{slice_index}
use Rattle.std.proofs.lemmas.Bool.{true≢false}
use Rattle.pg_base.specs.declared.TheConstants.{MAX_VERTICES}
use Rattle.pg_group.specs.Supersteps.{append_marks}
use Rattle.pg_boruvka.specs.declared.arcs.DenseArc.{DenseArc}
use Rattle.pg_boruvka.specs.declared.dense.Stage.TheVariants as stage
use Rattle.pg_boruvka.specs.Portions.{part_of}
use Rattle.pg_boruvka.specs.Arcs.{locals, relabelled, is_apart, AreLeasts}
use Rattle.pg_boruvka.specs.Chosen.{AreMarked}
use Rattle.pg_boruvka.specs.Phasing.{count_of}
use Rattle.pg_boruvka.specs.Pointers.{AreMoved}
use Rattle.pg_boruvka.specs.Known.{View, Known, view_of, known_in, with_known, with_hooks, in_stage}
use Rattle.pg_boruvka.specs.Shown.{HasChosen}
use Rattle.pg_boruvka.proofs.RoundsEnding.{own_vote, up_keeps, down_keeps, stop_keeps, phase_keeps}
use Rattle.pg_boruvka.proofs.Regular.{regular_of}
use Rattle.pg_boruvka.proofs.programs.DenseProgram.round_end.Goals as goal

pub returns-in-Up-clause-kept : goal.returns-in-Up-clause-kept
returns-in-Up-clause-kept c = λ start handled sent kept.
    let d = c.args.self.now in
    let vote = own_vote c.args._votes.now d.part.value.rank d.part.value.ranks d.cast c.requires.each (regular_of d).rank c.requires.mine in
    record {
      part = ap (λ (v : View). v.part) c.begin_round.ensures.begun ∙ kept.part;
      chosen = subst (HasChosen MAX_VERTICES (append_marks d.part.value.rank c.args._votes.now handled) sent) (sym c.begin_round.ensures.begun)
          (up_keeps MAX_VERTICES handled sent (view_of d) (regular_of d) kept.chosen c.args._votes.now vote.0 c.requires.running c.requires.each vote.1 c.in-Up.is);
    }

pub returns-then-is_over-clause-kept : goal.returns-then-is_over-clause-kept
returns-then-is_over-clause-kept c = λ start handled sent kept.
    let d = c.args.self.now in
    let vote = own_vote c.args._votes.now d.part.value.rank d.part.value.ranks d.cast c.requires.each (regular_of d).rank c.requires.mine in
    record {
      part = kept.part;
      chosen = stop_keeps MAX_VERTICES handled sent (view_of d) (regular_of d) kept.chosen c.args._votes.now vote.0 c.requires.running c.requires.each vote.1 c.in-Down.is (c.is_over.ensures.0 c.if-is_over.true);
    }

pub returns-else-is_over-clause-kept : goal.returns-else-is_over-clause-kept
returns-else-is_over-clause-kept c = λ start handled sent kept.
    let d = c.args.self.now in
    let vote = own_vote c.args._votes.now d.part.value.rank d.part.value.ranks d.cast c.requires.each (regular_of d).rank c.requires.mine in
    let targets = c.note_own.new.self.hooks.targets.items in
    let edges = c.note_own.new.self.hooks.edges.items in
    let shown : Known → View = λ k. record {
      part = part_of (length k.chosen) d.part.value;
      stage = d.stage;
      phase = count_of d.phases;
      to = d.to;
      at = d.at;
      cast = d.cast;
      ended = d.ended;
      known = k;
    } in
    let view : view_of c.begin_round-in-Down.new.self ≡ in_stage (with_known (view_of d) (with_hooks (known_in d.tables) targets edges)) stage.Hook =
    c.begin_round-in-Down.ensures.begun ∙ ap (λ (k : Known). in_stage (shown k) stage.Hook) c.note_own.ensures.rest in
    record {
      part = ap (λ (v : View). v.part) view ∙ kept.part;
      chosen = subst (HasChosen MAX_VERTICES (append_marks d.part.value.rank c.args._votes.now handled) sent) (sym view)
          (down_keeps MAX_VERTICES handled sent (view_of d) (regular_of d) kept.chosen c.args._votes.now vote.0 c.requires.running c.requires.each vote.1 targets edges c.in-Down.is
          (λ over. true≢false (sym (c.is_over.ensures.1 over) ∙ c.if-is_over.false)) c.note_own.ensures.first c.note_own.ensures.own c.note_own.ensures.still);
    }

pub returns-in-Hook-clause-kept : goal.returns-in-Hook-clause-kept
returns-in-Hook-clause-kept c = λ start handled sent kept.
    let d = c.args.self.now in
    let vote = own_vote c.args._votes.now d.part.value.rank d.part.value.ranks d.cast c.requires.each (regular_of d).rank c.requires.mine in
    let mid = c.end_phase.new.self in
    let t = c.begin_phase.new.self in
    let ended = c.end_phase.ensures in
    let begun = c.begin_phase.ensures in
    let same_edges : length t.chosen.items ≡ length d.tables.chosen.items = ap length begun.same_chosen ∙ ended.same_edges in
    let each : length t.labels.items ≡ d.part.value.n + 1 = ap length begun.same_labels ∙ (ended.same_count ∙ (regular_of d).labels) in
    let phase : count_of c.count.new.self ≡ count_of d.phases + 1 = c.count.ensures in
    let view : view_of c.begin_round-in-Hook.new.self ≡ record {
      part = part_of (length d.tables.chosen.items) d.part.value;
      stage = stage.Up;
      phase = count_of d.phases + 1;
      to = 0;
      at = 0;
      cast = None;
      ended = d.ended;
      known = known_in t;
    } = c.begin_round-in-Hook.ensures.begun ∙ (λ i. record {
      part = part_of (same_edges i) d.part.value;
      stage = stage.Up;
      phase = phase i;
      to = 0;
      at = 0;
      cast = None;
      ended = d.ended;
      known = known_in t;
    }) in
    record {
      part = ap (λ (v : View). v.part) view ∙ kept.part;
      chosen = subst (HasChosen MAX_VERTICES (append_marks d.part.value.rank c.args._votes.now handled) sent) (sym view)
          (phase_keeps MAX_VERTICES handled sent (view_of d) (regular_of d) kept.chosen c.args._votes.now vote.0 c.requires.running c.requires.each vote.1
          (known_in t) same_edges c.own_labels-first.result.0 c.own_labels-first.result.1 c.in-Hook.is
          (subst (λ (x : List ℕ). AreMoved MAX_VERTICES d.tables.hooks.targets.items d.tables.labels.items x) (sym begun.same_labels) ended.moved)
          mid.hooks.targets.items (begun.same_labels ∙ ended.mapped)
          (subst (λ (x : List Bool). AreMarked d.tables.hooks.edges.items d.tables.chosen.items x) (sym begun.same_chosen) ended.marked)
          (subst (λ (x : List DenseArc). locals t.arcs.items ≡ map (relabelled (slice_index mid.hooks.targets.items)) (filter (is_apart (slice_index mid.hooks.targets.items)) (locals x))) ended.same_arcs begun.kept)
          (subst (λ (x : List DenseArc). AreLeasts (locals x) (slice_index mid.hooks.targets.items) t.keys.items t.across.items) ended.same_arcs begun.leasts)
          begun.begun c.own_labels-first.ensures.first c.own_labels-first.ensures.past (t.each_key ∙ each) (t.each_winner ∙ each));
    }
