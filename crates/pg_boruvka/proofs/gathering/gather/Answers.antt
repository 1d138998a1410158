use Rattle.std.proofs.Common.{rules, arith, All, length, slice_index, List, sym, refl, ap, ◌∙◌, subst, Vec, Global}
use Rattle.std.proofs.lemmas.List.{take_all}
use Rattle.pg_base.specs.declared.TheConstants.{MAX_EDGES}
use Rattle.pg_boruvka.specs.declared.arcs.DenseArc.{DenseArc}
use Rattle.pg_boruvka.specs.Arcs.{locals, IsInTables, AreLeasts}
use Rattle.pg_boruvka.proofs.MovedInPlace.{moved_all}
use Rattle.pg_boruvka.proofs.Gathered.{read_in_tables, locals_gathered, ends_gathered, leasts_of_none, keys_of_edges, gathered_within, gathered_apart}
use Rattle.pg_boruvka.proofs.gathering.gather.Goals as goal
use Rattle.pg_boruvka.proofs.gathering.gather.Goals.{then-from-to, else-from-to}

pub overflow_cast-from : goal.overflow_cast-from
overflow_cast-from c =
    let at = read_in_tables (IsInTables (length c.args.pointers.now) MAX_EDGES) _ _ _ _ _ _ _ c.loop-place.invariant.arcs (omega arith) c.index.ensures c.requires.arcs in
    omega (arith, at.from)

pub offset_bounds-pointers-arc : goal.offset_bounds-pointers-arc
offset_bounds-pointers-arc c =
    let at = read_in_tables (IsInTables (length c.args.pointers.now) MAX_EDGES) _ _ _ _ _ _ _ c.loop-place.invariant.arcs (omega arith) c.index.ensures c.requires.arcs in
    omega (arith, at.from)

pub bounds-pointers-arc : goal.bounds-pointers-arc
bounds-pointers-arc c =
    let at = read_in_tables (IsInTables (length c.args.pointers.now) MAX_EDGES) _ _ _ _ _ _ _ c.loop-place.invariant.arcs (omega arith) c.index.ensures c.requires.arcs in
    omega (arith, at.from)

pub overflow_cast-to : goal.overflow_cast-to
overflow_cast-to c =
    let at = read_in_tables (IsInTables (length c.args.pointers.now) MAX_EDGES) _ _ _ _ _ _ _ c.loop-place.invariant.arcs (omega arith) c.index.ensures c.requires.arcs in
    omega (arith, at.to)

pub offset_bounds-pointers-arc-in-loop-place : goal.offset_bounds-pointers-arc-in-loop-place
offset_bounds-pointers-arc-in-loop-place c =
    let at = read_in_tables (IsInTables (length c.args.pointers.now) MAX_EDGES) _ _ _ _ _ _ _ c.loop-place.invariant.arcs (omega arith) c.index.ensures c.requires.arcs in
    omega (arith, at.to)

pub bounds-pointers-arc-in-loop-place : goal.bounds-pointers-arc-in-loop-place
bounds-pointers-arc-in-loop-place c =
    let at = read_in_tables (IsInTables (length c.args.pointers.now) MAX_EDGES) _ _ _ _ _ _ _ c.loop-place.invariant.arcs (omega arith) c.index.ensures c.requires.arcs in
    omega (arith, at.to)

pub key-requires : goal.key-requires
key-requires c =
    let at = read_in_tables (IsInTables (length c.args.pointers.now) MAX_EDGES) _ _ _ _ _ _ _ c.loop-place.invariant.arcs (omega arith) c.index.ensures c.requires.arcs in
    omega (arith, at.edge)

pub loop-place-init : goal.loop-place-init
loop-place-init c = record {
  arcs = record { front = refl; rest = refl; behind = omega arith; within = omega arith; long = refl };
  leasts = leasts_of_none (slice_index c.args.pointers.now) c.fill.new.self c.args.across.now (λ l h. search rules);
  targets = λ count first pointers. first;
}

pub loop-place-preserved : goal.loop-place-preserved
loop-place-preserved c =
    let at = read_in_tables (IsInTables (length c.args.pointers.now) MAX_EDGES) _ _ _ _ _ _ _ c.loop-place.invariant.arcs (omega arith) c.index.ensures c.requires.arcs in
    elim c.if-from-to.branch [
      | then-from-to w ↦
          let items = ap (λ (v : Vec DenseArc Global). v.items) w.arcs-is in
          rw (items, w.keys-is, w.across-is, w.kept-is, w.lower.ensures.key, w.lower.ensures.label)
          (gathered_apart _ _ _ _ _ _ _ _ _ c.loop-place.invariant (omega arith) c.index.ensures w.key.result w.if-from-to.true w.key.ensures.value (omega (arith, w.key.ensures.small)) at
          c.requires.pointers (omega arith) (omega arith))
      | else-from-to w ↦
          rw (ap (λ (v : Vec DenseArc Global). v.items) w.arcs-is, w.keys-is, w.across-is, w.kept-is)
          (gathered_within _ _ _ _ _ _ _ _ _ c.loop-place.invariant (omega arith) c.index.ensures w.if-from-to.false)
    ]

pub returns-clause-kept : goal.returns-clause-kept
returns-clause-kept c =
    let front = moved_all c.loop-place.invariant.arcs (omega arith) in
    ap locals c.truncate.ensures.items ∙ (ap locals front ∙ locals_gathered c.args.pointers.now c.args.arcs.now.items)

pub returns-clause-leasts : goal.returns-clause-leasts
returns-clause-leasts c =
    subst (λ (arcs : List DenseArc). AreLeasts (locals arcs) (slice_index c.args.pointers.now) c.loop-place.keys c.loop-place.across)
    (take_all c.loop-place.place c.args.arcs.now.items (omega arith)) c.loop-place.invariant.leasts

pub returns-clause-ends : goal.returns-clause-ends
returns-clause-ends c count edges below all =
    let front = moved_all c.loop-place.invariant.arcs (omega arith) in
    subst (All (IsInTables count edges)) (sym (c.truncate.ensures.items ∙ front)) (ends_gathered c.args.pointers.now c.args.arcs.now.items count edges c.requires.arcs below all)

pub returns-clause-edges : goal.returns-clause-edges
returns-clause-edges c count edges few in_tables =
    keys_of_edges c.args.arcs.now.items (slice_index c.args.pointers.now) c.loop-place.keys c.loop-place.across count edges
    (subst (λ (arcs : List DenseArc). AreLeasts (locals arcs) (slice_index c.args.pointers.now) c.loop-place.keys c.loop-place.across)
    (take_all c.loop-place.place c.args.arcs.now.items (omega arith)) c.loop-place.invariant.leasts)
    in_tables
