use Rattle.std.proofs.Common.{◌≡◌, ℕ, ◌+◌, Bool, false, Vec, Global, List, All, length, refl, sym, ap, ◌∙◌, subst, arith}
use Rattle.std.specs.Prelude.{slice_index}
use Rattle.std.proofs.lemmas.List.Elements.{All-contains}
use Rattle.pg_adj.specs.Portions.{Portion, IsPortion}
use Rattle.pg_boruvka.specs.declared.arcs.DenseArc.{DenseArc}
use Rattle.pg_boruvka.specs.Arcs.{IsInTables, locals}
use Rattle.pg_boruvka.specs.Orderly.{IsOrderly}
use Rattle.pg_boruvka.specs.Portions.{arcs_below}
use Rattle.pg_boruvka.proofs.OrderlyArcs.{orderly_arcs, in_tables}
use Rattle.pg_boruvka.proofs.NewViews.{new_view}
use Rattle.pg_boruvka.proofs.dense.Dense.new.Goals as goal

pub new-requires-clause-ends : goal.new-requires-clause-ends
new-requires-clause-ends c =
    let said = c.in_ok-arcs.ensures in
    subst (λ (n : ℕ). All (IsInTables (n + 1) c.args.edges) c.in_ok-arcs.arcs.items) (sym c.n-n.ensures.value)
    (in_tables c.args.part c.in_ok-arcs.arcs.items c.args.edges said.locals (orderly_arcs c.args.part c.in_ok-arcs.arcs.items c.n-n.ensures.portion said.locals said.small) c.requires.each)

pub invariant_of-dense : goal.invariant_of-dense
invariant_of-dense c =
    let p = c.args.part in
    let same : c.of-snapshot.result.value ≡ p = c.of-snapshot.ensures in
    let said = c.in_ok-arcs.ensures in
    record {
      is_rank = ap (λ (x : Portion). x.rank) same ∙ sym c.rank.ensures.value;
      is_size = ap (λ (x : Portion). x.ranks) same ∙ sym c.ranks.ensures;
      is_count = ap (λ (x : Portion). x.n) same ∙ sym c.n-n.ensures.value;
      is_portion = subst IsPortion (sym same) c.n-n.ensures.portion;
      each_label = c.in-Ok.ensures.count;
      orderly = subst (λ (n : ℕ). All (IsOrderly n) (arcs_below c.of-snapshot.result.value (length c.of-snapshot.result.value.vertices))) (sym c.n-n.ensures.value)
          (subst (λ (x : Portion). All (IsOrderly p.n) (arcs_below x (length x.vertices))) (sym same) (orderly_arcs p c.in_ok-arcs.arcs.items c.n-n.ensures.portion said.locals said.small));
      rests = λ e. cc;
    }

pub returns-clause-new : goal.returns-clause-new
returns-clause-new c =
    let p = c.args.part in
    let value = c.of-snapshot.result.value in
    let same : value ≡ p = c.of-snapshot.ensures in
    let said = c.in_ok-arcs.ensures in
    let made = c.in-Ok.ensures in
    let begun = c.begin_phase.ensures in
    let t = c.begin_phase.new.self in
    let portion : IsPortion value = subst IsPortion (sym same) c.n-n.ensures.portion in
    let orderly : All (IsOrderly value.n) (arcs_below value (length value.vertices)) =
    subst (λ (x : Portion). All (IsOrderly x.n) (arcs_below x (length x.vertices))) (sym same) (orderly_arcs p c.in_ok-arcs.arcs.items c.n-n.ensures.portion said.locals said.small) in
    let n : c.n-n.result ≡ value.n = c.n-n.ensures.value ∙ sym (ap (λ (x : Portion). x.n) same) in
    let count : length c.in-Ok.tables.labels.items ≡ value.n + 1 = made.count ∙ ap (λ (x : ℕ). x + 1) n in
    let each : length t.labels.items ≡ value.n + 1 = ap length begun.same_labels ∙ count in
    let arcs : locals c.in-Ok.tables.arcs.items ≡ arcs_below value (length value.vertices) =
    ap (λ (x : Vec DenseArc Global). locals x.items) made.arcs ∙ (said.locals ∙ ap (λ (x : Portion). arcs_below x (length x.vertices)) (sym same)) in
    record {
      view = new_view _ (locals c.in-Ok.tables.arcs.items) c.in-Ok.tables.hooks.targets.items c.own_labels-first.result.0 c.own_labels-first.result.1
          refl refl refl refl refl refl arcs begun.kept begun.leasts begun.begun
          c.own_labels-first.ensures.first c.own_labels-first.ensures.past portion.rank (λ a among. All-contains (IsOrderly value.n) (arcs_below value (length value.vertices)) a orderly among)
          (t.each_key ∙ each) (t.each_winner ∙ each)
          (λ x last. ap (λ (l : List ℕ). slice_index l x) begun.same_labels ∙ made.labels x (omega (arith, last, count)))
          (λ x last. made.unhooked.still x (omega (arith, last, count, c.in-Ok.tables.each_target)))
          (subst (λ (x : List Bool). All (λ (is : Bool). is ≡ false) x) (sym begun.same_chosen) made.unchosen);
      idle = refl;
    }
