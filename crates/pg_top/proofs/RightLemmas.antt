-- The answers of a relaxation are what its label makes them: least numbers of arcs, least weights, lowest vertices.
use Rattle.std.proofs.Common.{◌≡◌, ℕ, ◌+◌, ◌^◌, ◌<◌, ◌≤◌, List, length, refl, sym, ap, ◌∙◌, subst, arith, Option, Some, None, All}
use Rattle.std.specs.Prelude.{slice_index_or}
use Rattle.pg_base.specs.declared.edges.Edge.{Edge}
use Rattle.pg_base.specs.Graph.{Graph, IsGraph, Arc, arcs_of}
use Rattle.pg_base.specs.Walk.{LeastArcs, LeastWeight}
use Rattle.pg_base.specs.Distances.{AreLeastArcs}
use Rattle.pg_group.specs.declared.messages.Envelope.{Envelope}
use Rattle.pg_lane.specs.declared.settling.Settled.{Settled}
use Rattle.pg_print.specs.Columns.{column_text}
use Rattle.pg_dist.specs.Sharing.{Sharing}
use Rattle.pg_label.specs.declared.values.Value.{Value}
use Rattle.pg_label.specs.declared.labels.Label.{Ghosts as LabelGhosts}
use Rattle.pg_label.specs.declared.labels.Hops.{Hops}
use Rattle.pg_label.specs.declared.labels.Weight.{Weight}
use Rattle.pg_label.specs.declared.labels.Root.{Root}
use Rattle.pg_label.specs.contracts.labels.HopsLabel.TheImpl.{ghosts as hops}
use Rattle.pg_label.specs.contracts.labels.WeightLabel.TheImpl.{ghosts as weights}
use Rattle.pg_label.specs.contracts.labels.RootLabel.TheImpl.{ghosts as roots}
use Rattle.pg_agenda.specs.declared.agendas.Agenda.{Ghosts as AgendaGhosts}
use Rattle.pg_agenda.specs.Shares.{Places}
use Rattle.pg_best.specs.declared.offers.Offer.{Offer}
use Rattle.pg_best.specs.Best.{Best}
use Rattle.pg_best.specs.Relaxed.{Relaxed}
use Rattle.pg_run.specs.Lanes.{sent_on}
use Rattle.pg_best.proofs.LabelLemmas.{hops_are_least, weights_are_least, roots_are_lowest}
use Rattle.pg_relax.specs.declared.relaxing.Relax.{Relax}
use Rattle.pg_relax.specs.States.{label_of}
use Rattle.pg_top.specs.declared.columns.Field.{Field}
use Rattle.pg_top.specs.declared.columns.Field.TheVariants.{Amount, Class}
use Rattle.pg_top.specs.Distributions.{IsDistribution}
use Rattle.pg_top.specs.Relaxed.{class_in, field_in, value_of}
use Rattle.pg_top.specs.Text.{AreLeastWeights, AreLowest, IsRootOf}
use Rattle.pg_top.specs.Work.{IsCarried, IsRelaxedBy, SpellsAnswers}
use Rattle.pg_top.proofs.BestLemmas.{arcs_fit}
use Rattle.pg_top.proofs.OverBooks.{answered, lanes_are_relaxed}

pub distribution_n : (owners : Option (List ℕ)) (n ranks : ℕ) (s : Sharing) → IsDistribution owners n ranks s → s.n ≡ n
distribution_n None n ranks s d = d.vertices
distribution_n (Some list) n ranks s d = d.vertices

pub distribution_ranks : (owners : Option (List ℕ)) (n ranks : ℕ) (s : Sharing) → IsDistribution owners n ranks s → s.ranks ≡ ranks
distribution_ranks None n ranks s d = d.group
distribution_ranks (Some list) n ranks s d = d.group

module _ {L A : Type 0} {l : LabelGhosts L} {a : AgendaGhosts A} {takes : Places} (label : L) (field : Field) (owners : Option (List ℕ)) (ranks capacity : ℕ) (g : Graph) (is : IsGraph g) (answers : List (Option ℕ))
    (programs : List (Relax L A l a)) (lanes : List (Settled (Envelope Offer))) (r : IsRelaxedBy label takes field owners ranks capacity g answers programs lanes)
    (costs : All (λ (b : Arc). l.add label b.weight < 2 ^ 32) (arcs_of g.edges)) where
  each_vertex : length answers ≡ g.n
  each_vertex = r.held.count ∙ distribution_n owners g.n ranks r.sharing r.distribution

  best_answer : (v : ℕ) → v < g.n → (value : Option Value) × Best (label_of (l.start label) (l.add label)) (arcs_of g.edges) (v + 1) value × (slice_index_or answers v None ≡ field_in field value)
  best_answer v h = answered label r.sharing r.laws g capacity programs lanes r.relaxation is (sym (distribution_n owners g.n ranks r.sharing r.distribution)) costs field answers r.held v h

  -- The lanes are relaxed.
  carried : IsCarried label takes field owners ranks capacity g answers programs lanes
  carried = record {
    run = r;
    relaxed = subst (λ n. Relaxed (label_of (l.start label) (l.add label)) (arcs_of g.edges) r.sharing.owner r.sharing.local (value_of r.sharing programs) (sent_on n lanes)) (distribution_ranks owners g.n ranks r.sharing r.distribution)
        (lanes_are_relaxed label r.sharing r.laws g capacity programs lanes r.relaxation is (sym (distribution_n owners g.n ranks r.sharing r.distribution)) costs);
  }

module _ {A : Type 0} {a : AgendaGhosts A} {takes : Places} (owners : Option (List ℕ)) (ranks capacity : ℕ) (g : Graph) (is : IsGraph g) (answers : List (Option ℕ)) (lanes : List (Settled (Envelope Offer))) where
  pub arcs_are_least : (source : Hops) (programs : List (Relax Hops A hops a)) → IsRelaxedBy source takes Amount owners ranks capacity g answers programs lanes → IsCarried source takes Amount owners ranks capacity g answers programs lanes × AreLeastArcs g source.source answers
  arcs_are_least source programs r =
      let cheap : All (λ (b : Arc). 1 < 2 ^ 32) (arcs_of g.edges) = λ k d h. omega arith in (
        carried source Amount owners ranks capacity g is answers programs lanes r cheap,
        record {
          count = each_vertex source Amount owners ranks capacity g is answers programs lanes r cheap;
          each = λ v h.
              let b = best_answer source Amount owners ranks capacity g is answers programs lanes r cheap v h in
              subst (LeastArcs (arcs_of g.edges) source.source (v + 1)) (sym b.2) (hops_are_least (arcs_of g.edges) source.source (v + 1) b.0 b.1);
        },
      )

  pub weights_are_right : (source : Weight) (programs : List (Relax Weight A weights a)) → IsRelaxedBy source takes Amount owners ranks capacity g answers programs lanes
      → (most : ℕ) → most < 2 ^ 32 → All (λ (e : Edge). e.w ≤ most) g.edges → IsCarried source takes Amount owners ranks capacity g answers programs lanes × AreLeastWeights g source.source answers
  weights_are_right source programs r most fits each =
      let bounded : All (λ (e : Edge). e.w < 2 ^ 32) g.edges = λ k d h. omega (arith, each k d h, fits) in
      let costs : All (λ (b : Arc). b.weight < 2 ^ 32) (arcs_of g.edges) = arcs_fit g.edges bounded in (
        carried source Amount owners ranks capacity g is answers programs lanes r costs,
        record {
          count = each_vertex source Amount owners ranks capacity g is answers programs lanes r costs;
          each = λ v h.
              let b = best_answer source Amount owners ranks capacity g is answers programs lanes r costs v h in
              subst (LeastWeight (arcs_of g.edges) source.source (v + 1)) (sym b.2) (weights_are_least (arcs_of g.edges) source.source (v + 1) b.0 b.1);
        },
      )

  pub roots_are_right : (label : Root) (programs : List (Relax Root A roots a)) → IsRelaxedBy label takes Class owners ranks capacity g answers programs lanes → IsCarried label takes Class owners ranks capacity g answers programs lanes × AreLowest g answers
  roots_are_right label programs r =
      let cheap : All (λ (b : Arc). 1 < 2 ^ 32) (arcs_of g.edges) = λ k d h. omega arith in (
        carried label Class owners ranks capacity g is answers programs lanes r cheap,
        record {
          count = each_vertex label Class owners ranks capacity g is answers programs lanes r cheap;
          each = λ v h.
              let b = best_answer label Class owners ranks capacity g is answers programs lanes r cheap v h in
              let x = roots_are_lowest (arcs_of g.edges) (v + 1) b.0 b.1 in
              subst (IsRootOf g (v + 1)) (sym (b.2 ∙ ap class_in x.1)) x.2;
        },
      )

-- What was carried on a crew's ranks and lanes is spelled for a plan of as many and of this capacity.
pub spelled_for : {L A : Type 0} {l : LabelGhosts L} {a : AgendaGhosts A} {takes : Places} (label : L) (field : Field) (owners : Option (List ℕ)) (n ranks m capacity : ℕ) (g : Graph) (answers : List (Option ℕ))
    (programs : List (Relax L A l a)) (lanes : List (Settled (Envelope Offer))) → n ≡ ranks → m ≡ capacity → IsCarried label takes field owners n m g answers programs lanes
    → SpellsAnswers label takes field owners ranks capacity g (column_text answers) programs lanes
spelled_for {takes = takes} label field owners n ranks m capacity g answers programs lanes same_ranks same_capacity carried = record {
  answers = answers;
  carried = subst (λ k. IsCarried label takes field owners k capacity g answers programs lanes) same_ranks
      (subst (λ k. IsCarried label takes field owners n k g answers programs lanes) same_capacity carried);
  spelled = refl;
}
