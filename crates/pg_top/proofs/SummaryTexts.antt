-- What the summary of a graph of one vertex is.
use Rattle.std.proofs.Common.{◌≡◌, ℕ, zero, suc, ◌+◌, ◌<◌, Option, Some, None, List, [], ◌∷◌, get_or, refl, ap, arith}
use Rattle.std.specs.Prelude.{codes}
use Rattle.std.specs.Fmt.{digits}
use Rattle.pg_base.specs.Examples.{graph}
use Rattle.pg_base.specs.Forest.{IsForest}
use Rattle.pg_base.specs.Walk.{LeastArcs, LeastWeight}
use Rattle.pg_base.proofs.WalkLemmas.{least_arcs_by, least_weight_by, lowest_by}
use Rattle.pg_words.specs.declared.plans.Algorithm.TheVariants.{Grid}
use Rattle.pg_top.specs.Text.{IsAnswerText, IsRootOf}
use Rattle.pg_top.proofs.GrownLemmas.{least_from_forest}
use Rattle.pg_top.proofs.OneText.{text_is_one}

abbrev at_first : List (Option ℕ)
at_first = Some 0 ∷ []

arcs_to : (v : ℕ) → v < 1 → LeastArcs [] 1 (v + 1) (get_or at_first v None)
arcs_to zero below = least_arcs_by (λ v. 0) [] 1 1 0 [] (λ k d l. absurd (omega arith)) refl refl (omega arith)
arcs_to (suc v) below = absurd (omega arith)

weights_to : (v : ℕ) → v < 1 → LeastWeight [] 1 (v + 1) (get_or at_first v None)
weights_to zero below = least_weight_by (λ v. 0) [] 1 1 0 [] (λ k d l. absurd (omega arith)) refl refl (omega arith)
weights_to (suc v) below = absurd (omega arith)

roots_to : (v : ℕ) → v < 1 → IsRootOf (graph 1 []) (v + 1) (get_or (Some 1 ∷ []) v None)
roots_to zero below = lowest_by [] 1 1 (λ k d l. absurd (omega arith)) (omega arith) ([], refl)
roots_to (suc v) below = absurd (omega arith)

no_edges : IsForest [] []
no_edges = record { exactly = λ e. (λ among. absurd (omega (arith, among.1)), λ kept. absurd (omega (arith, kept.among.1))); ascending = λ i j d less within. absurd (omega arith) }

pub summary_of_one : IsAnswerText Grid 1 0 (graph 1 []) (codes "vertices 1\nedges 0\nhops 1 0 0\nweights 1 0 0\ncomponents 1\nforest 0 0\nclashes 0\n")
unfolding digits
summary_of_one = record {
  hops = at_first;
  weights = at_first;
  roots = Some 1 ∷ [];
  tree = [];
  least_arcs = record { count = refl; each = arcs_to };
  least_weights = record { count = refl; each = weights_to };
  lowest = record { count = refl; each = roots_to };
  forest = least_from_forest (graph 1 []) [] no_edges;
  spelled = refl;
}

pub no_clash_of_one : IsAnswerText Grid 1 0 (graph 1 []) (codes "vertices 1\nedges 0\nhops 1 0 0\nweights 1 0 0\ncomponents 1\nforest 0 0\nclashes 1\n") → ⊥
no_clash_of_one p =
    let same : codes "vertices 1\nedges 0\nhops 1 0 0\nweights 1 0 0\ncomponents 1\nforest 0 0\nclashes 0\n" ≡ codes "vertices 1\nedges 0\nhops 1 0 0\nweights 1 0 0\ncomponents 1\nforest 0 0\nclashes 1\n" = text_is_one Grid 1 1 0 (graph 1 []) _ _ (λ e. absurd (cc e)) summary_of_one p in
    let last : ◌≡◌ {A = ℕ} 48 49 = ap (λ (text : List ℕ). get_or text 76 0) same in
    omega arith
