-- What a summary tells, once it is counted.
use Rattle.std.proofs.Common.{◌≡◌, ◌∙◌, ℕ, Option, List, ap}
use Rattle.pg_base.specs.declared.edges.Edge.{Edge}
use Rattle.pg_base.specs.Distances.{AreLeastArcs}
use Rattle.pg_base.specs.Graph.{Graph}
use Rattle.pg_print.specs.Summaries.{summary_text}
use Rattle.pg_print.specs.declared.summaries.Summary.{Summary}
use Rattle.pg_top.specs.Summary.{clash_count, summary_of}
use Rattle.pg_lane.specs.declared.settling.Settled.{Settled}
use Rattle.pg_group.specs.declared.messages.Envelope.{Envelope}
use Rattle.pg_cells.specs.declared.bodies.CellBody.{CellBody}
use Rattle.pg_colour.specs.declared.colouring.Colouring.{Colouring}
use Rattle.pg_top.specs.Work.{HasColours}
use Rattle.pg_top.proofs.GridLemmas.{none_clash}
use Rattle.pg_top.specs.Text.{AreLeastWeights, AreLowest, IsLeastForest, IsSummaryText}

pub counted_alike : (g : Graph) (h i v w r s : List (Option ℕ)) (tree : List Edge) (c d : List (Option ℕ)) (found : Summary) → h ≡ i → v ≡ w → r ≡ s → c ≡ d
    → found ≡ summary_of g h v r tree (clash_count g.edges c) → found ≡ summary_of g i w s tree (clash_count g.edges d)
counted_alike g h i v w r s tree c d found hops weights roots colours is = cc

pub is_summary : (g : Graph) (hops weights roots : List (Option ℕ)) (tree : List Edge) (colours : List (Option ℕ)) (found : Summary) → AreLeastArcs g 1 hops → AreLeastWeights g 1 weights → AreLowest g roots → IsLeastForest g tree
    → clash_count g.edges colours ≡ 0 → found ≡ summary_of g hops weights roots tree (clash_count g.edges colours) → IsSummaryText g (summary_text found)
is_summary g hops weights roots tree colours found arcs least lowest forest apart is = record {
  hops = hops;
  weights = weights;
  roots = roots;
  tree = tree;
  least_arcs = arcs;
  least_weights = least;
  lowest = lowest;
  forest = forest;
  spelled = ap summary_text (is ∙ ap (λ (n : ℕ). summary_of g hops weights roots tree n) apart);
}

module _ (owners : Option (List ℕ)) (ranks capacity : ℕ) (g : Graph) (answers : List (Option ℕ)) (programs : List Colouring) (lanes : List (Settled (Envelope CellBody))) (has : HasColours owners ranks capacity g answers programs lanes) where
  pub colours_apart : clash_count g.edges answers ≡ 0
  colours_apart = none_clash g answers has.colours has.listed has.right.proper
