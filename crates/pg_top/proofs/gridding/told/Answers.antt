use Rattle.std.proofs.Common.{ℕ, Option, List, All, ◌≤◌, ap, sym, subst}
use Rattle.pg_print.specs.Forests.{edges_at}
use Rattle.pg_print.specs.Summaries.{summary_text}
use Rattle.pg_top.specs.Summary.{max_distance, number_in}
use Rattle.pg_top.proofs.GridLemmas.{hops_are_short, weights_are_low}
use Rattle.pg_top.proofs.SummaryLemmas.{counted_alike, is_summary}
use Rattle.pg_top.proofs.gridding.told.Goals as goal

pub summary-summary-requires-clause-short_hops : goal.summary-summary-requires-clause-short_hops
summary-summary-requires-clause-short_hops c =
    subst (λ (list : List (Option ℕ)). All (λ a. number_in a ≤ max_distance) list) (sym c.deref.ensures.value)
    (hops_are_short c.args.graph.now c.n-n.ensures.graph c.requires.small c.args.searched.hops.of_vertices.items c.requires.hops)

pub summary-summary-requires-clause-short_weights : goal.summary-summary-requires-clause-short_weights
summary-summary-requires-clause-short_weights c =
    subst (λ (list : List (Option ℕ)). All (λ a. number_in a ≤ max_distance) list) (sym c.deref-2.ensures.value)
    (weights_are_low c.args.graph.now c.n-n.ensures.graph c.requires.small c.args.weighted.answers.of_vertices.items c.requires.weights)

pub returns-clause-right : goal.returns-clause-right
returns-clause-right c =
    let tree = edges_at c.args.grown.tree.graph.edges c.args.grown.tree.indices.items in
    is_summary c.args.graph.now c.args.searched.hops.of_vertices.items c.args.weighted.answers.of_vertices.items c.args.searched.roots.of_vertices.items tree c.args.coloured.colours.of_vertices.items c.summary-summary.result
    c.requires.hops c.requires.weights c.requires.roots c.requires.forest c.requires.apart
    (counted_alike c.args.graph.now _ _ _ _ _ _ tree _ _ c.summary-summary.result c.deref.ensures.value c.deref-2.ensures.value c.deref-3.ensures.value c.deref-4.ensures.value c.summary-summary.ensures)

pub returns-clause-work : goal.returns-clause-work
returns-clause-work c = λ delta ranks capacity both carried forest colours.
    let tree = edges_at c.args.grown.tree.graph.edges c.args.grown.tree.indices.items in
    record {
      hops = c.args.searched.hops.of_vertices.items;
      weights = c.args.weighted.answers.of_vertices.items;
      roots = c.args.searched.roots.of_vertices.items;
      tree = tree;
      colours = c.args.coloured.colours.of_vertices.items;
      searched = both;
      weighed = carried;
      spanned = forest;
      coloured = colours;
      spelled = ap summary_text (counted_alike c.args.graph.now _ _ _ _ _ _ tree _ _ c.summary-summary.result c.deref.ensures.value c.deref-2.ensures.value c.deref-3.ensures.value c.deref-4.ensures.value c.summary-summary.ensures);
    }
