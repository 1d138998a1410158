-- What the types of a rank's program say of what it shows.
use Rattle.std.proofs.Common.{◌≡◌, ℕ, ◌+◌, ◌<◌, length, refl, sym, ◌∙◌, ap, subst, arith, Contains}
use Rattle.std.proofs.lemmas.List.Elements.{All-contains}
use Rattle.pg_boruvka.specs.declared.dense.Dense.{Dense}
use Rattle.pg_boruvka.specs.Orderly.{IsOrderly}
use Rattle.pg_boruvka.specs.Portions.{arcs_below}
use Rattle.pg_boruvka.specs.Parts.{LocalArc}
use Rattle.pg_boruvka.specs.Known.{view_of}
use Rattle.pg_boruvka.proofs.DueMessages.{IsRegular}

pub regular_of : (d : Dense) → IsRegular (view_of d)
regular_of d =
    let n : d.n ≡ d.part.value.n = sym d.is_count in
    let labels : length d.tables.labels.items ≡ d.part.value.n + 1 = d.each_label ∙ ap (λ (x : ℕ). x + 1) n in
    record {
      rank = d.is_portion.rank;
      keys = d.tables.each_key ∙ labels;
      labels = labels;
      winners = d.tables.each_winner ∙ labels;
      targets = d.tables.each_target ∙ labels;
      edges = d.tables.each_hook ∙ labels;
      labels_in = λ x last. let below = d.tables.labels_in x 0 (omega (arith, labels, last)) in omega (arith, below, labels);
      targets_in = λ l last. let below = d.tables.targets_in l 0 (omega (arith, labels, last, d.tables.each_target)) in omega (arith, below, labels);
      edges_in = λ l last some. d.tables.hooks_in l 0 (omega (arith, labels, last, d.tables.each_hook)) some;
      few_edges = d.tables.few_edges;
      orderly = λ a c. subst (λ (x : ℕ). IsOrderly x a) n (All-contains (IsOrderly d.n) (arcs_below d.part.value (length d.part.value.vertices)) a d.orderly c);
    }
