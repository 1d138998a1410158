-- A whole run of Dense is a run of Borůvka's method.
use Rattle.std.proofs.Common.{◌≡◌, ℕ, ◌<◌, ◌≤◌, List, length, sym, ◌∙◌, ap, subst, All, Contains, slice_index_or}
use Rattle.pg_base.specs.declared.TheConstants.{MAX_VERTICES}
use Rattle.pg_base.specs.Graph.{Graph}
use Rattle.pg_dist.specs.Sharing.{Sharing}
use Rattle.pg_group.specs.Book.{PairLists}
use Rattle.pg_group.specs.Ranked.{list_at}
use Rattle.pg_adj.specs.Portions.{Portion}
use Rattle.pg_boruvka.specs.declared.messages.Message.{Message}
use Rattle.pg_boruvka.specs.declared.dense.Dense.{Dense}
use Rattle.pg_boruvka.specs.Parts.{LocalArc, Part, IsArc, IsHeld, IsDivided}
use Rattle.pg_boruvka.specs.Portions.{part_of}
use Rattle.pg_boruvka.specs.Whole.{IsRun}
use Rattle.pg_boruvka.specs.Known.{part_in, view_of, state_of}
use Rattle.pg_boruvka.specs.Ranks.{IsDenseRun, DenseIsForest, DenseIsLeast}
use Rattle.pg_boruvka.proofs.Divisions.{divisions_serve}
use Rattle.pg_boruvka.proofs.Ending.{whole_is_forest, whole_is_least}

-- A division by other names of the same parts.
module _ (g : Graph) (ranks : ℕ) (parts others : ℕ → Part) (same : (r : ℕ) → r < ranks → others r ≡ parts r) (d : IsDivided g ranks parts) where
  held : (a : LocalArc) → IsHeld ranks parts a → IsHeld ranks others a
  held a h = record { rank = h.rank; within = h.within; among = subst (λ (p : Part). Contains p.arcs a) (sym (same h.rank h.within)) h.among }

  divided_too : IsDivided g ranks others
  divided_too = record {
    rank = λ r h. ap (λ (p : Part). p.rank) (same r h) ∙ d.rank r h;
    group = λ r h. ap (λ (p : Part). p.ranks) (same r h) ∙ d.group r h;
    vertices = λ r h. ap (λ (p : Part). p.n) (same r h) ∙ d.vertices r h;
    edges = λ r h. ap (λ (p : Part). p.edges) (same r h) ∙ d.edges r h;
    forth = λ i h. held _ (d.forth i h);
    back = λ i h. held _ (d.back i h);
    no_other = λ r h. subst (λ (p : Part). All (IsArc g) p.arcs) (sym (same r h)) (d.no_other r h);
  }

module _ (s : Sharing) (g : Graph) (parts : List Portion) (starts programs : ℕ → Dense) (sent taken : PairLists Message) (run : IsDenseRun s g parts starts programs sent taken) where
  other : Portion
  other = (starts 0).part.value

  part_is : (r : ℕ) → r < s.ranks → part_in (programs r) ≡ part_of (length g.edges) (slice_index_or parts r other)
  part_is r h = (run.kept r h).keeps.part ∙ run.opened r other h

  are_divided : IsDivided g s.ranks (λ r. part_in (programs r))
  are_divided =
      divided_too g s.ranks (λ r. part_of (length g.edges) (slice_index_or parts r other)) (λ r. part_in (programs r)) part_is
      (divisions_serve s g parts other run.laws run.graph run.vertices run.divided)

  is_run : IsRun MAX_VERTICES g s.ranks (λ r. part_in (programs r)) (λ r. state_of (view_of (programs r))) sent taken
  is_run = record {
    graph = run.graph;
    weights = run.weights;
    far_enough = run.graph.vertices;
    divided = are_divided;
    whole = run.whole;
    marked = run.marked;
    kept = λ r h.
        let k = run.kept r h in
        record {
          handled = k.handled;
          promised = k.promised;
          ended = k.ended;
          keeps = k.keeps.chosen.local;
          own_handled = ap (list_at k.handled) (sym (are_divided.rank r h)) ∙ k.keeps.chosen.alone;
          handled_is = k.handled_is;
          sent_is = k.sent_is;
        };
  }

pub dense_is_forest : DenseIsForest
dense_is_forest s g parts starts programs sent taken run r h =
    whole_is_forest MAX_VERTICES g s.ranks (λ r. part_in (programs r)) (λ r. state_of (view_of (programs r))) sent taken (is_run s g parts starts programs sent taken run) r h

pub dense_is_least : DenseIsLeast
dense_is_least s g parts starts programs sent taken run r h =
    whole_is_least MAX_VERTICES g s.ranks (λ r. part_in (programs r)) (λ r. state_of (view_of (programs r))) sent taken (is_run s g parts starts programs sent taken run) r h
