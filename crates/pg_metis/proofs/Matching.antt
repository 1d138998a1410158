-- How far the arcs of a line to greater vertices are the edges from its vertex, in their order.
use Rattle.std.proofs.Common.{◌≡◌, ℕ, ◌+◌, ◌<◌, ◌≤◌, ◌++◌, ◌∙◌, ◌&&◌, Bool, false, eqb, not, List, [], ◌∷◌, length, get_or, sym, ap, arith, All}
use Rattle.std.proofs.lemmas.Bool.{and_parts, eqb-true, not-false}
use Rattle.std.specs.List.{between}
use Rattle.std.proofs.lemmas.List.Edits.{between_more}
use Rattle.pg_base.specs.declared.edges.Edge.{Edge}
use Rattle.pg_metis.specs.declared.pairing.NamedArc.{NamedArc}
use Rattle.pg_metis.specs.Mirrors.{edge_forth, forth_edges}
use Rattle.pg_metis.specs.Pairing.{arc_of, arcs_named}
use Rattle.pg_metis.proofs.NamedArcs.{forth_passed, forth_pushed}
use Rattle.pg_metis.proofs.Marking.{all_longer, line_longer}

pub same_edge : (d e : Edge) → d.u ≡ e.u → d.v ≡ e.v → d.w ≡ e.w → d ≡ e
same_edge d e u v w = λ k. record { u = u k; v = v k; w = w k }

pub record IsMatched (u : ℕ) (xs : List NamedArc) (edges : List Edge) (arc edge next_arc next_edge : ℕ) : Type 0 where
  pub arcs_rise : arc ≤ next_arc
  pub arcs_within : next_arc ≤ length xs
  pub line : All (λ a. a.from ≡ u) (between arc next_arc (arcs_named xs))
  pub edges_rise : edge ≤ next_edge
  pub edges_within : next_edge ≤ length edges
  pub row : All (λ e. e.u ≡ u) (between edge next_edge edges)
  pub same : between edge next_edge edges ≡ forth_edges (between arc next_arc (arcs_named xs))

-- What a comparison of edges says.
pub edge_equal : (d e : Edge) (differ : Bool) → differ ≡ not (eqb d.u e.u && (eqb d.v e.v && eqb d.w e.w)) → differ ≡ false → d ≡ e
edge_equal d e differ is same =
    let all = and_parts (eqb d.u e.u) (eqb d.v e.v && eqb d.w e.w) (not-false (eqb d.u e.u && (eqb d.v e.v && eqb d.w e.w)) (sym is ∙ same)) in
    let rest = and_parts (eqb d.v e.v) (eqb d.w e.w) all.1 in
    same_edge d e (eqb-true d.u e.u all.0) (eqb-true d.v e.v rest.0) (eqb-true d.w e.w rest.1)

pub matched_greater : (u : ℕ) (xs : List NamedArc) (edges : List Edge) (arc edge next_arc next_edge : ℕ) (d : NamedArc) (e : Edge) → IsMatched u xs edges arc edge next_arc next_edge → next_arc < length xs → (get_or xs next_arc d).from ≡ u
    → u < (get_or xs next_arc d).to → next_edge < length edges → get_or edges next_edge e ≡ edge_forth (arc_of (get_or xs next_arc d)) → IsMatched u xs edges arc edge (next_arc + 1) (next_edge + 1)
matched_greater u xs edges arc edge next_arc next_edge d e matched below own greater inside is =
    let a : NamedArc = get_or xs next_arc d in
    record {
      arcs_rise = omega (arith, matched.arcs_rise);
      arcs_within = omega arith;
      line = line_longer xs u arc next_arc d matched.arcs_rise below matched.line own;
      edges_rise = omega (arith, matched.edges_rise);
      edges_within = omega arith;
      row = all_longer (λ (x : Edge). x.u ≡ u) edges edge next_edge e matched.edges_rise inside matched.row (ap (λ (x : Edge). x.u) is ∙ own);
      same = between_more edges edge next_edge e matched.edges_rise inside
          ∙ (ap (λ (es : List Edge). es ++ get_or edges next_edge e ∷ []) matched.same
          ∙ (ap (λ (x : Edge). forth_edges (between arc next_arc (arcs_named xs)) ++ x ∷ []) is
          ∙ sym (forth_pushed xs arc next_arc d matched.arcs_rise below (omega arith))));
    }

pub matched_lesser : (u : ℕ) (xs : List NamedArc) (edges : List Edge) (arc edge next_arc next_edge : ℕ) (d : NamedArc) → IsMatched u xs edges arc edge next_arc next_edge → next_arc < length xs → (get_or xs next_arc d).from ≡ u
    → (get_or xs next_arc d).to ≤ u → IsMatched u xs edges arc edge (next_arc + 1) next_edge
matched_lesser u xs edges arc edge next_arc next_edge d matched below own least = record {
  arcs_rise = omega (arith, matched.arcs_rise);
  arcs_within = omega arith;
  line = line_longer xs u arc next_arc d matched.arcs_rise below matched.line own;
  edges_rise = matched.edges_rise;
  edges_within = matched.edges_within;
  row = matched.row;
  same = matched.same ∙ sym (forth_passed xs arc next_arc d matched.arcs_rise below (omega arith));
}
