-- A rank's pass over its places is a pass over the graph's vertices.
use Rattle.std.proofs.Common.{◌≡◌, ◌≢◌, ◌==◌, ℕ, ◌<◌, List, [], ◌∷◌, Some, None, length, map, slice_get, refl, sym, ◌∙◌, ap, subst, inl, inr, ⊎_elim, arith, All}
use Rattle.std.specs.Prelude.{slice_index}
use Rattle.std.proofs.lemmas.Bool.{cases_eq, eq-eqb, ne_eqb, cond-true, cond-false}
use Rattle.std.proofs.lemmas.List.{get_or_default}
use Rattle.std.proofs.lemmas.List.Elements.{All-head, All-tail}
use Rattle.pg_base.specs.Graph.{Graph, IsGraph}
use Rattle.pg_dist.specs.Sharing.{Sharing, IsSharing}
use Rattle.pg_adj.specs.declared.arcs.Ghost.{Ghost}
use Rattle.pg_adj.specs.Portions.{Portion}
use Rattle.pg_adj.specs.Division.{Divided}
use Rattle.pg_proper.specs.Passes as over
use Rattle.pg_proper.proofs.PassLemmas.{some_same, at_it, at_other}
use Rattle.pg_proper.proofs.Rounds.{none_some}
use Rattle.pg_proper.proofs.FirstFit.{neighbour_within}
use Rattle.pg_colour.specs.declared.TheConstants.{NO_COLOUR}
use Rattle.pg_colour.specs.Passes.{Cells, IsTaken, IsLeastFree, with_cell, Passes}
use Rattle.pg_colour.specs.Whole.{colour_in}
use Rattle.pg_colour.proofs.Neighbours.{rank_is, own_vertex, own_below, own_place, arc_is, arc_to, ghost_away, ghost_of_arc}

pub colour_some : (x : ℕ) → x ≢ NO_COLOUR → colour_in x ≡ Some x
colour_some x apart = cond-false (x == NO_COLOUR) None (Some x) (ne_eqb x NO_COLOUR apart)

pub colour_none : (x : ℕ) → x ≡ NO_COLOUR → colour_in x ≡ None
colour_none x same = cond-true (x == NO_COLOUR) None (Some x) (eq-eqb x NO_COLOUR same)

pub some_colour : (x c : ℕ) → colour_in x ≡ Some c → x ≡ c
some_colour x c e = ⊎_elim
    (λ same. absurd (none_some c (sym (colour_none x same) ∙ e)))
    (λ apart. some_same x c (sym (colour_some x apart) ∙ e))
    (cases_eq x NO_COLOUR)

pub same_colour : (x y : ℕ) → colour_in x ≡ colour_in y → x ≡ y
same_colour x y e = ⊎_elim
    (λ none. ⊎_elim
    (λ both. none ∙ sym both)
    (λ apart. absurd (none_some y (sym (colour_none x none) ∙ (e ∙ colour_some y apart))))
    (cases_eq y NO_COLOUR))
    (λ some. sym (some_colour y x (sym e ∙ colour_some x some)))
    (cases_eq x NO_COLOUR)

pub cell_at : (cells : Cells) (k x : ℕ) → with_cell cells k x k ≡ x
cell_at cells k x = cond-true (k == k) x (cells k) (eq-eqb k k refl)

pub cell_else : (cells : Cells) (k x i : ℕ) → i ≢ k → with_cell cells k x i ≡ cells i
cell_else cells k x i apart = cond-false (i == k) x (cells i) (ne_eqb i k apart)

-- Colours by vertex agree with the cells of a part.
pub record Agrees (p : Portion) (colours : over.Colours) (own seen : Cells) : Type 0 where
  pub at_own : (i : ℕ) → i < length p.vertices → colours (slice_index p.vertices i) ≡ colour_in (own i)
  pub at_ghost : (slot : ℕ) (x : Ghost) → slice_get p.ghosts slot ≡ Some x → colours x.vertex.0 ≡ colour_in (seen slot)

module _ (s : Sharing) (g : Graph) (parts : List Portion) (laws : IsSharing s) (is : IsGraph g) (same : g.n ≡ s.n) (d : Divided s g parts)
    (r : ℕ) (p : Portion) (at_rank : slice_get parts r ≡ Some p) where
  module _ (colours : over.Colours) (own seen : Cells) (agrees : Agrees p colours own seen) (i : ℕ) (inside : i < length p.vertices) where
    abbrev v : ℕ
    v = slice_index p.vertices i

    taken_there : (k : ℕ) → k < NO_COLOUR → IsTaken p own seen i k → over.IsTaken g.edges colours v k
    taken_there k small t =
        let from = arc_is s g parts laws is same d r p at_rank i t.arc inside t.among in
        let to = neighbour_within g.n g.edges is.within v t.arc.to.0 from.joined in
        let is_some : colour_in k ≡ Some k = colour_some k (λ e. omega (arith, e, small)) in
        record {
          neighbour = t.arc.to.0;
          joined = from.joined;
          has = ⊎_elim
              (λ near.
              let mine : s.owner t.arc.to.0 ≡ r = sym from.home ∙ (near.0 ∙ rank_is s g parts laws is same d r p at_rank) in
              let place : slice_index p.vertices t.arc.place ≡ t.arc.to.0 = ap (slice_index p.vertices) from.place ∙ own_place s g parts laws is same d r p at_rank t.arc.to.0 to.2 to.3 mine in
              let below : t.arc.place < length p.vertices = omega (arith, from.place, own_below s g parts laws is same d r p at_rank t.arc.to.0 to.2 to.3 mine) in
              ap colours (sym place) ∙ (agrees.at_own t.arc.place below ∙ (ap colour_in near.1 ∙ is_some)))
              (λ far. ap colours (sym far.1.2) ∙ (agrees.at_ghost far.0 far.1.0 far.1.1 ∙ (ap colour_in far.2 ∙ is_some)))
              t.ends;
        }

    taken_back : (k : ℕ) → over.IsTaken g.edges colours v k → IsTaken p own seen i k
    taken_back k t =
        let arc = arc_to s g parts laws is same d r p at_rank i t.neighbour inside t.joined in
        let from = arc_is s g parts laws is same d r p at_rank i arc.arc inside arc.among in
        let to = neighbour_within g.n g.edges is.within v arc.arc.to.0 from.joined in
        record {
          arc = arc.arc;
          among = arc.among;
          ends = ⊎_elim
              (λ mine.
              let place : slice_index p.vertices arc.arc.place ≡ arc.arc.to.0 = ap (slice_index p.vertices) from.place ∙ own_place s g parts laws is same d r p at_rank arc.arc.to.0 to.2 to.3 mine in
              let below : arc.arc.place < length p.vertices = omega (arith, from.place, own_below s g parts laws is same d r p at_rank arc.arc.to.0 to.2 to.3 mine) in
              inl (
                from.home ∙ (mine ∙ sym (rank_is s g parts laws is same d r p at_rank)),
                some_colour (own arc.arc.place) k (sym (agrees.at_own arc.arc.place below) ∙ (ap colours (place ∙ arc.leads) ∙ t.has)),
              ))
              (λ away.
              let slot = ghost_of_arc s g parts laws is same d r p at_rank i arc.arc inside arc.among away in
              inr (slot.0, slot.1, some_colour (seen slot.0) k (sym (agrees.at_ghost slot.0 slot.1.0 slot.1.1) ∙ (ap colours (slot.1.2 ∙ arc.leads) ∙ t.has))))
              (cases_eq (s.owner arc.arc.to.0) r);
        }

    least_there : (c : ℕ) → IsLeastFree p own seen i c → over.IsLeastFree g.edges colours v c
    least_there c l = record {
      free = λ t. l.free (taken_back c t);
      least = λ k less. taken_there k (let small = l.colour in omega (arith, small, less)) (l.least k less);
    }

    agrees_next : (c : ℕ) → IsLeastFree p own seen i c → Agrees p (over.with_colour colours v c) (with_cell own i c) seen
    agrees_next c l =
        let is_some : colour_in c ≡ Some c = colour_some c (λ e. let small = l.colour in omega (arith, e, small)) in
        let mine = own_vertex s g parts laws is same d r p at_rank i inside in
        record {
          at_own = λ k below. ⊎_elim
              (λ here. subst (λ (x : ℕ). over.with_colour colours v c (slice_index p.vertices x) ≡ colour_in (with_cell own i c x)) (sym here)
              (at_it colours v c ∙ (sym is_some ∙ ap colour_in (sym (cell_at own i c)))))
              (λ else.
              let other = own_vertex s g parts laws is same d r p at_rank k below in
              at_other colours v c (slice_index p.vertices k) (λ e. else (sym other.local ∙ (ap s.local e ∙ mine.local)))
              ∙ (agrees.at_own k below ∙ ap colour_in (sym (cell_else own i c k else))))
              (cases_eq k i);
          at_ghost = λ slot x held.
              at_other colours v c x.vertex.0 (λ e. ghost_away s g parts laws is same d r p at_rank slot x held (ap s.owner e ∙ mine.owner)) ∙ agrees.at_ghost slot x held;
        }

  pub pass_over : (list : List ℕ) (colours end : over.Colours) (before after seen : Cells) → All (λ i. i < length p.vertices) list → Agrees p colours before seen
      → ((i : ℕ) → i < length p.vertices → end (slice_index p.vertices i) ≡ colour_in (after i))
      → Passes p seen list before after → over.Passes g.edges p.vertices (map (slice_index p.vertices) list) colours end
  pass_over [] colours end before after seen inside agrees ends passes = λ v c.
      let below : c.0 < length p.vertices = c.1 in
      let at : slice_index p.vertices c.0 ≡ v = get_or_default p.vertices c.0 0 v below ∙ c.2 in
      ap end (sym at) ∙ (ends c.0 below ∙ (ap colour_in (passes c.0) ∙ (sym (agrees.at_own c.0 below) ∙ ap colours at)))
  pass_over (i ∷ list) colours end before after seen inside agrees ends passes =
      let here : i < length p.vertices = All-head (λ i. i < length p.vertices) i list inside in (
        passes.0,
        least_there colours before seen agrees i here passes.0 passes.1,
        pass_over list (over.with_colour colours (slice_index p.vertices i) passes.0) end (with_cell before i passes.0) after seen (All-tail (λ i. i < length p.vertices) i list inside)
            (agrees_next colours before seen agrees i here passes.0 passes.1) ends passes.2,
      )
