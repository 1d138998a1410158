-- The ghosts of a rank are vertices of other ranks, each once.
use Rattle.std.proofs.Common.{◌≡◌, ◌≢◌, ◌==◌, ◌&&◌, not, true, ℕ, ◌+◌, ◌<◌, List, length, get_or, filter, All, AllPairs, Contains, zero, suc, ap, subst, refl, ◌∙◌, arith}
use Rattle.std.proofs.lemmas.Bool.{eqb-true, and_parts, not-true, eqb-false}
use Rattle.std.proofs.lemmas.List.Elements.{All-nil, All-push, All-weaker, All-map, All-contains}
use Rattle.std.proofs.lemmas.List.Folds.{Any-from_list_any}
use Rattle.std.proofs.lemmas.List.Kept.{AllPairs-filter}
use Rattle.std.proofs.lemmas.List.Quantifiers.{all_pairs_push}
use Rattle.pg_base.specs.declared.edges.Edge.{Edge}
use Rattle.pg_base.specs.Keyed.{items_of}
use Rattle.pg_base.proofs.Members.{Contains-filter}
use Rattle.pg_adj.specs.declared.arcs.Arc.{Arc}
use Rattle.pg_adj.specs.declared.arcs.Ghost.{Ghost}
use Rattle.pg_adj.specs.Portions.{IsVertex}
use Rattle.pg_adj.specs.Incidence.{incidences}
use Rattle.pg_dist.specs.Sharing.{Sharing}
use Rattle.pg_adj.specs.Division.{AreRows, arc_at, arcs_at, leads_abroad, vertices_to, ghost_of, ghosts_of}
use Rattle.pg_adj.proofs.MirrorLists.{Contains-from_map, AllPairs-nil, AllPairs-map}
use Rattle.pg_adj.proofs.Sharings.{in_first_rows}

vertices_to-within : (n : ℕ) → All (IsVertex n) (vertices_to n)
vertices_to-within zero = All-nil (IsVertex zero)
vertices_to-within (suc n) =
    All-push (IsVertex (suc n)) (vertices_to n) (n + 1)
    (All-weaker (IsVertex n) (IsVertex (suc n)) (λ v h. record { first = h.first; last = omega (arith, h.last) }) (vertices_to n) (vertices_to-within n))
    (record { first = omega arith; last = omega arith })

vertices_ascend : (n : ℕ) → AllPairs (λ v w. v < w) (vertices_to n)
vertices_ascend zero = AllPairs-nil (λ v w. v < w)
vertices_ascend (suc n) =
    all_pairs_push (λ v w. v < w) (vertices_to n) (n + 1) (vertices_ascend n)
    (λ k d l. let is = vertices_to-within n k d l in omega (arith, is.last))

pub ghosts_ascend : (owner local : ℕ → ℕ) (n r : ℕ) (arcs : List Arc) → AllPairs (λ g h. g.vertex.0 < h.vertex.0) (ghosts_of owner local n r arcs)
ghosts_ascend owner local n r arcs =
    AllPairs-map (ghost_of owner local) (λ g h. g.vertex.0 < h.vertex.0) (filter (leads_abroad r arcs) (vertices_to n))
    (AllPairs-filter (λ v w. v < w) (leads_abroad r arcs) (vertices_to n) (vertices_ascend n))

-- What is so of a ghost of the rank.
pub record IsGhostOf (owner local : ℕ → ℕ) (n r : ℕ) (arcs : List Arc) (g : Ghost) : Type 0 where
  pub vertex : IsVertex n g.vertex.0
  pub home : g.home.0 ≡ owner g.vertex.0
  pub place : g.place ≡ local g.vertex.0
  pub leads : leads_abroad r arcs g.vertex.0 ≡ true

pub ghost_from : (owner local : ℕ → ℕ) (n r : ℕ) (arcs : List Arc) (g : Ghost) → Contains (ghosts_of owner local n r arcs) g → IsGhostOf owner local n r arcs g
ghost_from owner local n r arcs g among =
    let found = Contains-from_map (ghost_of owner local) (filter (leads_abroad r arcs) (vertices_to n)) g among in
    let kept = Contains-filter (leads_abroad r arcs) (vertices_to n) found.0 found.1 in
    subst (IsGhostOf owner local n r arcs) found.2 (record {
      vertex = All-contains (IsVertex n) (vertices_to n) found.0 (vertices_to-within n) kept.0;
      home = refl;
      place = refl;
      leads = kept.1;
    })

-- an arc knows the owner of the vertex that it leads to
homes_known : (s : Sharing) (edges : List Edge) (vertices bounds : List ℕ) (arcs : List Arc)
    → AreRows (λ i. arcs_at s edges (get_or vertices i 0)) (length vertices) bounds arcs → All (λ a. a.home.0 ≡ s.owner a.to.0) arcs
homes_known s edges vertices bounds arcs rows k d l =
    in_first_rows (λ a. a.home.0 ≡ s.owner a.to.0) (λ i. arcs_at s edges (get_or vertices i 0)) (length vertices) bounds arcs rows
    (λ i m. All-map (λ a. a.home.0 ≡ s.owner a.to.0) (arc_at s.owner s.local edges (get_or vertices i 0)) (items_of (incidences 0 edges) (get_or vertices i 0)) (λ j e n. refl))
    (length vertices) k d (omega arith) (omega (arith, rows.last))

-- an arc that leads to a vertex of another rank shows that its owner is another one
pub abroad : (s : Sharing) (edges : List Edge) (vertices bounds : List ℕ) (arcs : List Arc) (r v : ℕ)
    → AreRows (λ i. arcs_at s edges (get_or vertices i 0)) (length vertices) bounds arcs → leads_abroad r arcs v ≡ true → s.owner v ≢ r
abroad s edges vertices bounds arcs r v rows leads same =
    let found = Any-from_list_any (λ (a : Arc). a.to.0 == v && not (a.home.0 == r)) arcs leads in
    let a : Arc = found.1 in
    let says = and_parts (a.to.0 == v) (not (a.home.0 == r)) found.4 in
    let home : a.home.0 ≡ s.owner a.to.0 = subst (λ (b : Arc). b.home.0 ≡ s.owner b.to.0) found.3 (homes_known s edges vertices bounds arcs rows found.0 a found.2) in
    eqb-false a.home.0 r (not-true (a.home.0 == r) says.1) (home ∙ (ap s.owner (eqb-true a.to.0 v says.0) ∙ same))
