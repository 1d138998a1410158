-- The edges of the arcs to lesser vertices, sorted by their lesser ends.
use Rattle.std.proofs.Common.{◌≡◌, ◌≢◌, ℕ, ◌<◌, ◌≤◌, Bool, true, ltb, List, length, get_or, filter, arith, All, AllPairs, Contains}
use Rattle.std.proofs.lemmas.Bool.{ltb-true, lt-ltb}
use Rattle.std.proofs.lemmas.List.{length-map}
use Rattle.std.proofs.lemmas.List.Elements.{All-filter, All-map, All-weaker, Contains-get_or, filter_passes}
use Rattle.std.proofs.lemmas.List.Kept.{AllPairs-filter}
use Rattle.std.proofs.lemmas.List.Sums.{length-filter, count_by-le-length}
use Rattle.pg_base.specs.declared.TheConstants.{MAX_VERTICES}
use Rattle.pg_base.specs.declared.edges.Edge.{Edge}
use Rattle.pg_base.specs.Graph.{Arc, backward}
use Rattle.pg_base.proofs.Members.{Contains-filter, Contains-kept}
use Rattle.pg_metis.specs.Mirrors.{AreLowerEdges, edge_back, back_edges}
use Rattle.pg_metis.specs.Pairing.{AreNamed, IsNamed}
use Rattle.pg_metis.specs.Sorting.{HasLowVertex, IsSortedStably}
use Rattle.pg_metis.proofs.Mapped.{contains_map, pairs_map}
use Rattle.pg_metis.proofs.StableSorts.{sorted_all, sorted_contains, ties_keep}

abbrev is_lesser : Arc → Bool
is_lesser a = ltb a.to a.from

no_arc : Arc
no_arc = record { from = 0; to = 0; weight = 0 }

-- The arcs to lesser vertices.
abbrev lessers : List Arc → List Arc
lessers arcs = filter is_lesser arcs

lessers_among : (arcs : List Arc) → All (λ a. Contains arcs a) (lessers arcs)
lessers_among arcs k d within = (Contains-filter is_lesser arcs (get_or (lessers arcs) k d) (Contains-get_or (lessers arcs) k d within)).0

pub back_low : (arcs : List Arc) → AreNamed MAX_VERTICES arcs → All HasLowVertex (back_edges arcs)
back_low arcs named =
    All-map HasLowVertex edge_back (lessers arcs)
    (All-weaker (IsNamed MAX_VERTICES) (λ a. HasLowVertex (edge_back a)) (λ a is. record { first = is.to_first; last = is.to_last }) (lessers arcs) (All-filter is_lesser (IsNamed MAX_VERTICES) arcs named.within))

pub back_few : (arcs : List Arc) → length (back_edges arcs) ≤ length arcs
back_few arcs = omega (arith, length-map (lessers arcs) edge_back, length-filter is_lesser arcs, count_by-le-length is_lesser arcs)

-- Of edges with one lesser end, the greater ends ascend in the order of the arcs.
back_order : (n : ℕ) (arcs : List Arc) → AreNamed n arcs → AllPairs (λ d e. d.u ≡ e.u → d.v < e.v) (back_edges arcs)
back_order n arcs named =
    pairs_map (λ (d e : Edge). d.u ≡ e.u → d.v < e.v) edge_back (lessers arcs) no_arc
    (AllPairs-filter (λ (a b : Arc). a.to ≡ b.to → a.from < b.from) is_lesser arcs
    (λ i j d below within to. let ascends = named.ascending i j d below within in
    let once = named.once i j d below within in
    let apart : (get_or arcs i d).from ≢ (get_or arcs j d).from = λ from. once from to in omega arith))

pub lower_from_sorted : (n : ℕ) (arcs : List Arc) (edges : List Edge) → AreNamed n arcs → IsSortedStably (λ e. e.u) (back_edges arcs) edges → AreLowerEdges arcs edges
lower_from_sorted n arcs edges named sorted =
    let key : Edge → ℕ = λ e. e.u in
    let ties = ties_keep key (λ (d e : Edge). d.u ≡ e.u → d.v < e.v) (back_edges arcs) edges sorted (back_order n arcs named) in
    record {
      ascending = λ i j d below within. record { first = sorted.ascending i j d below within; second = λ same. ties i j d below within same same };
      rising = sorted_all key (λ (e : Edge). e.u < e.v) (back_edges arcs) edges sorted
          (All-map (λ (e : Edge). e.u < e.v) edge_back (lessers arcs) (All-weaker (λ a. is_lesser a ≡ true) (λ (a : Arc). a.to < a.from) (λ a is. ltb-true a.to a.from is) (lessers arcs) (filter_passes is_lesser arcs)));
      told = sorted_all key (λ (e : Edge). Contains arcs (backward e)) (back_edges arcs) edges sorted (All-map (λ (e : Edge). Contains arcs (backward e)) edge_back (lessers arcs) (lessers_among arcs));
      each = λ k d within lesser. let a : Arc = get_or arcs k d in
          sorted_contains key (back_edges arcs) edges sorted (edge_back a)
          (contains_map edge_back (lessers arcs) a (Contains-kept is_lesser arcs a (Contains-get_or arcs k d within) (lt-ltb a.to a.from lesser)));
    }
