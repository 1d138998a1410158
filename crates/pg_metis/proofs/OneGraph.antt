-- The lines of a file determine its graph: they name each arc, the arcs tell the edges, and the edges ascend.
use Rattle.std.proofs.Common.{◌≡◌, ℕ, zero, suc, ◌+◌, ◌-◌, ◌<◌, ◌≤◌, ◌⊎◌, inl, inr, Option, Some, None, List, [], ◌∷◌, length, refl, sym, ◌∙◌, ap, subst, arith, AllPairs, Contains, IsPermutation}
use Rattle.std.specs.Prelude.{slice_index_or}
use Rattle.std.proofs.lemmas.List.Elements.{All-contains}
use Rattle.std.proofs.lemmas.List.Sorted.{IsPermutation-sym, Contains-permutation}
use Rattle.pg_base.specs.declared.edges.Edge.{Edge}
use Rattle.pg_base.specs.Graph.{Graph, IsGraph, IsEdge, Precedes, Arc, forward, arcs_of, arcs_from}
use Rattle.pg_base.proofs.Members.{contains_first, contains_later, contains_cases}
use Rattle.pg_base.proofs.ArcLemmas.{IsDirectionOf, edge_of_arc, arcs_of_edge, arcs_from_leave, arc_is_within}
use Rattle.pg_text.specs.Text.{words}
use Rattle.pg_metis.specs.File.{FileOf, Format, Header, IsLineOf, header_of, line_arcs}
use Rattle.pg_metis.specs.FileLaws.{FilesAreOfOneGraph}

not_both : (d e : Edge) → Precedes d e → Precedes e d → ⊥
not_both d e there back =
    let a = there.first in
    let b = back.first in
    let same : d.u ≡ e.u = omega arith in
    let c = there.second same in
    let f = back.second (sym same) in
    omega arith

-- The first of a list in order precedes each later edge.
first_precedes : (x : Edge) (xs : List Edge) → AllPairs Precedes (x ∷ xs) → (e : Edge) → Contains xs e → Precedes x e
first_precedes x xs order e c =
    subst (λ (d : Edge). Precedes x d) c.2 (order zero (suc c.0) e (omega arith) (let b = c.1 in omega arith))

rest_ascends : (x : Edge) (xs : List Edge) → AllPairs Precedes (x ∷ xs) → AllPairs Precedes xs
rest_ascends x xs order i j d below within = order (suc i) (suc j) d (omega arith) (omega arith)

same_first : (x y : Edge) (xs ys : List Edge) → AllPairs Precedes (x ∷ xs) → AllPairs Precedes (y ∷ ys) → (y ≡ x) ⊎ Contains ys x → (x ≡ y) ⊎ Contains xs y → x ≡ y
same_first x y xs ys p q (inl same) second = sym same
same_first x y xs ys p q (inr later) (inl same) = same
same_first x y xs ys p q (inr later) (inr back) =
    absurd (not_both y x (first_precedes y ys q x later) (first_precedes x xs p y back))

-- What is later in one list is later in the other, where the lists begin alike.
later_too : (x y : Edge) (xs ys : List Edge) → AllPairs Precedes (x ∷ xs) → x ≡ y → (e : Edge) → Contains xs e → (y ≡ e) ⊎ Contains ys e → Contains ys e
later_too x y xs ys p same e c (inr later) = later
later_too x y xs ys p same e c (inl first) =
    let precedes = subst (λ (d : Edge). Precedes d e) (same ∙ first) (first_precedes x xs p e c) in
    absurd (not_both e e precedes precedes)

-- Lists in order with the same edges are the same list.
same_ascending : (xs ys : List Edge) → AllPairs Precedes xs → AllPairs Precedes ys → ((e : Edge) → Contains xs e → Contains ys e) → ((e : Edge) → Contains ys e → Contains xs e) → xs ≡ ys
same_ascending [] [] p q there back = refl
same_ascending [] (y ∷ ys) p q there back = let c = back y (contains_first y ys) in absurd (omega arith)
same_ascending (x ∷ xs) [] p q there back = let c = there x (contains_first x xs) in absurd (omega arith)
same_ascending (x ∷ xs) (y ∷ ys) p q there back =
    let first : x ≡ y = same_first x y xs ys p q (contains_cases y ys x (there x (contains_first x xs))) (contains_cases x xs y (back y (contains_first y ys))) in
    let rest : xs ≡ ys =
    same_ascending xs ys (rest_ascends x xs p) (rest_ascends y ys q)
    (λ e c. later_too x y xs ys p first e c (contains_cases y ys e (there e (contains_later x xs e c))))
    (λ e c. later_too y x ys xs q (sym first) e c (contains_cases x xs e (back e (contains_later y ys e c)))) in
    cc

abbrev edge_along : Arc → Edge
edge_along a = record { u = a.from; v = a.to; w = a.weight }

along : (g : Graph) → IsGraph g → (h : Graph) → IsGraph h → (d e : Edge) → Contains g.edges d → Contains h.edges e → IsDirectionOf (forward d) e → e ≡ d
along g is_g h is_h d e among_g among_h (inl same) = sym (ap edge_along same)
along g is_g h is_h d e among_g among_h (inr same) =
    let first : d.u ≡ e.v = ap (λ (a : Arc). a.from) same in
    let second : d.v ≡ e.u = ap (λ (a : Arc). a.to) same in
    let rises_d = (All-contains (IsEdge g.n) g.edges d is_g.within among_g).ascends in
    let rises_e = (All-contains (IsEdge h.n) h.edges e is_h.within among_h).ascends in
    absurd (omega arith)

-- Each arc of g is one of h.
abbrev HasArcsOf : Graph → Graph → Type 0
HasArcsOf h g = (a : Arc) → Contains (arcs_of g.edges) a → Contains (arcs_of h.edges) a

edge_too : (g : Graph) → IsGraph g → (h : Graph) → IsGraph h → HasArcsOf h g → (e : Edge) → Contains g.edges e → Contains h.edges e
edge_too g is_g h is_h has e among =
    let found = edge_of_arc h.edges (forward e) (has (forward e) (arcs_of_edge g.edges e among).0) in
    subst (Contains h.edges) (along g is_g h is_h e found.0 among found.1 found.2) found.1

same_graph : (g h : Graph) → g.n ≡ h.n → g.edges ≡ h.edges → g ≡ h
same_graph g h n edges =
    ap (λ (x : ℕ). let k : Graph = record { n = x; edges = g.edges } in k) n ∙
    ap (λ (x : List Edge). let k : Graph = record { n = h.n; edges = x } in k) edges

carries : (xs ys zs : List Arc) (a : Arc) → IsPermutation xs ys → IsPermutation xs zs → Contains ys a → Contains zs a
carries xs ys zs a p q among =
    Contains-permutation xs zs a q (Contains-permutation ys xs a (IsPermutation-sym xs ys p) among)

-- The arcs of the list `given v` are those of the graph from v, for each vertex v.
abbrev pub AreArcsFrom : ℕ → (ℕ → List Arc) → Graph → Type 0
AreArcsFrom n given g = (i : ℕ) → i < n → IsPermutation (given (i + 1)) (arcs_from (arcs_of g.edges) (i + 1))

at_vertex : (n : ℕ) (given : ℕ → List Arc) (g : Graph) → AreArcsFrom n given g → (v : ℕ) → 1 ≤ v → v ≤ n → IsPermutation (given v) (arcs_from (arcs_of g.edges) v)
at_vertex n given g each v first last =
    let same : (v - 1) + 1 ≡ v = omega arith in
    subst (λ (x : ℕ). IsPermutation (given x) (arcs_from (arcs_of g.edges) x)) same (each (v - 1) (omega arith))

has_arcs : (n : ℕ) (given : ℕ → List Arc) (g h : Graph) → IsGraph g → g.n ≡ n → AreArcsFrom n given g → AreArcsFrom n given h → HasArcsOf h g
has_arcs n given g h is_g count p q a among =
    let within = arc_is_within g is_g a among in
    let first = within.0 in
    let last = within.1 in
    let from_g = at_vertex n given g p a.from first (omega arith) in
    let from_h = at_vertex n given h q a.from first (omega arith) in
    let here = (arcs_from_leave (arcs_of g.edges) a.from a).1 (among, refl) in
    ((arcs_from_leave (arcs_of h.edges) a.from a).0 (carries (given a.from) (arcs_from (arcs_of g.edges) a.from) (arcs_from (arcs_of h.edges) a.from) a from_g from_h here)).0

-- The arcs from each vertex, in any order, determine a graph.
pub one_graph : (n : ℕ) (given : ℕ → List Arc) (g h : Graph) → IsGraph g → IsGraph h → g.n ≡ n → h.n ≡ n → AreArcsFrom n given g → AreArcsFrom n given h → g ≡ h
one_graph n given g h is_g is_h count_g count_h p q =
    same_graph g h (count_g ∙ sym count_h)
    (same_ascending g.edges h.edges is_g.ascending is_h.ascending
    (edge_too g is_g h is_h (has_arcs n given g h is_g count_g p q))
    (edge_too h is_h g is_g (has_arcs n given h g is_h count_h q p)))

abbrev or_none : Option (List Arc) → List Arc
or_none None = []
or_none (Some arcs) = arcs

-- The arcs that the line of vertex v names.
abbrev arcs_at : Format → List (List ℕ) → ℕ → List Arc
arcs_at format rest v = or_none (line_arcs format v (slice_index_or rest (v - 1) []))

line_order : (format : Format) (g : Graph) (v : ℕ) (line : List ℕ) → IsLineOf format g v line → IsPermutation (or_none (line_arcs format v line)) (arcs_from (arcs_of g.edges) v)
line_order format g v line is =
    subst (λ (o : Option (List Arc)). IsPermutation (or_none o) (arcs_from (arcs_of g.edges) v)) (sym is.named) is.order

file_arcs : (text : List ℕ) (g : Graph) (p : FileOf text g) → AreArcsFrom g.n (arcs_at p.format p.rest) g
file_arcs text g p i below =
    let same : (i + 1) - 1 ≡ i = omega arith in
    subst (λ (k : ℕ). IsPermutation (or_none (line_arcs p.format (i + 1) (slice_index_or p.rest k []))) (arcs_from (arcs_of g.edges) (i + 1))) (sym same)
    (line_order p.format g (i + 1) (slice_index_or p.rest i []) (p.each i below))

pub files_are_of_one_graph : FilesAreOfOneGraph
files_are_of_one_graph text g h p q =
    let split : p.header ∷ p.rest ≡ q.header ∷ q.rest = sym p.content ∙ q.content in
    let header : p.header ≡ q.header = cc in
    let rest : q.rest ≡ p.rest = cc in
    let counts : Some (let k : Header = record { n = g.n; m = length g.edges; format = p.format } in k) ≡ Some (let k : Header = record { n = h.n; m = length h.edges; format = q.format } in k) = sym p.counts ∙ (ap (λ (line : List ℕ). header_of (words line)) header ∙ q.counts) in
    let same : (let k : Header = record { n = g.n; m = length g.edges; format = p.format } in k) ≡ (let k : Header = record { n = h.n; m = length h.edges; format = q.format } in k) = cc in
    let n : h.n ≡ g.n = sym (ap (λ (k : Header). k.n) same) in
    let format : q.format ≡ p.format = sym (ap (λ (k : Header). k.format) same) in
    let arcs = subst (λ (count : ℕ). AreArcsFrom count (arcs_at q.format q.rest) h) n (file_arcs text h q) in
    let arcs_format = subst (λ (f : Format). AreArcsFrom g.n (arcs_at f q.rest) h) format arcs in
    one_graph g.n (arcs_at p.format p.rest) g h p.graph q.graph refl n (file_arcs text g p)
    (subst (λ (ls : List (List ℕ)). AreArcsFrom g.n (arcs_at p.format ls) h) rest arcs_format)
