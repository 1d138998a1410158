-- An algorithm, a graph and a source have one text, the colours on one rank.
use Rattle.std.proofs.Common.{◌≡◌, ℕ, zero, suc, ◌+◌, ◌-◌, ◌<◌, ◌≤◌, inl, inr, Option, Some, None, List, [], ◌∷◌, length, map, get_or, refl, sym, ◌∙◌, ap, subst, arith}
use Rattle.std.proofs.lemmas.Bool.{cases_lt}
use Rattle.pg_base.specs.Graph.{Graph, arcs_of}
use Rattle.pg_base.specs.declared.edges.Edge.{Edge}
use Rattle.pg_base.specs.Walk.{weight_of}
use Rattle.pg_base.specs.Colouring.{IsFirstFit, colour_in}
use Rattle.pg_base.proofs.WalkLemmas.{least_is_one, lowest_is_one}
use Rattle.pg_forest.proofs.WholeForests.{forest_is_one}
use Rattle.pg_print.specs.Columns.{column_text}
use Rattle.pg_print.specs.Forests.{forest_text}
use Rattle.pg_print.specs.Summaries.{summary_text}
use Rattle.pg_words.specs.declared.plans.Algorithm.{Algorithm}
use Rattle.pg_words.specs.declared.plans.Algorithm.TheVariants.{Bfs, Sssp, Components, Forest, Colour, Grid}
use Rattle.pg_top.specs.Text.{AreAnswersOf, AreColours, IsColumnText, IsRootOf}
use Rattle.pg_top.specs.Summary.{summary_of}
use Rattle.pg_top.specs.TextLaws.{TextIsOne}

same_lists : {X : Type 0} (d : X) (xs ys : List X) → length xs ≡ length ys → ((i : ℕ) → i < length xs → get_or xs i d ≡ get_or ys i d) → xs ≡ ys
same_lists d [] [] count each = refl
same_lists d [] (y ∷ ys) count each = absurd (omega arith)
same_lists d (x ∷ xs) [] count each = absurd (omega arith)
same_lists d (x ∷ xs) (y ∷ ys) count each =
    let first : x ≡ y = each 0 (omega arith) in
    let rest : xs ≡ ys = same_lists d xs ys (omega arith) (λ i below. each (suc i) (omega arith)) in
    cc

same_roots : (g : Graph) (v : ℕ) (x y : Option ℕ) → IsRootOf g v x → IsRootOf g v y → x ≡ y
same_roots g v None y p q = absurd p
same_roots g v (Some a) None p q = absurd q
same_roots g v (Some a) (Some b) p q = ap Some (lowest_is_one (arcs_of g.edges) v a b p q)

same_answers : (algorithm : Algorithm) (source : ℕ) (g : Graph) (xs ys : List (Option ℕ)) → AreAnswersOf algorithm source g xs → AreAnswersOf algorithm source g ys → xs ≡ ys
same_answers Bfs source g xs ys p q =
    let a = p.count in
    let b = q.count in
    same_lists None xs ys (omega arith)
    (λ i below. least_is_one length (arcs_of g.edges) source (i + 1) (get_or xs i None) (get_or ys i None) (p.each i (omega arith)) (q.each i (omega arith)))
same_answers Sssp source g xs ys p q =
    let a = p.count in
    let b = q.count in
    same_lists None xs ys (omega arith)
    (λ i below. least_is_one weight_of (arcs_of g.edges) source (i + 1) (get_or xs i None) (get_or ys i None) (p.each i (omega arith)) (q.each i (omega arith)))
same_answers Components source g xs ys p q =
    let a = p.count in
    let b = q.count in
    same_lists None xs ys (omega arith) (λ i below. same_roots g (i + 1) (get_or xs i None) (get_or ys i None) (p.each i (omega arith)) (q.each i (omega arith)))
same_answers Forest source g xs ys p q = absurd p
same_answers Colour source g xs ys p q = absurd p
same_answers Grid source g xs ys p q = absurd p

-- Two colourings have one colour at a lesser vertex u of v, where they have one at each from 1 on; vertex 0 stands for 1.
agree : (c d : ℕ → ℕ) → c 0 ≡ c 1 → d 0 ≡ d 1 → (v : ℕ) → ((u : ℕ) → 1 ≤ u → u < v → c u ≡ d u) → (u : ℕ) → u < v → (d u ≡ d v → ⊥) → c u ≡ d u
agree c d first second v same (suc u) below apart = same (suc u) (omega arith) below
agree c d first second zero same zero below apart = absurd (omega arith)
agree c d first second (suc zero) same zero below apart = absurd (apart second)
agree c d first second (suc (suc v)) same zero below apart = first ∙ (same 1 (omega arith) (omega arith) ∙ sym second)

module _ (g : Graph) where
  -- First fit gives a vertex no lesser colour than another first fit that agrees on the lesser vertices.
  no_lesser : (c d : ℕ → ℕ) → c 0 ≡ c 1 → d 0 ≡ d 1 → IsFirstFit g c → IsFirstFit g d → (v : ℕ) → 1 ≤ v → v ≤ g.n → ((u : ℕ) → 1 ≤ u → u < v → c u ≡ d u) → c v < d v → ⊥
  no_lesser c d first second p q v low high same less =
      let found = q.least v (c v) low high less in
      p.free found.0 v found.2 found.1 (agree c d first second v same found.0 found.1 (λ is. omega (arith, is, found.3, less)) ∙ found.3)

  same_first_fit : (c d : ℕ → ℕ) → c 0 ≡ c 1 → d 0 ≡ d 1 → IsFirstFit g c → IsFirstFit g d → (limit v : ℕ) → v < limit → 1 ≤ v → v ≤ g.n → c v ≡ d v
  same_first_fit c d first second p q zero v below low high = absurd (omega arith)
  same_first_fit c d first second p q (suc limit) v below low high =
      let same : (u : ℕ) → 1 ≤ u → u < v → c u ≡ d u = λ u from less. same_first_fit c d first second p q limit u (omega arith) from (omega arith) in
      elim (cases_lt (c v) (d v)) [
        | inl less ↦ absurd (no_lesser c d first second p q v low high same less)
        | inr least ↦ elim (cases_lt (d v) (c v)) [
          | inl less ↦ absurd (no_lesser d c second first q p v low high (λ u from less. sym (same u from less)) less)
          | inr most ↦ omega arith
        ]
      ]

same_colours : (g : Graph) (xs ys : List ℕ) → AreColours 1 g xs → AreColours 1 g ys → xs ≡ ys
same_colours g xs ys p q =
    let long = p.proper.count in
    let other = q.proper.count in
    let c = p.first_fit refl in
    let d = q.first_fit refl in
    same_lists 0 xs ys (omega arith)
    (λ i below.
    let place : (i + 1) - 1 ≡ i = omega arith in
    subst (λ (k : ℕ). get_or xs k 0 ≡ get_or ys k 0) place (same_first_fit g (colour_in xs) (colour_in ys) refl refl c d (i + 2) (i + 1) (omega arith) (omega arith) (omega arith)))

-- Columns of one text.
one_column : (algorithm : Algorithm) (source : ℕ) (g : Graph) (a b : List ℕ) → IsColumnText algorithm source g a → IsColumnText algorithm source g b → a ≡ b
one_column algorithm source g a b p q =
    p.spelled ∙ (ap column_text (same_answers algorithm source g p.answers q.answers p.right q.right) ∙ sym q.spelled)

same_summaries : (g : Graph) (h i v w r s : List (Option ℕ)) (t u : List Edge) → h ≡ i → v ≡ w → r ≡ s → t ≡ u → summary_of g h v r t 0 ≡ summary_of g i w s u 0
same_summaries g h i v w r s t u hops weights roots tree = cc

pub text_is_one : TextIsOne
text_is_one Bfs m n source g a b alone p q = one_column Bfs source g a b p q
text_is_one Sssp m n source g a b alone p q = one_column Sssp source g a b p q
text_is_one Components m n source g a b alone p q = one_column Components source g a b p q
text_is_one Grid m n source g a b alone p q =
    let hops = same_answers Bfs 1 g p.hops q.hops p.least_arcs q.least_arcs in
    let weights = same_answers Sssp 1 g p.weights q.weights p.least_weights q.least_weights in
    let roots = same_answers Components 1 g p.roots q.roots p.lowest q.lowest in
    let tree = forest_is_one g.edges p.tree q.tree p.forest.forest q.forest.forest in
    p.spelled ∙ (ap summary_text (same_summaries g p.hops q.hops p.weights q.weights p.roots q.roots p.tree q.tree hops weights roots tree) ∙ sym q.spelled)
text_is_one Forest m n source g a b alone p q =
    p.spelled ∙ (ap forest_text (forest_is_one g.edges p.tree q.tree p.right.forest q.right.forest) ∙ sym q.spelled)
text_is_one Colour m n source g a b alone p q =
    let one = alone refl in
    let left : AreColours 1 g p.colours = subst (λ k. AreColours k g p.colours) one.0 p.right in
    let right : AreColours 1 g q.colours = subst (λ k. AreColours k g q.colours) one.1 q.right in
    p.spelled ∙ (ap (λ (colours : List ℕ). column_text (map Some colours)) (same_colours g p.colours q.colours left right) ∙ sym q.spelled)
