-- The edges of the arcs to greater vertices, all of which were met, are those of the arcs.
use Rattle.std.proofs.Common.{◌≡◌, ◌≢◌, ℕ, suc, ◌+◌, ◌*◌, ◌<◌, ◌≤◌, ◌++◌, ◌∙◌, ◌⊎◌, Bool, true, false, cond, List, [], ◌∷◌, ltb, length, get_or, take, filter, inl, inr, ⊎_elim, refl, sym, ap, subst, arith, All, AllPairs, Contains}
use Rattle.std.proofs.lemmas.Bool.{cases_eq, cases_lt, ltb-true, lt-ltb}
use Rattle.std.proofs.lemmas.List.{length-map, take_at}
use Rattle.std.proofs.lemmas.List.Elements.{All-cons, All-contains, Contains-get_or}
use Rattle.pg_base.specs.declared.edges.Edge.{Edge}
use Rattle.pg_base.specs.Graph.{Arc, Precedes, backward}
use Rattle.pg_base.proofs.Members.{AllPairs-cons, Contains-filter, Contains-kept}
use Rattle.pg_metis.specs.Ascending.{AreBackOrBlank}
use Rattle.pg_metis.specs.Mirrors.{AreLowerEdges, back_edges, edge_back, edge_forth, forth_edges, turned}
use Rattle.pg_metis.specs.declared.pairing.NamedArc.{NamedArc}
use Rattle.pg_metis.specs.Pairing.{AreEdgesOf, AreNamed, IsNamed, arcs_named}
use Rattle.pg_metis.proofs.Mapped.{contains_map, contains_mapped}
use Rattle.pg_metis.proofs.Matching.{same_edge}
use Rattle.pg_metis.proofs.NamedArcs.{length-named}
use Rattle.pg_metis.proofs.PairedEdges.{are_edges_of, no_more}
use Rattle.pg_metis.proofs.Settled.{some_or_none}

same_or_other : (d e : Edge) → (d ≡ e) ⊎ (d ≡ e → ⊥)
same_or_other d e =
    elim (cases_eq d.u e.u) [
      | inr other ↦ inr (λ same. other (ap (λ (x : Edge). x.u) same))
      | inl u ↦ elim (cases_eq d.v e.v) [
        | inr other ↦ inr (λ same. other (ap (λ (x : Edge). x.v) same))
        | inl v ↦ elim (cases_eq d.w e.w) [
          | inr other ↦ inr (λ same. other (ap (λ (x : Edge). x.w) same))
          | inl w ↦ inl (same_edge d e u v w)
        ]
      ]
    ]

-- Edges that are all different, all in another list, and as many as that has, are all that it has.
cover : (xs ys : List Edge) → AllPairs (λ d e. d ≢ e) xs → All (Contains ys) xs → length ys ≤ length xs → (y : Edge) → Contains ys y → Contains xs y
cover xs ys once among size y there =
    ⊎_elim
    (λ found. subst (Contains xs) found.2 found.1)
    (λ none. let more = no_more (y ∷ xs) ys (AllPairs-cons (λ d e. d ≢ e) y xs (λ k d within same. none k d within (sym same)) once) (All-cons (Contains ys) y xs there among) in absurd (omega (arith, more)))
    (some_or_none (λ (x : Edge). x ≡ y) (λ x. same_or_other x y) xs)

-- No arc goes both to a lesser vertex and to a greater one.
halves_step : (xs ys : List Arc) (a : Arc) (n : ℕ) (b c : Bool) → (b ≡ true → c ≡ true → ⊥) → length xs + length ys ≤ n → length (cond b (a ∷ xs) xs) + length (cond c (a ∷ ys) ys) ≤ suc n
halves_step xs ys a n true true apart few = absurd (apart refl refl)
halves_step xs ys a n true false apart few = omega arith
halves_step xs ys a n false true apart few = omega arith
halves_step xs ys a n false false apart few = omega arith

halves : (arcs : List Arc) → length (filter (λ a. ltb a.to a.from) arcs) + length (filter (λ a. ltb a.from a.to) arcs) ≤ length arcs
halves [] = omega arith
halves (a ∷ arcs) =
    halves_step (filter (λ a. ltb a.to a.from) arcs) (filter (λ a. ltb a.from a.to) arcs) a (length arcs) (ltb a.to a.from) (ltb a.from a.to)
    (λ lesser greater. let less = ltb-true a.to a.from lesser in let more = ltb-true a.from a.to greater in omega arith) (halves arcs)

-- What is known of the edges, and of what was met in their order.
pub record IsMetWhole (arcs : List Arc) (edges back : List Edge) : Type 0 where
  pub forth : edges ≡ forth_edges arcs
  pub ascending : AllPairs Precedes edges
  pub told : AreBackOrBlank arcs back
  pub among : All (Contains edges) back
  pub once : AllPairs (λ d e. d ≢ e) back
  pub size : length edges ≤ length back
  pub half : length arcs ≤ 2 * length edges

module _ (n : ℕ) (arcs : List Arc) (edges back : List Edge) (named : AreNamed n arcs) (met : IsMetWhole arcs edges back) where
  -- Each edge is that of an arc to a greater vertex.
  arc_forth : (e : Edge) → Contains edges e → (a : Arc) × Contains arcs a × (a.from < a.to) × (edge_forth a ≡ e)
  arc_forth e among =
      let found = contains_mapped edge_forth (filter (λ a. ltb a.from a.to) arcs) (backward e) e (subst (λ (es : List Edge). Contains es e) met.forth among) in
      let kept = Contains-filter (λ a. ltb a.from a.to) arcs found.0 found.1 in
      (found.0, kept.0, ltb-true found.0.from found.0.to kept.1, found.2)

  forth_in : (a : Arc) → Contains arcs a → a.from < a.to → Contains edges (edge_forth a)
  forth_in a among greater =
      subst (λ (es : List Edge). Contains es (edge_forth a)) (sym met.forth)
      (contains_map edge_forth (filter (λ a. ltb a.from a.to) arcs) a (Contains-kept (λ a. ltb a.from a.to) arcs a among (lt-ltb a.from a.to greater)))

  first_end : (e : Edge) → Contains edges e → 1 ≤ e.u
  first_end e among =
      let found = arc_forth e among in
      let is = All-contains (IsNamed n) arcs found.0 named.within found.1 in
      subst (λ (x : Edge). 1 ≤ x.u) found.3 is.from_first

  rises : (e : Edge) → Contains edges e → e.u < e.v
  rises e among = let found = arc_forth e among in subst (λ (x : Edge). x.u < x.v) found.3 found.2

  told_back : (e : Edge) → Contains edges e → Contains arcs (backward e)
  told_back e among =
      let there = cover back edges met.once met.among met.size e among in
      ⊎_elim
      (λ blank. let first = first_end e among in absurd (omega arith))
      (λ told. told)
      (All-contains (λ (x : Edge). (x.u ≡ 0) ⊎ Contains arcs (backward x)) back e met.told there)

  among_back : All (Contains (back_edges arcs)) edges
  among_back k d within =
      let e : Edge = get_or edges k d in
      let there = Contains-get_or edges k d within in
      contains_map edge_back (filter (λ a. ltb a.to a.from) arcs) (backward e) (Contains-kept (λ a. ltb a.to a.from) arcs (backward e) (told_back e there) (lt-ltb e.u e.v (rises e there)))

  edges_once : AllPairs (λ d e. d ≢ e) edges
  edges_once i j d below within same =
      let order = met.ascending i j d below within in
      let self : Precedes (get_or edges j d) (get_or edges j d) = subst (λ (x : Edge). Precedes x (get_or edges j d)) same order in
      let less = self.second refl in omega arith

  back_in : (a : Arc) → Contains arcs a → a.to < a.from → Contains edges (edge_back a)
  back_in a among lesser =
      let size = ap length met.forth in
      let lower : List Arc = filter (λ a. ltb a.to a.from) arcs in
      let upper : List Arc = filter (λ a. ltb a.from a.to) arcs in
      cover edges (back_edges arcs) edges_once among_back (omega (arith, size, met.half, halves arcs, length-map lower edge_back, length-map upper edge_forth)) (edge_back a)
      (contains_map edge_back lower a (Contains-kept (λ a. ltb a.to a.from) arcs a among (lt-ltb a.to a.from lesser)))

  lower_edges : AreLowerEdges arcs edges
  lower_edges = record {
    ascending = met.ascending;
    rising = λ k d within. rises (get_or edges k d) (Contains-get_or edges k d within);
    told = λ k d within. told_back (get_or edges k d) (Contains-get_or edges k d within);
    each = λ k d within. back_in (get_or arcs k d) (Contains-get_or arcs k d within);
  }

  mirrored : (a : Arc) → Contains arcs a → Contains arcs (turned a)
  mirrored a among =
      let is = All-contains (IsNamed n) arcs a named.within among in
      let other = is.other in
      elim (cases_lt a.from a.to) [
        | inl greater ↦ told_back (edge_forth a) (forth_in a among greater)
        | inr least ↦ (let found = arc_forth (edge_back a) (back_in a among (omega arith)) in
            subst (λ (e : Edge). Contains arcs (record { from = e.u; to = e.v; weight = e.w })) found.3 found.1)
      ]

  pub edges_met : AreEdgesOf n arcs edges
  edges_met = are_edges_of n arcs edges named lower_edges (λ k d within. mirrored (get_or arcs k d) (Contains-get_or arcs k d within))

-- The same where the lists were lent: `seen` is what the last test was given of `back`, and `whole` what it was given of the edges.
pub edges_lent : (n : ℕ) (xs : List NamedArc) (edges back seen whole rest : List Edge) (size : ℕ) → AreNamed n (arcs_named xs) → edges ≡ forth_edges (arcs_named xs) → AllPairs Precedes edges → AreBackOrBlank (arcs_named xs) back
    → seen ≡ take size (back ++ rest) → length back ≡ size → whole ≡ edges → All (Contains whole) seen → AllPairs (λ d e. d ≢ e) seen → length edges ≤ size → length xs ≤ 2 * length edges → AreEdgesOf n (arcs_named xs) edges
edges_lent n xs edges back seen whole rest size named forth ascending told lent long is among once few half =
    let same : seen ≡ back = lent ∙ take_at back rest size long in
    edges_met n (arcs_named xs) edges back named (record {
      forth = forth;
      ascending = ascending;
      told = told;
      among = subst (λ (es : List Edge). All (Contains es) back) is (subst (λ (es : List Edge). All (Contains whole) es) same among);
      once = subst (λ (es : List Edge). AllPairs (λ d e. d ≢ e) es) same once;
      size = omega (arith, few, long);
      half = omega (arith, half, length-named xs);
    })
