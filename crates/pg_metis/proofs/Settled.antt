-- How far the walk over the vertices has come: where the lines before that of u were looked at, a vertex is owed exactly
-- where an edge from a vertex before u has no arc.
use Rattle.std.proofs.Common.{◌≡◌, ◌≢◌, ◌==◌, ℕ, zero, suc, ◌+◌, ◌-◌, ◌<◌, ◌≤◌, ◌∙◌, ◌⊎◌, true, false, not, Some, None, List, [], ◌∷◌, length, get_or, filter, ltb, replicate, inl, inr, ⊎_elim, refl, sym, ap, subst, arith, All, AllPairs, Any, Contains}
use Rattle.std.specs.List.{between}
use Rattle.std.proofs.lemmas.Bool.{cases_eq, cases_lt, or_cases, or_left, or_right, lt-ltb, ne_eqb, false≢true}
use Rattle.std.proofs.lemmas.List.{get_or-replicate, length-replicate}
use Rattle.std.proofs.lemmas.List.Elements.{All-contains, Contains-get_or}
use Rattle.pg_base.specs.declared.edges.Edge.{Edge}
use Rattle.pg_base.specs.Graph.{Arc, IsEdge, forward, backward}
use Rattle.pg_base.proofs.Members.{Contains-filter, Contains-kept, contains_first, contains_later}
use Rattle.pg_metis.proofs.Mapped.{contains_map, contains_mapped}
use Rattle.pg_metis.specs.declared.pairing.Mark.{Mark}
use Rattle.pg_metis.specs.Lines.{IsInOrder, IsLeft, IsPaired, IsRun, IsSettled}
use Rattle.pg_metis.specs.Marks.{IsMarkOf, LeaveMarks, MeetsNone, is_owed, mark_at, marked_by, met}
use Rattle.pg_metis.specs.Mirrors.{AreLowerEdges, edge_back, edge_forth, first_vertex, turned}
use Rattle.pg_metis.specs.Pairing.{AreNamed, IsNamed}
use Rattle.pg_metis.proofs.MirrorLemmas.{first_vertex_is, no_vertex, same_arc}
use Rattle.pg_metis.proofs.Runs.{start_none, start_more, run_contains, from_run}

module _ {X : Type 0} (P : X → Type 0) where
  none_first : (x : X) (xs : List X) → (P x → ⊥) → All (λ y. P y → ⊥) xs → All (λ y. P y → ⊥) (x ∷ xs)
  none_first x xs here rest zero d below = here
  none_first x xs here rest (suc i) d below = rest i d (omega arith)

  first_or_later : (x : X) (xs : List X) → P x ⊎ (P x → ⊥) → ((y : X) × Contains xs y × P y) ⊎ All (λ y. P y → ⊥) xs → ((y : X) × Contains (x ∷ xs) y × P y) ⊎ All (λ y. P y → ⊥) (x ∷ xs)
  first_or_later x xs (inl here) rest = inl (x, contains_first x xs, here)
  first_or_later x xs (inr here) (inl later) = inl (later.0, contains_later x xs later.0 later.1, later.2)
  first_or_later x xs (inr here) (inr none) = inr (none_first x xs here none)

  -- One of the elements has the property, or none has it.
  pub some_or_none : ((x : X) → P x ⊎ (P x → ⊥)) → (xs : List X) → ((x : X) × Contains xs x × P x) ⊎ All (λ x. P x → ⊥) xs
  some_or_none decide [] = inr (λ i d below. absurd (omega arith))
  some_or_none decide (x ∷ xs) = first_or_later x xs (decide x) (some_or_none decide xs)

-- Whether a mark is owed.
owed_missed : (m : Mark) → m.missed ≡ true → is_owed m ≡ true
owed_missed m is = or_left m.missed (not (m.vertex == 0)) is

owed_vertex : (m : Mark) → m.vertex ≢ 0 → is_owed m ≡ true
owed_vertex m is = or_right m.missed (not (m.vertex == 0)) (ap not (ne_eqb m.vertex 0 is))

owed_met : (m : Mark) → is_owed (met m) ≡ true → m.missed ≡ true
owed_met m is = ⊎_elim (λ missed. missed) (λ none. absurd (false≢true none)) (or_cases m.missed false is)

abbrev no_mark : Mark
no_mark = record { vertex = 0; weight = 0; missed = false }

clear_marks : (n : ℕ) (marks : List Mark) → marks ≡ replicate n no_mark → (v : ℕ) (d : Mark) → 1 ≤ v → v ≤ length marks → mark_at marks v d ≡ no_mark
clear_marks n marks is v d first last =
    let size = ap length is in
    ap (λ (ms : List Mark). mark_at ms v d) is ∙ get_or-replicate n (v - 1) no_mark d (omega (arith, length-replicate n no_mark))

settled_clear : (n : ℕ) (arcs : List Arc) (edges : List Edge) (marks : List Mark) → AreNamed n arcs → AreLowerEdges arcs edges → ((v : ℕ) (d : Mark) → 1 ≤ v → v ≤ length marks → mark_at marks v d ≡ record { vertex = 0; weight = 0; missed = false })
    → IsSettled 1 arcs edges 0 0 marks
settled_clear n arcs edges marks named lower clear = record {
  edges_start = start_none (λ (e : Edge). e.u) edges 1 (λ i d below. let among = lower.told i d below in let is = All-contains (IsNamed n) arcs (backward (get_or edges i d)) named.within among in is.to_first);
  arcs_start = start_none (λ (a : Arc). a.from) arcs 1 (λ i d below. (named.within i d below).from_first);
  earlier = λ v d first last. let same : (mark_at marks v d).vertex ≡ 0 = ap (λ (m : Mark). m.vertex) (clear v d first last) in omega arith;
  owed = λ v d first last is. absurd (false≢true (sym (ap is_owed (clear v d first last)) ∙ is));
  each = λ e among less. let is = All-contains (IsNamed n) arcs (backward e) named.within (All-contains (λ (x : Edge). Contains arcs (backward x)) edges e lower.told among) in let first = is.to_first in absurd (omega arith);
  mirrored = λ a among less. let is = All-contains (IsNamed n) arcs a named.within among in let first = is.from_first in absurd (omega arith);
}

-- What holds before the first line.
pub settled_none : (n : ℕ) (arcs : List Arc) (edges : List Edge) (marks : List Mark) → AreNamed n arcs → AreLowerEdges arcs edges → marks ≡ replicate n (record { vertex = 0; weight = 0; missed = false }) → IsSettled 1 arcs edges 0 0 marks
settled_none n arcs edges marks named lower is = settled_clear n arcs edges marks named lower (clear_marks n marks is)

pub settled_all : (n u : ℕ) (arcs : List Arc) (edges : List Edge) (looked marked : ℕ) (marks : List Mark) → AreNamed n arcs → n < u → IsSettled u arcs edges looked marked marks → first_vertex arcs ≡ None
settled_all n u arcs edges looked marked marks named past settled =
    no_vertex arcs (λ i d below. let a : Arc = get_or arcs i d in
    let last = (named.within i d below).from_last in
    settled.mirrored a (Contains-get_or arcs i d below) (omega arith))

module _ (n : ℕ) (arcs : List Arc) (edges : List Edge) (named : AreNamed n arcs) (lower : AreLowerEdges arcs edges) where
  pub edge_is : (e : Edge) → Contains edges e → IsEdge n e
  edge_is e among =
      let is = All-contains (IsNamed n) arcs (backward e) named.within (All-contains (λ (x : Edge). Contains arcs (backward x)) edges e lower.told among) in
      record { first = is.to_first; ascends = All-contains (λ (x : Edge). x.u < x.v) edges e lower.rising among; last = is.from_last }

  pub edges_are : All (IsEdge n) edges
  edges_are i d below = edge_is (get_or edges i d) (Contains-get_or edges i d below)

  pub edges_positive : All (λ e. 1 ≤ e.w) edges
  edges_positive i d below =
      (All-contains (IsNamed n) arcs (backward (get_or edges i d)) named.within (All-contains (λ (x : Edge). Contains arcs (backward x)) edges (get_or edges i d) lower.told (Contains-get_or edges i d below))).weight

  edges_ascend : AllPairs (λ d e. d.u ≤ e.u) edges
  edges_ascend i j d below inside = (lower.ascending i j d below inside).first

  module _ (u arc edge : ℕ) (old : List Mark) (size : length old ≡ n) (settled : IsSettled u arcs edges arc edge old) (first : 1 ≤ u) (last : u ≤ n) where
    before : All (λ b. b.from < u → Contains arcs (turned b)) arcs
    before i d below less = settled.mirrored (get_or arcs i d) (Contains-get_or arcs i d below) less

    -- Where an edge is left, it shows an arc that has no equal mirror.
    pub owed_first : is_owed (mark_at old u no_mark) ≡ true → first_vertex arcs ≡ Some u
    owed_first is =
        let found = settled.owed u no_mark first (omega arith) is in
        let e : Edge = found.0 in
        first_vertex_is arcs arcs u (backward e) named.ascending before (All-contains (λ (x : Edge). Contains arcs (backward x)) edges e lower.told found.1) found.2 found.4

    wider : (v : ℕ) → IsLeft arcs edges u v → IsLeft arcs edges (u + 1) v
    wider v found = let less = found.3 in (found.0, found.1, found.2, omega arith, found.4)

    -- The line's arcs to lesser vertices have equal mirrors, where nothing is owed at u.
    lesser_mirrored : is_owed (mark_at old u no_mark) ≡ false → (a : Arc) → Contains arcs a → a.from ≡ u → a.to < a.from → Contains arcs (turned a)
    lesser_mirrored free a among own lesser =
        let there = All-contains (λ (b : Arc). b.to < b.from → Contains edges (edge_back b)) arcs a lower.each among lesser in
        ⊎_elim
        (λ forth. forth)
        (λ is. absurd (false≢true (sym free ∙ subst (λ (v : ℕ). is_owed (mark_at old v no_mark) ≡ true) own (is no_mark))))
        (settled.each (edge_back a) there (omega arith))

    -- All of the line's arcs have them, if those to greater vertices have.
    line_mirrored : is_owed (mark_at old u no_mark) ≡ false → ((a : Arc) → Contains arcs a → a.from ≡ u → a.from < a.to → Contains arcs (turned a)) → (a : Arc) → Contains arcs a → a.from < u + 1 → Contains arcs (turned a)
    line_mirrored free greater a among less =
        elim (cases_lt a.from u) [
          | inl earlier ↦ settled.mirrored a among earlier
          | inr least ↦ (let own : a.from ≡ u = omega arith in
              let other = (All-contains (IsNamed n) arcs a named.within among).other in
              elim (cases_lt a.from a.to) [
                | inl up ↦ greater a among own up
                | inr rest ↦ lesser_mirrored free a among own (omega arith)
              ])
        ]

    module _ (next_arc next_edge : ℕ) (is : IsInOrder u arcs edges arc edge next_arc next_edge) (free : is_owed (mark_at old u no_mark) ≡ false) where
      in_line : (a : Arc) → Contains (between arc next_arc arcs) a → Contains arcs a
      in_line = from_run (λ (a : Arc). a.from) arcs u arc next_arc named.ascending settled.arcs_start is.line

      each_forth : (e : Edge) → Contains edges e → e.u ≡ u → Contains arcs (forward e)
      each_forth e among own =
          let line : List Arc = between arc next_arc arcs in
          let there = run_contains (λ (e : Edge). e.u) edges u edge next_edge edges_ascend settled.edges_start is.row e among own in
          let found = contains_mapped edge_forth (filter (λ a. ltb a.from a.to) line) (forward e) e (subst (λ (es : List Edge). Contains es e) is.same there) in
          let a : Arc = found.0 in
          subst (λ (x : Edge). Contains arcs (forward x)) found.2 (in_line a (Contains-filter (λ a. ltb a.from a.to) line a found.1).0)

      greater_forth : (a : Arc) → Contains arcs a → a.from ≡ u → a.from < a.to → Contains arcs (turned a)
      greater_forth a among own greater =
          let line : List Arc = between arc next_arc arcs in
          let there = run_contains (λ (a : Arc). a.from) arcs u arc next_arc named.ascending settled.arcs_start is.line a among own in
          let kept = contains_map edge_forth (filter (λ a. ltb a.from a.to) line) a (Contains-kept (λ a. ltb a.from a.to) line a there (lt-ltb a.from a.to greater)) in
          let row = from_run (λ (e : Edge). e.u) edges u edge next_edge edges_ascend settled.edges_start is.row (edge_forth a) (subst (λ (es : List Edge). Contains es (edge_forth a)) (sym is.same) kept) in
          All-contains (λ (x : Edge). Contains arcs (backward x)) edges (edge_forth a) lower.told row

      -- The line of u was looked at, where no mark is needed.
      pub settled_in_order : IsSettled (u + 1) arcs edges next_arc next_edge old
      settled_in_order = record {
        arcs_start = start_more (λ (a : Arc). a.from) arcs u arc next_arc named.ascending settled.arcs_start is.line;
        edges_start = start_more (λ (e : Edge). e.u) edges u edge next_edge edges_ascend settled.edges_start is.row;
        earlier = λ v d low high. let less = settled.earlier v d low high in omega arith;
        owed = λ v d low high owed. wider v (settled.owed v d low high owed);
        each = λ e among less. elim (cases_lt e.u u) [
          | inl earlier ↦ settled.each e among earlier
          | inr least ↦ inl (each_forth e among (omega arith))
        ];
        mirrored = line_mirrored free greater_forth;
      }

    module _ (next_edge : ℕ) (mid : List Mark) (row : IsRun (λ e. e.u) edges u edge next_edge) (left : LeaveMarks (between edge next_edge edges) old mid) where
      row_has : (e : Edge) → Contains edges e → e.u ≡ u → Contains (between edge next_edge edges) e
      row_has = run_contains (λ (e : Edge). e.u) edges u edge next_edge edges_ascend settled.edges_start row

      row_from : (e : Edge) → Contains (between edge next_edge edges) e → Contains edges e
      row_from = from_run (λ (e : Edge). e.u) edges u edge next_edge edges_ascend settled.edges_start row

      row_own : (e : Edge) → Contains (between edge next_edge edges) e → e.u ≡ u
      row_own e among = All-contains (λ (x : Edge). x.u ≡ u) (between edge next_edge edges) e row.run among

      row_mark : (e : Edge) (d : Mark) → Contains (between edge next_edge edges) e → mark_at mid e.v d ≡ marked_by e (mark_at old e.v d)
      row_mark e d among = All-contains (λ (x : Edge). (d : Mark) → mark_at mid x.v d ≡ marked_by x (mark_at old x.v d)) (between edge next_edge edges) e left.each among d

      row_cases : (v : ℕ) → ((e : Edge) × Contains (between edge next_edge edges) e × (e.v ≡ v)) ⊎ All (λ e. e.v ≢ v) (between edge next_edge edges)
      row_cases v = some_or_none (λ (e : Edge). e.v ≡ v) (λ e. cases_eq e.v v) (between edge next_edge edges)

      -- An arc of the line that finds no mark has no equal mirror.
      pub unmet_first : Any (λ a. (a.from ≡ u) × MeetsNone a mid) arcs → first_vertex arcs ≡ Some u
      unmet_first found =
          let a : Arc = found.1 in
          let greater = found.4.1.greater in
          first_vertex_is arcs arcs u a named.ascending before (found.0, found.2, found.3) found.4.0
          (λ among. let lesser : (turned a).to < (turned a).from = greater in
          let there = All-contains (λ (b : Arc). b.to < b.from → Contains edges (edge_back b)) arcs (turned a) lower.each among lesser in
          let e : Edge = edge_back (turned a) in
          let mark = row_mark e no_mark (row_has e there found.4.0) in
          found.4.1.none no_mark (record { vertex = ap (λ (m : Mark). m.vertex) mark; weight = ap (λ (m : Mark). m.weight) mark }))

      module _ (next_arc : ℕ) (new : List Mark) (paired : IsPaired u arcs arc next_arc mid new) (free : is_owed (mark_at old u no_mark) ≡ false) where
        line_has : (a : Arc) → Contains arcs a → a.from ≡ u → Contains (between arc next_arc arcs) a
        line_has = run_contains (λ (a : Arc). a.from) arcs u arc next_arc named.ascending settled.arcs_start paired.line

        line_from : (a : Arc) → Contains (between arc next_arc arcs) a → Contains arcs a
        line_from = from_run (λ (a : Arc). a.from) arcs u arc next_arc named.ascending settled.arcs_start paired.line

        line_own : (a : Arc) → Contains (between arc next_arc arcs) a → a.from ≡ u
        line_own a among = All-contains (λ (x : Arc). x.from ≡ u) (between arc next_arc arcs) a paired.line.run among

        line_found : (a : Arc) (d : Mark) → Contains (between arc next_arc arcs) a → a.from < a.to → IsMarkOf a (mark_at mid a.to d)
        line_found a d among greater = All-contains (λ (x : Arc). x.from < x.to → (d : Mark) → IsMarkOf x (mark_at mid x.to d)) (between arc next_arc arcs) a paired.marks.own among greater d

        line_mark : (a : Arc) (d : Mark) → Contains (between arc next_arc arcs) a → a.from < a.to → mark_at new a.to d ≡ met (mark_at mid a.to d)
        line_mark a d among greater = All-contains (λ (x : Arc). x.from < x.to → (d : Mark) → mark_at new x.to d ≡ met (mark_at mid x.to d)) (between arc next_arc arcs) a paired.marks.each among greater d

        -- An arc of the line comes to v from a lesser vertex.
        abbrev comes_to : ℕ → Arc → Type 0
        comes_to v a = (a.from < a.to) × (a.to ≡ v)

        comes : (v : ℕ) (a : Arc) → comes_to v a ⊎ (comes_to v a → ⊥)
        comes v a =
            elim (cases_lt a.from a.to) [
              | inl greater ↦ elim (cases_eq a.to v) [
                | inl same ↦ inl (greater, same)
                | inr other ↦ inr (λ both. other both.1)
              ]
              | inr least ↦ inr (λ both. let greater = both.0 in absurd (omega arith))
            ]

        line_cases : (v : ℕ) → ((a : Arc) × Contains (between arc next_arc arcs) a × comes_to v a) ⊎ All (λ a. comes_to v a → ⊥) (between arc next_arc arcs)
        line_cases v = some_or_none (comes_to v) (comes v) (between arc next_arc arcs)

        line_none : (v : ℕ) (d : Mark) → 1 ≤ v → All (λ a. comes_to v a → ⊥) (between arc next_arc arcs) → mark_at new v d ≡ mark_at mid v d
        line_none v d low none = paired.marks.others v d low (λ i a inside greater same. none i a inside (greater, same))

        -- The mark that an arc of the line met is of an edge from u.
        met_edge : (a : Arc) → Contains (between arc next_arc arcs) a → a.from < a.to → (e : Edge) × Contains (between edge next_edge edges) e × (e.v ≡ a.to) × (e.w ≡ a.weight)
        met_edge a among greater =
            let own = line_own a among in
            let is = All-contains (IsNamed n) arcs a named.within (line_from a among) in
            let low = is.to_first in
            let high = is.to_last in
            let found = line_found a no_mark among greater in
            elim (row_cases a.to) [
              | inl some ↦ (let e : Edge = some.0 in
                  let same : mark_at mid a.to no_mark ≡ marked_by e (mark_at old e.v no_mark) = subst (λ (v : ℕ). mark_at mid v no_mark ≡ marked_by e (mark_at old e.v no_mark)) some.2 (row_mark e no_mark some.1) in
                  (e, some.1, some.2, sym (ap (λ (m : Mark). m.weight) same) ∙ found.weight))
              | inr none ↦ (let same : (mark_at mid a.to no_mark).vertex ≡ (mark_at old a.to no_mark).vertex = ap (λ (m : Mark). m.vertex) (left.others a.to no_mark low none) in
                  let less = settled.earlier a.to no_mark low (omega arith) in
                  let vertex = found.vertex in
                  absurd (omega arith))
            ]

        edge_of_met : (a : Arc) (e : Edge) → Contains (between arc next_arc arcs) a → Contains (between edge next_edge edges) e → e.v ≡ a.to → e.w ≡ a.weight → forward e ≡ a
        edge_of_met a e among there to weight = same_arc (forward e) a (row_own e there ∙ sym (line_own a among)) to weight

        low_of : (e : Edge) → Contains edges e → 1 ≤ e.v
        low_of e among = let is = edge_is e among in omega (arith, is.first, is.ascends)

        mid_missed : (e : Edge) (v : ℕ) (d : Mark) → Contains (between edge next_edge edges) e → e.v ≡ v → (mark_at mid v d).missed ≡ is_owed (mark_at old v d)
        mid_missed e v d among same = subst (λ (w : ℕ). (mark_at mid w d).missed ≡ is_owed (mark_at old w d)) same (ap (λ (m : Mark). m.missed) (row_mark e d among))

        mid_vertex : (e : Edge) (v : ℕ) (d : Mark) → Contains (between edge next_edge edges) e → e.v ≡ v → (mark_at mid v d).vertex ≡ u
        mid_vertex e v d among same = subst (λ (w : ℕ). (mark_at mid w d).vertex ≡ u) same (ap (λ (m : Mark). m.vertex) (row_mark e d among) ∙ row_own e among)

        earlier_more : (v : ℕ) (d : Mark) → 1 ≤ v → v ≤ n → (mark_at new v d).vertex < u + 1
        earlier_more v d low high =
            elim (line_cases v) [
              | inl some ↦ (let same : (mark_at new v d).vertex ≡ 0 = subst (λ (w : ℕ). (mark_at new w d).vertex ≡ 0) some.2.1 (ap (λ (m : Mark). m.vertex) (line_mark some.0 d some.1 some.2.0)) in omega arith)
              | inr none ↦ (let same : (mark_at new v d).vertex ≡ (mark_at mid v d).vertex = ap (λ (m : Mark). m.vertex) (line_none v d low none) in
                  elim (row_cases v) [
                    | inl edge ↦ (let here = mid_vertex edge.0 v d edge.1 edge.2 in omega arith)
                    | inr other ↦ (let before : (mark_at mid v d).vertex ≡ (mark_at old v d).vertex = ap (λ (m : Mark). m.vertex) (left.others v d low other) in
                        let less = settled.earlier v d low (omega arith) in omega arith)
                  ])
            ]

        new_missed : (a : Arc) (v : ℕ) (d : Mark) → Contains (between arc next_arc arcs) a → comes_to v a → (mark_at new v d ≡ met (mark_at mid v d))
        new_missed a v d among there = subst (λ (w : ℕ). mark_at new w d ≡ met (mark_at mid w d)) there.1 (line_mark a d among there.0)

        owed_more : (v : ℕ) (d : Mark) → 1 ≤ v → v ≤ n → is_owed (mark_at new v d) ≡ true → IsLeft arcs edges (u + 1) v
        owed_more v d low high is =
            elim (line_cases v) [
              | inl some ↦ (let edge = met_edge some.0 some.1 some.2.0 in
                  let missed : (mark_at mid v d).missed ≡ true = owed_met (mark_at mid v d) (sym (ap is_owed (new_missed some.0 v d some.1 some.2)) ∙ is) in
                  wider v (settled.owed v d low (omega arith) (sym (mid_missed edge.0 v d edge.1 (edge.2 ∙ some.2.1)) ∙ missed)))
              | inr none ↦ (let is_mid : is_owed (mark_at mid v d) ≡ true = sym (ap is_owed (line_none v d low none)) ∙ is in
                  elim (row_cases v) [
                    | inl edge ↦ (let e : Edge = edge.0 in
                        let own = row_own e edge.1 in
                        let there = row_from e edge.1 in
                        let rise = (edge_is e there).ascends in (
                          e,
                          there,
                          edge.2,
                          omega arith,
                          λ among. let line = line_has (forward e) among own in
                              All-contains (λ (a : Arc). comes_to v a → ⊥) (between arc next_arc arcs) (forward e) none line (rise, edge.2),
                        ))
                    | inr other ↦ wider v (settled.owed v d low (omega arith) (sym (ap is_owed (left.others v d low other)) ∙ is_mid))
                  ])
            ]

        -- What was owed before is owed after the line.
        still_owed : (v : ℕ) (d : Mark) → 1 ≤ v → is_owed (mark_at old v d) ≡ true → is_owed (mark_at new v d) ≡ true
        still_owed v d low is =
            elim (line_cases v) [
              | inl some ↦ (let edge = met_edge some.0 some.1 some.2.0 in
                  let missed : (mark_at mid v d).missed ≡ true = mid_missed edge.0 v d edge.1 (edge.2 ∙ some.2.1) ∙ is in
                  ap is_owed (new_missed some.0 v d some.1 some.2) ∙ owed_missed (met (mark_at mid v d)) missed)
              | inr none ↦ ap is_owed (line_none v d low none) ∙
                  elim (row_cases v) [
                    | inl edge ↦ owed_missed (mark_at mid v d) (mid_missed edge.0 v d edge.1 edge.2 ∙ is)
                    | inr other ↦ ap is_owed (left.others v d low other) ∙ is
                  ]
            ]

        each_own : (e : Edge) → Contains edges e → e.u ≡ u → Contains arcs (forward e) ⊎ ((d : Mark) → is_owed (mark_at new e.v d) ≡ true)
        each_own e among own =
            let there = row_has e among own in
            elim (line_cases e.v) [
              | inl some ↦ (let a : Arc = some.0 in
                  let weight : e.w ≡ a.weight = sym (ap (λ (m : Mark). m.weight) (row_mark e no_mark there)) ∙ (ap (λ (v : ℕ). (mark_at mid v no_mark).weight) (sym some.2.1) ∙ (line_found a no_mark some.1 some.2.0).weight) in
                  let same = edge_of_met a e some.1 there (sym some.2.1) weight in
                  inl (subst (λ (x : Arc). Contains arcs x) (sym same) (line_from a some.1)))
              | inr none ↦ inr (λ d. ap is_owed (line_none e.v d (low_of e among) none) ∙ owed_vertex (mark_at mid e.v d) (λ zero. let vertex = mid_vertex e e.v d there refl in omega arith))
            ]

        each_more : (e : Edge) → Contains edges e → e.u < u + 1 → Contains arcs (forward e) ⊎ ((d : Mark) → is_owed (mark_at new e.v d) ≡ true)
        each_more e among less =
            elim (cases_lt e.u u) [
              | inl before ↦ ⊎_elim (λ forth. inl forth) (λ is. inr (λ d. still_owed e.v d (low_of e among) (is d))) (settled.each e among before)
              | inr least ↦ each_own e among (omega arith)
            ]

        greater_mirrored : (a : Arc) → Contains arcs a → a.from ≡ u → a.from < a.to → Contains arcs (turned a)
        greater_mirrored a among own greater =
            let line = line_has a among own in
            let edge = met_edge a line greater in
            let same = edge_of_met a edge.0 line edge.1 edge.2 edge.3 in
            subst (λ (x : Arc). Contains arcs (turned x)) same (All-contains (λ (x : Edge). Contains arcs (backward x)) edges edge.0 lower.told (row_from edge.0 edge.1))

        -- The line of u was looked at.
        pub settled_more : length new ≡ n → IsSettled (u + 1) arcs edges next_arc next_edge new
        settled_more long = record {
          arcs_start = start_more (λ (a : Arc). a.from) arcs u arc next_arc named.ascending settled.arcs_start paired.line;
          edges_start = start_more (λ (e : Edge). e.u) edges u edge next_edge edges_ascend settled.edges_start row;
          earlier = λ v d low high. earlier_more v d low (omega arith);
          owed = λ v d low high is. owed_more v d low (omega arith) is;
          each = each_more;
          mirrored = line_mirrored free greater_mirrored;
        }
