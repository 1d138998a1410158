-- Arcs of which each has an equal mirror are the two directions of edges in order.
use Rattle.std.proofs.Common.{◌≤◌, ◌≡◌, ◌≢◌, ℕ, ◌<◌, min, max, List, [], ◌∷◌, refl, sym, ap, subst, inl, inr, ◌⊎◌, ⊎_elim, arith, All, AllPairs, Contains}
use Rattle.std.proofs.lemmas.Bool.{cases_lt, cases_order}
use Rattle.std.proofs.lemmas.List.Elements.{All-cons, All-contains, All-contains_itself, All-head, All-nil, All-tail, All-weaker}
use Rattle.pg_base.specs.declared.edges.Edge.{Edge}
use Rattle.pg_base.specs.Graph.{Arc, IsEdge, Precedes, forward, backward}
use Rattle.pg_base.proofs.Members.{AllPairs-cons, contains_cases, contains_first, contains_later}
use Rattle.pg_base.proofs.WalkLemmas.{turned}
use Rattle.pg_metis.specs.Pairing.{AreEdgesOf, AreNamed, IsNamed, edge_along}
use Rattle.pg_metis.proofs.ListLemmas.{AllPairs-head, AllPairs-nil, AllPairs-tail}
use Rattle.pg_metis.proofs.EdgeArcs.{Differ, edges_have_arcs, same_length}

-- The ends of d and of e aren't the same.
abbrev Apart : Edge → Edge → Type 0
Apart d e = d.u ≡ e.u → d.v ≢ e.v

side : (d e : Edge) → Apart d e → Precedes d e ⊎ Precedes e d
side d e apart = elim (cases_order d.u e.u) [
  | inl same ↦ elim (cases_order d.v e.v) [
    | inl both ↦ absurd (apart same both)
    | inr (inl below) ↦ inl (record { first = omega arith; second = λ _. below })
    | inr (inr above) ↦ inr (record { first = omega arith; second = λ _. above })
  ]
  | inr (inl below) ↦ inl (record { first = omega arith; second = λ other. absurd (omega arith) })
  | inr (inr above) ↦ inr (record { first = omega arith; second = λ other. absurd (omega arith) })
]

precedes_through : (d e f : Edge) → Precedes d e → Precedes e f → Precedes d f
precedes_through d e f one two =
    let a = one.first in
    let b = two.first in
    record {
      first = omega arith;
      second = λ same. (let p = one.second (omega arith) in let q = two.second (omega arith) in omega arith);
    }

-- Edges in order that are these with one more.
record WithOne (e : Edge) (ds es : List Edge) : Type 0 where
  ascending : AllPairs Precedes es
  cases : (x : Edge) → Contains es x → (e ≡ x) ⊎ Contains ds x
  one : Contains es e
  others : (x : Edge) → Contains ds x → Contains es x

with_one : (e : Edge) (ds : List Edge) → AllPairs Precedes ds → All (Apart e) ds → (es : List Edge) × WithOne e ds es
with_one e [] order apart = (
  e ∷ [],
  record {
    ascending = AllPairs-cons Precedes e [] (All-nil (Precedes e)) (AllPairs-nil Precedes);
    cases = λ x c. contains_cases e [] x c;
    one = contains_first e [];
    others = λ x c. contains_later e [] x c;
  },
)
with_one e (d ∷ ds) order apart =
    let after = AllPairs-head Precedes d ds order in
    let rest = AllPairs-tail Precedes d ds order in
    elim (side e d (All-head (Apart e) d ds apart)) [
      | inl before ↦ (
        e ∷ d ∷ ds,
        record {
          ascending = AllPairs-cons Precedes e (d ∷ ds) (All-cons (Precedes e) d ds before (All-weaker (Precedes d) (Precedes e) (λ x p. precedes_through e d x before p) ds after)) order;
          cases = λ x c. contains_cases e (d ∷ ds) x c;
          one = contains_first e (d ∷ ds);
          others = λ x c. contains_later e (d ∷ ds) x c;
        },
      )
      | inr behind ↦ (let more = with_one e ds rest (All-tail (Apart e) d ds apart) in
          let is = more.1 in (
            d ∷ more.0,
            record {
              ascending = AllPairs-cons Precedes d more.0 (All-weaker (Contains more.0) (Precedes d) (λ x c. ⊎_elim (λ same. subst (Precedes d) same behind) (λ among. All-contains (Precedes d) ds x after among) (is.cases x c)) more.0 (All-contains_itself more.0)) is.ascending;
              cases = λ x c. ⊎_elim
                  (λ same. inr (subst (Contains (d ∷ ds)) same (contains_first d ds)))
                  (λ later. ⊎_elim (λ same. inl same) (λ among. inr (contains_later d ds x among)) (is.cases x later))
                  (contains_cases d more.0 x c);
              one = contains_later d more.0 e is.one;
              others = λ x c. ⊎_elim
                  (λ same. subst (Contains (d ∷ more.0)) same (contains_first d more.0))
                  (λ among. contains_later d more.0 x (is.others x among))
                  (contains_cases d ds x c);
            },
          ))
    ]

-- The edge of an arc that leads to a greater vertex.
abbrev rising : Arc → Edge
rising a = record { u = a.from; v = a.to; w = a.weight }

abbrev IsRising : List Arc → Edge → Type 0
IsRising arcs e = (a : Arc) × Contains arcs a × (a.from < a.to) × (rising a ≡ e)

-- The edges of the arcs that lead to greater vertices.
record RisingEdges (arcs : List Arc) (es : List Edge) : Type 0 where
  ascending : AllPairs Precedes es
  are : (e : Edge) → Contains es e → IsRising arcs e
  each : (a : Arc) → Contains arcs a → a.from < a.to → Contains es (rising a)

still_rising : (a : Arc) (arcs : List Arc) (e : Edge) → IsRising arcs e → IsRising (a ∷ arcs) e
still_rising a arcs e is = (is.0, contains_later a arcs is.0 is.1, is.2, is.3)

rising_edges : (arcs : List Arc) → AllPairs Differ arcs → (es : List Edge) × RisingEdges arcs es
rising_edges [] differ = (
  [],
  record {
    ascending = AllPairs-nil Precedes;
    are = λ e c. absurd (omega (arith, c.1));
    each = λ a c rises. absurd (omega (arith, c.1));
  },
)
rising_edges (a ∷ arcs) differ =
    let later = rising_edges arcs (AllPairs-tail Differ a arcs differ) in
    let is = later.1 in
    elim (cases_lt a.from a.to) [
      | inl rises ↦ (let apart : All (Apart (rising a)) later.0 = All-weaker (Contains later.0) (Apart (rising a)) (λ e c. let found = is.are e c in subst (Apart (rising a)) found.3 (All-contains (Differ a) arcs found.0 (AllPairs-head Differ a arcs differ) found.1)) later.0 (All-contains_itself later.0) in
          let more = with_one (rising a) later.0 is.ascending apart in
          let has = more.1 in (
            more.0,
            record {
              ascending = has.ascending;
              are = λ e c. ⊎_elim
                  (λ same. (a, contains_first a arcs, rises, same))
                  (λ among. still_rising a arcs e (is.are e among))
                  (has.cases e c);
              each = λ b c up. ⊎_elim
                  (λ same. subst (λ (x : Arc). Contains more.0 (rising x)) same has.one)
                  (λ among. has.others (rising b) (is.each b among up))
                  (contains_cases a arcs b c);
            },
          ))
      | inr falls ↦ (
        later.0,
        record {
          ascending = is.ascending;
          are = λ e c. still_rising a arcs e (is.are e c);
          each = λ b c up. ⊎_elim
              (λ same. let from = ap (λ (x : Arc). x.from) same in let to = ap (λ (x : Arc). x.to) same in absurd (omega arith))
              (λ among. is.each b among up)
              (contains_cases a arcs b c);
        },
      )
    ]

along_rising : (a : Arc) → a.from < a.to → edge_along a ≡ rising a
along_rising a rises =
    let low : min a.from a.to ≡ a.from = omega arith in
    let high : max a.from a.to ≡ a.to = omega arith in
    rw (low, high) refl

along_falling : (a : Arc) → a.to < a.from → edge_along a ≡ rising (turned a)
along_falling a falls =
    let low : min a.from a.to ≡ a.to = omega arith in
    let high : max a.from a.to ≡ a.from = omega arith in
    rw (low, high) refl

-- The edges of these arcs, where each is mirrored.
pub edges_from_arcs : (n : ℕ) (arcs : List Arc) → AreNamed n arcs → ((a : Arc) → Contains arcs a → Contains arcs (turned a)) → (edges : List Edge) × AreEdgesOf n arcs edges
edges_from_arcs n arcs named mirrored =
    let found = rising_edges arcs named.once in
    let edges = found.0 in
    let is = found.1 in
    let named_at : (a : Arc) → Contains arcs a → IsNamed n a = λ a c. All-contains (IsNamed n) arcs a named.within c in
    let within : All (IsEdge n) edges = All-weaker (Contains edges) (IsEdge n) (λ e c. let of = is.are e c in subst (IsEdge n) of.3 (rising_is n of.0 (named_at of.0 of.1) of.2)) edges (All-contains_itself edges) in
    let positive : All (λ e. 1 ≤ e.w) edges = All-weaker (Contains edges) (λ e. 1 ≤ e.w) (λ e c. let of = is.are e c in subst (λ (x : Edge). 1 ≤ x.w) of.3 (named_at of.0 of.1).weight) edges (All-contains_itself edges) in
    let each : All (λ a. Contains edges (edge_along a)) arcs = All-weaker (Contains arcs) (λ a. Contains edges (edge_along a)) (λ a c. elim (cases_lt a.from a.to) [
      | inl rises ↦ subst (Contains edges) (sym (along_rising a rises)) (is.each a c rises)
      | inr not ↦ (let other = (named_at a c).other in let falls : a.to < a.from = omega arith in subst (Contains edges) (sym (along_falling a falls)) (is.each (turned a) (mirrored a c) falls))
    ]) arcs (All-contains_itself arcs) in
    let directions : All (λ e. Contains arcs (forward e) × Contains arcs (backward e)) edges = All-weaker (Contains edges) (λ e. Contains arcs (forward e) × Contains arcs (backward e)) (λ e c. let of = is.are e c in subst (λ (x : Edge). Contains arcs (forward x) × Contains arcs (backward x)) of.3 (of.1, mirrored of.0 of.1)) edges (All-contains_itself edges) in (
      edges,
      record {
        within = within;
        positive = positive;
        ascending = is.ascending;
        each = each;
        directions = directions;
        count = same_length n arcs edges named within is.ascending (edges_have_arcs n arcs edges named each directions);
      },
    )
  where
    rising_is : (n : ℕ) (a : Arc) → IsNamed n a → a.from < a.to → IsEdge n (rising a)
    rising_is n a is rises = record { first = is.from_first; ascends = rises; last = is.to_last }
