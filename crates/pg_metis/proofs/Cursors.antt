-- Edges that were met at the cursors of their lesser ends were met once each.
use Rattle.std.proofs.Common.{◌≡◌, ◌≢◌, ℕ, ◌+◌, ◌<◌, ◌≤◌, ◌++◌, ◌∙◌, List, [], ◌∷◌, length, get_or, set, take, slice_index, inl, inr, refl, sym, ap, subst, arith, All, AllPairs, Contains}
use Rattle.std.proofs.lemmas.Bool.{cases_eq, cases_lt}
use Rattle.std.proofs.lemmas.List.{take_all, take_more, get_or-set_same, get_or-set_other, get_or_append_left, get_or_push, length_push}
use Rattle.std.proofs.lemmas.List.Elements.{All-push}
use Rattle.pg_base.specs.declared.edges.Edge.{Edge}
use Rattle.pg_base.specs.Graph.{Precedes}
use Rattle.pg_metis.specs.Ascending.{IsAtCursor}

-- What holds of each two of a list holds with one more where it holds of each one and that.
pub pairs_push : {X : Type 0} (R : X → X → Type 0) (xs : List X) (x : X) → AllPairs R xs → All (λ y. R y x) xs → AllPairs R (xs ++ x ∷ [])
pairs_push {X} R xs x pairs last i j d below within =
    let size = length_push xs x in
    let first = get_or_append_left xs (x ∷ []) d i (omega arith) in
    elim (cases_lt j (length xs)) [
      | inl inside ↦ (let second = get_or_append_left xs (x ∷ []) d j inside in
          subst (λ (y : X). R y (get_or (xs ++ x ∷ []) j d)) (sym first) (subst (λ (y : X). R (get_or xs i d) y) (sym second) (pairs i j d below inside)))
      | inr least ↦ (let second = get_or_push xs x d j (omega arith) in
          subst (λ (y : X). R y (get_or (xs ++ x ∷ []) j d)) (sym first) (subst (λ (y : X). R (get_or xs i d) y) (sym second) (last i d (omega arith))))
    ]

-- The cursor of the edge's lesser end stands behind it.
pub record IsPassed (edges : List Edge) (cursors : List ℕ) (e : Edge) : Type 0 where
  pub place : ℕ
  pub within : place < length edges
  pub passed : place < slice_index cursors e.u
  pub same : (d : Edge) → get_or edges place d ≡ e

-- It still does when a cursor has moved on.
still_passed : (edges : List Edge) (cursors : List ℕ) (u : ℕ) (e : Edge) → u < length cursors → IsPassed edges cursors e → IsPassed edges (set cursors u (slice_index cursors u + 1)) e
still_passed edges cursors u e below is = record {
  place = is.place;
  within = is.within;
  passed =
      let passed = is.passed in
      let new : List ℕ = set cursors u (slice_index cursors u + 1) in
      elim (cases_eq e.u u) [
        | inl same ↦ (let there : slice_index new e.u ≡ slice_index cursors u + 1 = ap (λ (k : ℕ). slice_index new k) same ∙ get_or-set_same cursors u (slice_index cursors u + 1) 0 below in
            let before : slice_index cursors e.u ≡ slice_index cursors u = ap (λ (k : ℕ). slice_index cursors k) same in omega arith)
        | inr other ↦ (let there : slice_index new e.u ≡ slice_index cursors e.u = get_or-set_other cursors u e.u (slice_index cursors u + 1) 0 other in omega arith)
      ];
  same = is.same;
}

now_passed : (edges : List Edge) (cursors : List ℕ) (e : Edge) → e.u < length cursors → IsAtCursor e edges cursors → IsPassed edges (set cursors e.u (slice_index cursors e.u + 1)) e
now_passed edges cursors e below at = record {
  place = slice_index cursors e.u;
  within = at.within;
  passed = let here : slice_index (set cursors e.u (slice_index cursors e.u + 1)) e.u ≡ slice_index cursors e.u + 1 = get_or-set_same cursors e.u (slice_index cursors e.u + 1) 0 below in omega arith;
  same = at.same;
}

-- The edge at a cursor is none of those that were passed.
not_passed : (edges : List Edge) (cursors : List ℕ) (d e : Edge) → AllPairs Precedes edges → IsPassed edges cursors d → IsAtCursor e edges cursors → d ≢ e
not_passed edges cursors d e ascending passed at same =
    let before : passed.place < slice_index cursors e.u = subst (λ (x : Edge). passed.place < slice_index cursors x.u) same passed.passed in
    let order = ascending passed.place (slice_index cursors e.u) e before at.within in
    let self : Precedes e e = subst (λ (x : Edge). Precedes x e) (passed.same e ∙ same) (subst (λ (x : Edge). Precedes (get_or edges passed.place e) x) (at.same e) order) in
    let less = self.second refl in omega arith

abbrev pub no_edge : Edge
no_edge = record { u = 0; v = 0; w = 0 }

-- These edges were passed, each once.
pub record AreMet (edges : List Edge) (cursors : List ℕ) (met : List Edge) : Type 0 where
  pub passed : All (IsPassed edges cursors) met
  pub once : AllPairs (λ d e. d ≢ e) met

one_met : (edges : List Edge) (cursors new : List ℕ) (met : List Edge) (e : Edge) → AllPairs Precedes edges → e.u < length cursors → IsAtCursor e edges cursors → new ≡ set cursors e.u (slice_index cursors e.u + 1) → AreMet edges cursors met
    → AreMet edges new (met ++ e ∷ [])
one_met edges cursors new met e ascending below at moved are = record {
  passed = subst (λ (cs : List ℕ). All (IsPassed edges cs) (met ++ e ∷ [])) (sym moved)
      (All-push (IsPassed edges (set cursors e.u (slice_index cursors e.u + 1))) met e (λ k d within. still_passed edges cursors e.u (get_or met k d) below (are.passed k d within)) (now_passed edges cursors e below at));
  once = pairs_push (λ d e. d ≢ e) met e are.once (λ k d within. not_passed edges cursors (get_or met k d) e ascending (are.passed k d within) at);
}

pub met_more : (back edges : List Edge) (cursors new : List ℕ) (i : ℕ) (d : Edge) → AllPairs Precedes edges → i < length back → (get_or back i d).u < length cursors → IsAtCursor (get_or back i d) edges cursors
    → new ≡ set cursors (get_or back i d).u (slice_index cursors (get_or back i d).u + 1) → AreMet edges cursors (take i back) → AreMet edges new (take (i + 1) back)
met_more back edges cursors new i d ascending within below at moved are =
    subst (λ (es : List Edge). AreMet edges new es) (sym (take_more back i d within)) (one_met edges cursors new (take i back) (get_or back i d) ascending below at moved are)

pub met_all : (back edges : List Edge) (cursors : List ℕ) (i : ℕ) → length back ≤ i → AreMet edges cursors (take i back) → All (Contains edges) back × AllPairs (λ d e. d ≢ e) back
met_all back edges cursors i past are =
    let all = subst (λ (es : List Edge). AreMet edges cursors es) (take_all i back past) are in
    (λ k d within. let is = all.passed k d within in (is.place, is.within, is.same (get_or back k d)), all.once)
