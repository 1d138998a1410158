-- What one arc more does to the edges of the arcs to greater vertices, and to those of the others.
use Rattle.std.proofs.Common.{◌≡◌, ℕ, ◌+◌, ◌<◌, ◌≤◌, ◌++◌, ◌∙◌, ◌⊎◌, List, [], ◌∷◌, ◌/◌, ltb, length, get_or, set, take, filter, inl, inr, sym, ap, subst, arith, All, AllPairs, Contains}
use Rattle.std.proofs.lemmas.Bool.{cases_eq, lt-ltb, le-ltb}
use Rattle.std.proofs.lemmas.List.{length-map, length-set, length-take-le, get_or-set_same, get_or-set_other}
use Rattle.std.proofs.lemmas.List.Elements.{All-push}
use Rattle.std.proofs.lemmas.List.Sums.{length-filter, count_by-le-length}
use Rattle.pg_base.specs.declared.TheConstants.{MAX_VERTICES}
use Rattle.pg_base.specs.declared.edges.Edge.{Edge}
use Rattle.pg_base.specs.Graph.{Arc, Precedes, backward}
use Rattle.pg_metis.specs.declared.ascending.TheConstants.{BLOCK, BLOCKS}
use Rattle.pg_metis.specs.declared.pairing.NamedArc.{NamedArc}
use Rattle.pg_metis.specs.Ascending.{AreBackOrBlank}
use Rattle.pg_metis.specs.Mirrors.{edge_back, edge_forth, forth_edges}
use Rattle.pg_metis.specs.Pairing.{arc_of, arcs_named}
use Rattle.pg_metis.proofs.Mapped.{mapped_kept, mapped_left}
use Rattle.pg_metis.proofs.NamedArcs.{length-named, named_at, named_more}
use Rattle.pg_metis.proofs.Weights.{named_contains}
use Rattle.pg_metis.proofs.Cursors.{pairs_push}

abbrev pub no_arc : NamedArc
no_arc = record { from = 0; to = 0; weight = 0 }

-- No edge comes after this one.
pub record IsUpTo (last e : Edge) : Type 0 where
  pub first : e.u ≤ last.u
  pub second : e.u ≡ last.u → e.v ≤ last.v

precedes_next : (last next e : Edge) → Precedes last next → IsUpTo last e → Precedes e next
precedes_next last next e later is =
    let first = is.first in
    let less = later.first in
    record {
      first = omega arith;
      second = λ same. (let up = is.second (omega arith) in let past = later.second (omega arith) in omega arith);
    }

up_to_next : (last next e : Edge) → Precedes last next → IsUpTo last e → IsUpTo next e
up_to_next last next e later is =
    let before = precedes_next last next e later is in
    record { first = before.first; second = λ same. (let less = before.second same in omega arith) }

up_to_itself : (e : Edge) → IsUpTo e e
up_to_itself e = record { first = omega arith; second = λ same. omega arith }

-- The edges of the first arcs to greater vertices, which ascend, and the last of them.
pub record AreForth (arcs : List Arc) (last : Edge) (edges : List Edge) : Type 0 where
  pub are : edges ≡ forth_edges arcs
  pub ascending : AllPairs Precedes edges
  pub least : All (IsUpTo last) edges

more_forth : (arcs more : List Arc) (last next : Edge) (edges : List Edge) → AreForth arcs last edges → Precedes last next → forth_edges more ≡ forth_edges arcs ++ next ∷ [] → AreForth more next (edges ++ next ∷ [])
more_forth arcs more last next edges old later is = record {
  are = ap (λ (es : List Edge). es ++ next ∷ []) old.are ∙ sym is;
  ascending = pairs_push Precedes edges next old.ascending (λ k d within. precedes_next last next (get_or edges k d) later (old.least k d within));
  least = All-push (IsUpTo next) edges next (λ k d within. up_to_next last next (get_or edges k d) later (old.least k d within)) (up_to_itself next);
}

forth_more : (xs : List NamedArc) (i : ℕ) (d : NamedArc) (last : Edge) (edges : List Edge) → i < length xs → (get_or xs i d).from < (get_or xs i d).to → AreForth (take i (arcs_named xs)) last edges → Precedes last (edge_forth (arc_of (get_or xs i d)))
    → AreForth (take (i + 1) (arcs_named xs)) (edge_forth (arc_of (get_or xs i d))) (edges ++ edge_forth (arc_of (get_or xs i d)) ∷ [])
forth_more xs i d last edges below greater old later =
    more_forth (take i (arcs_named xs)) (take (i + 1) (arcs_named xs)) last (edge_forth (arc_of (get_or xs i d))) edges old later
    (ap forth_edges (named_more xs i d below) ∙ mapped_kept (λ (a : Arc). ltb a.from a.to) edge_forth (take i (arcs_named xs)) (arc_of (get_or xs i d)) (lt-ltb (get_or xs i d).from (get_or xs i d).to greater))

-- The same for an edge that is the arc's, and the list that it was added to.
pub forth_added : (xs : List NamedArc) (i : ℕ) (d : NamedArc) (last next : Edge) (edges new : List Edge) → i < length xs → (get_or xs i d).from < (get_or xs i d).to → AreForth (take i (arcs_named xs)) last edges → next ≡ edge_forth (arc_of (get_or xs i d))
    → Precedes last next → new ≡ edges ++ next ∷ [] → AreForth (take (i + 1) (arcs_named xs)) next new
forth_added xs i d last next edges new below greater old of later is =
    let a : Edge = edge_forth (arc_of (get_or xs i d)) in
    subst (λ (es : List Edge). AreForth (take (i + 1) (arcs_named xs)) next es) (sym is)
    (subst (λ (x : Edge). AreForth (take (i + 1) (arcs_named xs)) x (edges ++ x ∷ [])) (sym of) (forth_more xs i d last edges below greater old (subst (λ (x : Edge). Precedes last x) of later)))

pub forth_same : (xs : List NamedArc) (i : ℕ) (d : NamedArc) (last : Edge) (edges : List Edge) → i < length xs → (get_or xs i d).to ≤ (get_or xs i d).from → AreForth (take i (arcs_named xs)) last edges → AreForth (take (i + 1) (arcs_named xs)) last edges
forth_same xs i d last edges below least old = record {
  are = old.are ∙ sym (ap forth_edges (named_more xs i d below) ∙ mapped_left (λ (a : Arc). ltb a.from a.to) edge_forth (take i (arcs_named xs)) (arc_of (get_or xs i d)) (le-ltb (get_or xs i d).from (get_or xs i d).to least));
  ascending = old.ascending;
  least = old.least;
}

-- They are no more than the arcs.
pub forth_few : (xs : List NamedArc) (i : ℕ) (last : Edge) (edges : List Edge) → i < length xs → AreForth (take i (arcs_named xs)) last edges → length edges < length xs
forth_few xs i last edges below old =
    let arcs : List Arc = take i (arcs_named xs) in
    let kept : List Arc = filter (λ a. ltb a.from a.to) arcs in
    let size = ap length old.are in
    omega (arith, size, length-map kept edge_forth, length-filter (λ (a : Arc). ltb a.from a.to) arcs, count_by-le-length (λ (a : Arc). ltb a.from a.to) arcs, length-take-le i (arcs_named xs) (omega (arith, length-named xs)), length-named xs)

-- What is so of every arc's line is so of this one's.
pub from_within : (xs : List NamedArc) (i : ℕ) (d : NamedArc) (most : ℕ) → i < length xs → All (λ a. a.from < most) (arcs_named xs) → (get_or xs i d).from < most
from_within xs i d most below all = subst (λ (a : Arc). a.from < most) (named_at xs i d (arc_of d) below) (all i (arc_of d) (omega (arith, length-named xs)))

-- An arc's edge lies in a block.
pub in_block : (u : ℕ) → u ≤ MAX_VERTICES → u / BLOCK < BLOCKS
in_block u last = omega (arith, last)

all_set : {X : Type 0} (P : X → Type 0) (xs : List X) (i : ℕ) (x : X) → All P xs → P x → All P (set xs i x)
all_set {X} P xs i x all here k d within =
    let size = length-set xs i x in
    elim (cases_eq k i) [
      | inl same ↦ subst (λ (j : ℕ). P (get_or (set xs i x) j d)) (sym same) (subst P (sym (get_or-set_same xs i x d (omega arith))) here)
      | inr other ↦ subst P (sym (get_or-set_other xs i k x d other)) (all k d (omega arith))
    ]

pub back_more : (xs : List NamedArc) (i place : ℕ) (d : NamedArc) (e : Edge) (back new : List Edge) → i < length xs → AreBackOrBlank (arcs_named xs) back → e ≡ edge_back (arc_of (get_or xs i d)) → new ≡ set back place e → AreBackOrBlank (arcs_named xs) new
back_more xs i place d e back new below old of is =
    let P : Edge → Type 0 = λ e. (e.u ≡ 0) ⊎ Contains (arcs_named xs) (backward e) in
    subst (λ (es : List Edge). All P es) (sym is) (all_set P back place e old (subst P (sym of) (inr (named_contains xs i d below))))
