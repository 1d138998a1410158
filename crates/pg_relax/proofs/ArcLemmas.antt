-- The arcs of a portion as one list.
use Rattle.std.proofs.Common.{◌≡◌, ℕ, zero, suc, ◌<◌, ◌&&◌, Bool, true, false, List, map, length, refl, sym, ap, ◌∙◌, subst, inl, inr, arith, Contains}
use Rattle.std.proofs.lemmas.List.Elements.{Contains-append_left, Contains-append_right, Contains-append_cases, Contains-get_or}
use Rattle.std.proofs.lemmas.List.{get_or-map, length-map}
use Rattle.std.proofs.lemmas.Bool.{cases_eq}
use Rattle.std.specs.Prelude.{slice_index_or}
use Rattle.pg_adj.specs.declared.arcs.Arc.{Arc}
use Rattle.pg_adj.specs.Portions.{Portion}
use Rattle.pg_best.specs.Parts.{LocalArc}
use Rattle.pg_relax.specs.States.{row, local_of, arcs_below, is_arc}

abbrev pub no_arc : Arc
no_arc = record { to = record { 0 = 0 }; home = record { 0 = 0 }; place = 0; w = 0; edge = 0 }

pub mapped : (i : ℕ) (arcs : List Arc) (b : Arc) → Contains arcs b → Contains (map (local_of i) arcs) (local_of i b)
mapped i arcs b c = (c.0, omega (arith, c.1, length-map arcs (local_of i)), get_or-map (local_of i) arcs c.0 b (local_of i b) c.1 ∙ ap (local_of i) c.2)

pub from_mapped : (i : ℕ) (arcs : List Arc) (a : LocalArc) → Contains (map (local_of i) arcs) a → (b : Arc) × Contains arcs b × (a ≡ local_of i b)
from_mapped i arcs a c =
    let l : c.0 < length arcs = omega (arith, c.1, length-map arcs (local_of i)) in
    let b : Arc = slice_index_or arcs c.0 no_arc in
    (b, Contains-get_or arcs c.0 no_arc l, sym c.2 ∙ get_or-map (local_of i) arcs c.0 no_arc a l)

-- an arc of a place is one of the portion's
pub among : (p : Portion) (n i : ℕ) (b : Arc) → i < n → Contains (row p i) b → Contains (arcs_below p n) (local_of i b)
among p zero i b h c = absurd (omega arith)
among p (suc n) i b h c = elim (cases_eq i n) [
  | inl same ↦ Contains-append_right (arcs_below p n) (map (local_of n) (row p n)) (local_of i b)
      (subst (λ j. Contains (map (local_of j) (row p j)) (local_of i b)) same (mapped i (row p i) b c))
  | inr apart ↦ Contains-append_left (arcs_below p n) (map (local_of n) (row p n)) (local_of i b) (among p n i b (omega arith) c)
]

-- an arc of the portion is one of a place
pub record IsOfPlace (p : Portion) (n : ℕ) (a : LocalArc) : Type 0 where
  pub place : ℕ
  pub below : place < n
  pub arc : Arc
  pub stands : Contains (row p place) arc
  pub is : a ≡ local_of place arc

pub of_place : (p : Portion) (n : ℕ) (a : LocalArc) → Contains (arcs_below p n) a → IsOfPlace p n a
of_place p zero a c = absurd (omega (arith, c.1))
of_place p (suc n) a c = elim (Contains-append_cases (arcs_below p n) (map (local_of n) (row p n)) a c) [
  | inl before ↦ let found = of_place p n a before in record { place = found.place; below = omega (arith, found.below); arc = found.arc; stands = found.stands; is = found.is }
  | inr last ↦ let found = from_mapped n (row p n) a last in record { place = n; below = omega arith; arc = found.0; stands = found.1; is = found.2 }
]

and_both : (a b : Bool) → (a && b) ≡ true → (a ≡ true) × (b ≡ true)
and_both true true e = (refl, refl)
and_both true false e = cc
and_both false b e = cc

-- the test of arcs is equality
pub same_arc : (a b : LocalArc) → is_arc a b ≡ true → a ≡ b
same_arc a b e = search (arith, and_both)

pub arc_self : (a : LocalArc) → is_arc a a ≡ true
arc_self a = search arith
