-- The weights of the arcs to one vertex tell what is wrong with an arc from it.
use Rattle.std.proofs.Common.{◌≡◌, ◌≢◌, ℕ, ◌+◌, ◌-◌, ◌<◌, ◌≤◌, ◌∙◌, Some, List, length, get_or, set, take, slice_index, inl, inr, refl, sym, ap, subst, arith, All, Contains}
use Rattle.std.proofs.lemmas.Bool.{cases_eq}
use Rattle.std.proofs.lemmas.List.{take_all, length-take-le, length-set, get_or-set_same, get_or-set_other, get_or-take}
use Rattle.std.proofs.lemmas.List.Elements.{All-contains, All-push, Contains-get_or}
use Rattle.pg_base.specs.Graph.{Arc}
use Rattle.pg_metis.specs.declared.pairing.NamedArc.{NamedArc}
use Rattle.pg_metis.specs.declared.faults.Kind.{Kind}
use Rattle.pg_metis.specs.declared.faults.Kind.TheVariants.{NoMirror, MirrorWeight}
use Rattle.pg_metis.specs.Fault.{first_unmirrored, mirror_kind}
use Rattle.pg_metis.specs.Mirrors.{AreWeightsTo, first_vertex, turned}
use Rattle.pg_metis.specs.Pairing.{arc_of, arcs_named, AreNamed, IsNamed}
use Rattle.pg_metis.proofs.NamedArcs.{length-named, named_at, is_named, named_more}
use Rattle.pg_metis.proofs.MirrorLemmas.{same_arc, kind_missing, kind_weight, kind_is, none_at}

pub named_contains : (xs : List NamedArc) (i : ℕ) (d : NamedArc) → i < length xs → Contains (arcs_named xs) (arc_of (get_or xs i d))
named_contains xs i d below =
    subst (λ (a : Arc). Contains (arcs_named xs) a) (named_at xs i d (arc_of d) below) (Contains-get_or (arcs_named xs) i (arc_of d) (omega (arith, length-named xs)))

-- What the weights hold, of which the first arcs were entered.
pub record AreEntered (vertex : ℕ) (arcs entered : List Arc) (weights : List ℕ) : Type 0 where
  pub told : (i : ℕ) → i < length weights → slice_index weights i ≢ 0 → Contains arcs (record { from = i + 1; to = vertex; weight = slice_index weights i })
  pub each : All (λ a. a.to ≡ vertex → slice_index weights (a.from - 1) ≡ a.weight) entered

module _ (xs : List NamedArc) (n vertex i : ℕ) (d : NamedArc) (named : AreNamed n (arcs_named xs)) (below : i < length xs) where
  once_before : All (λ b. b.to ≡ (get_or xs i d).to → b.from ≢ (get_or xs i d).from) (take i (arcs_named xs))
  once_before k e within to from =
      let size = length-take-le i (arcs_named xs) (omega (arith, length-named xs)) in
      let first : get_or (take i (arcs_named xs)) k e ≡ get_or (arcs_named xs) k e = get_or-take i (arcs_named xs) k e (omega arith) in
      let last : get_or (arcs_named xs) i e ≡ arc_of (get_or xs i d) = named_at xs i d e below in
      named.once k i e (omega arith) (omega (arith, length-named xs))
      (ap (λ (a : Arc). a.from) (sym first) ∙ (from ∙ ap (λ (a : Arc). a.from) (sym last)))
      (ap (λ (a : Arc). a.to) (sym first) ∙ (to ∙ ap (λ (a : Arc). a.to) (sym last)))

  pub weight_written : (weights : List ℕ) → length weights ≡ n → AreEntered vertex (arcs_named xs) (take i (arcs_named xs)) weights → (get_or xs i d).to ≡ vertex
      → AreEntered vertex (arcs_named xs) (take (i + 1) (arcs_named xs)) (set weights ((get_or xs i d).from - 1) (get_or xs i d).weight)
  weight_written weights size old own =
      let a : NamedArc = get_or xs i d in
      let is = is_named n xs i d named below in
      let first = is.from_first in
      let last = is.from_last in
      let new : List ℕ = set weights (a.from - 1) a.weight in
      let here : slice_index new (a.from - 1) ≡ a.weight = get_or-set_same weights (a.from - 1) a.weight 0 (omega arith) in
      let there = λ (k : ℕ) (other : k ≢ a.from - 1). get_or-set_other weights (a.from - 1) k a.weight 0 other in
      let P : Arc → Type 0 = λ b. b.to ≡ vertex → slice_index new (b.from - 1) ≡ b.weight in
      let one : P (arc_of a) = λ to. here in
      let rest : All P (take i (arcs_named xs)) = λ k e within to. (let b : Arc = get_or (take i (arcs_named xs)) k e in
      let b_first : 1 ≤ b.from = (let size' = length-take-le i (arcs_named xs) (omega (arith, length-named xs)) in
      let same : b ≡ get_or (arcs_named xs) k e = get_or-take i (arcs_named xs) k e (omega arith) in
      let b_is = named.within k e (omega (arith, length-named xs)) in
      let f = b_is.from_first in
      let from : b.from ≡ (get_or (arcs_named xs) k e).from = ap (λ (c : Arc). c.from) same in omega arith) in
      there (b.from - 1) (λ same. once_before k e within (to ∙ sym own) (omega arith)) ∙ old.each k e within to) in
      record {
        told = λ k within some. elim (cases_eq k (a.from - 1)) [
          | inl same ↦ (let found = named_contains xs i d below in
              let at : a.from ≡ k + 1 = omega arith in
              let weight : a.weight ≡ slice_index new k = sym here ∙ ap (λ (j : ℕ). slice_index new j) (sym same) in
              let whole : arc_of a ≡ record { from = k + 1; to = vertex; weight = slice_index new k } = same_arc (arc_of a) (record { from = k + 1; to = vertex; weight = slice_index new k }) at own weight in
              subst (λ (c : Arc). Contains (arcs_named xs) c) whole found)
          | inr other ↦ (let same : slice_index new k ≡ slice_index weights k = there k other in
              let told = old.told k (omega (arith, length-set weights (a.from - 1) a.weight)) (λ zero. some (same ∙ zero)) in
              subst (λ (w : ℕ). Contains (arcs_named xs) (record { from = k + 1; to = vertex; weight = w })) (sym same) told)
        ];
        each = subst (λ (ls : List Arc). All P ls) (sym (named_more xs i d below)) (All-push P (take i (arcs_named xs)) (arc_of a) rest one);
      }

  pub weight_passed : (weights : List ℕ) → AreEntered vertex (arcs_named xs) (take i (arcs_named xs)) weights → (get_or xs i d).to ≢ vertex → AreEntered vertex (arcs_named xs) (take (i + 1) (arcs_named xs)) weights
  weight_passed weights old other =
      let P : Arc → Type 0 = λ b. b.to ≡ vertex → slice_index weights (b.from - 1) ≡ b.weight in
      let one : P (arc_of (get_or xs i d)) = λ to. absurd (other to) in
      record {
        told = old.told;
        each = subst (λ (ls : List Arc). All P ls) (sym (named_more xs i d below)) (All-push P (take i (arcs_named xs)) (arc_of (get_or xs i d)) old.each one);
      }

  module _ (weights : List ℕ) (are : AreWeightsTo vertex (arcs_named xs) weights) (own : (get_or xs i d).from ≡ vertex) where
    weight_of : (b : Arc) → Contains (arcs_named xs) b → b.from ≡ (get_or xs i d).to → b.to ≡ (get_or xs i d).from → slice_index weights ((get_or xs i d).to - 1) ≡ b.weight
    weight_of b among from to =
        subst (λ (k : ℕ). slice_index weights (k - 1) ≡ b.weight) from (All-contains (λ (c : Arc). c.to ≡ vertex → slice_index weights (c.from - 1) ≡ c.weight) (arcs_named xs) b are.each among (to ∙ own))

    told_arc : n ≤ length weights → slice_index weights ((get_or xs i d).to - 1) ≢ 0 → Contains (arcs_named xs) (record { from = (get_or xs i d).to; to = (get_or xs i d).from; weight = slice_index weights ((get_or xs i d).to - 1) })
    told_arc size some =
        let a : NamedArc = get_or xs i d in
        let is = is_named n xs i d named below in
        let first = is.to_first in
        let last = is.to_last in
        let w : ℕ = slice_index weights (a.to - 1) in
        let found = are.told (a.to - 1) (omega arith) some in
        let at : (a.to - 1) + 1 ≡ a.to = omega arith in
        let there : Arc = record { from = (a.to - 1) + 1; to = vertex; weight = w } in
        let here : Arc = record { from = a.to; to = a.from; weight = w } in
        subst (λ (c : Arc). Contains (arcs_named xs) c) (same_arc there here at (sym own) refl) found

    pub missing_here : slice_index weights ((get_or xs i d).to - 1) ≡ 0 → mirror_kind (arcs_named xs) (arc_of (get_or xs i d)) ≡ Some NoMirror
    missing_here none =
        kind_missing (arcs_named xs) (arc_of (get_or xs i d))
        (λ b among from to. let is = All-contains (IsNamed n) (arcs_named xs) b named.within among in
        let weight = is.weight in
        let same = weight_of b among from to in omega arith)

    pub weight_here : n ≤ length weights → slice_index weights ((get_or xs i d).to - 1) ≢ 0 → slice_index weights ((get_or xs i d).to - 1) ≢ (get_or xs i d).weight
        → mirror_kind (arcs_named xs) (arc_of (get_or xs i d)) ≡ Some MirrorWeight
    weight_here size some other =
        kind_weight (arcs_named xs) (arc_of (get_or xs i d)) (record { from = (get_or xs i d).to; to = (get_or xs i d).from; weight = slice_index weights ((get_or xs i d).to - 1) }) (told_arc size some) refl refl
        (λ among. other (weight_of (turned (arc_of (get_or xs i d))) among refl refl))

    pub mirrored_here : n ≤ length weights → slice_index weights ((get_or xs i d).to - 1) ≢ 0 → slice_index weights ((get_or xs i d).to - 1) ≡ (get_or xs i d).weight
        → Contains (arcs_named xs) (turned (arc_of (get_or xs i d)))
    mirrored_here size some same =
        let a : NamedArc = get_or xs i d in
        subst (λ (w : ℕ). Contains (arcs_named xs) (record { from = a.to; to = a.from; weight = w })) same (told_arc size some)

  -- The kind of the first arc from the vertex without an equal mirror is that of the first arc without one.
  pub kind_here : (k : Kind) → first_vertex (arcs_named xs) ≡ Some vertex → (get_or xs i d).from ≡ vertex → mirror_kind (arcs_named xs) (arc_of (get_or xs i d)) ≡ Some k
      → All (λ a. a.from ≡ vertex → Contains (arcs_named xs) (turned a)) (take i (arcs_named xs)) → first_unmirrored (arcs_named xs) (arcs_named xs) ≡ Some (record { vertex = vertex; kind = k })
  kind_here k found own is before =
      let at = sym (named_at xs i d (arc_of d) below) in
      kind_is (arcs_named xs) (arcs_named xs) vertex i (arc_of d) k found (omega (arith, length-named xs)) (ap (λ (a : Arc). a.from) (sym at) ∙ own) (ap (λ (a : Arc). mirror_kind (arcs_named xs) a) (sym at) ∙ is) before

  pub mirrored_more : All (λ a. a.from ≡ vertex → Contains (arcs_named xs) (turned a)) (take i (arcs_named xs)) → ((get_or xs i d).from ≡ vertex → Contains (arcs_named xs) (turned (arc_of (get_or xs i d))))
      → All (λ a. a.from ≡ vertex → Contains (arcs_named xs) (turned a)) (take (i + 1) (arcs_named xs))
  mirrored_more before one =
      let P : Arc → Type 0 = λ a. a.from ≡ vertex → Contains (arcs_named xs) (turned a) in
      subst (λ (ls : List Arc). All P ls) (sym (named_more xs i d below)) (All-push P (take i (arcs_named xs)) (arc_of (get_or xs i d)) before one)

-- All arcs were looked at, and none from the vertex is without an equal mirror.
pub none_left : (xs : List NamedArc) (vertex i : ℕ) → length xs ≤ i → first_vertex (arcs_named xs) ≡ Some vertex → All (λ a. a.from ≡ vertex → Contains (arcs_named xs) (turned a)) (take i (arcs_named xs)) → ⊥
none_left xs vertex i past found all =
    none_at (arcs_named xs) (arcs_named xs) vertex found
    (subst (λ (ls : List Arc). All (λ a. a.from ≡ vertex → Contains (arcs_named xs) (turned a)) ls) (take_all i (arcs_named xs) (omega (arith, length-named xs))) all)

-- All arcs were entered.
pub all_entered : (xs : List NamedArc) (vertex i : ℕ) (weights : List ℕ) → length xs ≤ i → AreEntered vertex (arcs_named xs) (take i (arcs_named xs)) weights → AreWeightsTo vertex (arcs_named xs) weights
all_entered xs vertex i weights past entered = record {
  told = entered.told;
  each = subst (λ (ls : List Arc). All (λ a. a.to ≡ vertex → slice_index weights (a.from - 1) ≡ a.weight) ls) (take_all i (arcs_named xs) (omega (arith, length-named xs))) entered.each;
}
