-- Lines of vertices without a fault between them name each arc with its mirror, and as many as the header says.
use Rattle.std.proofs.Common.{◌≡◌, ℕ, ◌*◌, Bool, true, false, cond, ◌&&◌, eqb, Option, Some, None, List, [], ◌∷◌, length, refl, ◌∙◌, ap, subst, ⊎_elim, arith, Contains}
use Rattle.std.specs.Option.{option_map}
use Rattle.std.specs.List.{list_any}
use Rattle.std.proofs.lemmas.Bool.{and_from, and_parts, eq-eqb, eqb-true}
use Rattle.std.proofs.lemmas.List.Folds.{Any-from_list_any, list_any-from_Any}
use Rattle.pg_base.specs.Graph.{Arc}
use Rattle.pg_base.proofs.Members.{contains_cases, contains_first, contains_later}
use Rattle.pg_base.proofs.WalkLemmas.{turned}
use Rattle.pg_metis.specs.declared.faults.Kind.{Kind}
use Rattle.pg_metis.specs.declared.faults.Kind.TheVariants.{MirrorWeight, NoMirror, WrongCount}
use Rattle.pg_metis.specs.Content.{NumberedLine}
use Rattle.pg_metis.specs.File.{Header}
use Rattle.pg_metis.specs.Fault.{Fault, Unmirrored, first_unmirrored, is_mirror, mirror_fault, mirror_kind, named_arcs, number_of, pairs_fault}
use Rattle.pg_metis.proofs.HeaderFaults.{none_parts}

is_equal_mirror : Arc → Arc → Bool
is_equal_mirror a b = is_mirror a b && eqb b.weight a.weight

same_arc : (a b : Arc) → a.from ≡ b.from → a.to ≡ b.to → a.weight ≡ b.weight → a ≡ b
same_arc a b from to weight =
    ap (λ (x : ℕ). let c : Arc = record { from = x; to = a.to; weight = a.weight } in c) from ∙
    ap (λ (x : ℕ). let c : Arc = record { from = b.from; to = x; weight = a.weight } in c) to ∙
    ap (λ (x : ℕ). let c : Arc = record { from = b.from; to = b.to; weight = x } in c) weight

is_turned : (a b : Arc) → is_equal_mirror a b ≡ true → b ≡ turned a
unfolding is_equal_mirror
is_turned a b is =
    let parts = and_parts (is_mirror a b) (eqb b.weight a.weight) is in
    let ends = and_parts (eqb b.from a.to) (eqb b.to a.from) parts.0 in
    same_arc b (turned a) (eqb-true b.from a.to ends.0) (eqb-true b.to a.from ends.1) (eqb-true b.weight a.weight parts.1)

turned_is : (a : Arc) → is_equal_mirror a (turned a) ≡ true
unfolding is_equal_mirror
turned_is a =
    and_from (is_mirror a (turned a)) (eqb a.weight a.weight)
    (and_from (eqb a.to a.to) (eqb a.from a.from) (eq-eqb a.to a.to refl) (eq-eqb a.from a.from refl))
    (eq-eqb a.weight a.weight refl)

kind_cases : (b c : Bool) → cond b None (cond c (Some MirrorWeight) (Some NoMirror)) ≡ None → b ≡ true
kind_cases true c e = refl
kind_cases false true e = cc
kind_cases false false e = cc

mirror_of : (arcs : List Arc) (a : Arc) → mirror_kind arcs a ≡ None → Contains arcs (turned a)
unfolding is_equal_mirror
mirror_of arcs a none =
    let any = Any-from_list_any (is_equal_mirror a) arcs (kind_cases (list_any (is_equal_mirror a) arcs) (list_any (is_mirror a) arcs) none) in
    subst (Contains arcs) (is_turned a any.1 any.4) (any.0, any.2, any.3)

mirror_passes : (arcs : List Arc) (a : Arc) → Contains arcs (turned a) → mirror_kind arcs a ≡ None
unfolding is_equal_mirror
mirror_passes arcs a c =
    let found : list_any (is_equal_mirror a) arcs ≡ true = list_any-from_Any (is_equal_mirror a) arcs (c.0, turned a, c.1, c.2, turned_is a) in
    rw found refl

no_kind : (a : Arc) (o : Option Kind) → option_map (λ kind. (let u : Unmirrored = record { vertex = a.from; kind = kind } in u)) o ≡ None → o ≡ None
no_kind a None e = refl
no_kind a (Some kind) e = cc

all_mirrored : (arcs later : List Arc) → first_unmirrored arcs later ≡ None → (a : Arc) → Contains later a → Contains arcs (turned a)
all_mirrored arcs [] none a c = absurd (omega (arith, c.1))
all_mirrored arcs (b ∷ later) none a c =
    let parts = none_parts _ (first_unmirrored arcs later) none in
    ⊎_elim
    (λ same. subst (λ (x : Arc). Contains arcs (turned x)) same (mirror_of arcs b (no_kind b (mirror_kind arcs b) parts.0)))
    (λ among. all_mirrored arcs later parts.1 a among)
    (contains_cases b later a c)

none_unmirrored : (arcs later : List Arc) → ((a : Arc) → Contains later a → Contains arcs (turned a)) → first_unmirrored arcs later ≡ None
none_unmirrored arcs [] mirrored = refl
none_unmirrored arcs (b ∷ later) mirrored =
    let here = mirror_passes arcs b (mirrored b (contains_first b later)) in
    let rest = none_unmirrored arcs later (λ a c. mirrored a (contains_later b later a c)) in
    rw (here, rest) refl

-- Each arc is there in both directions, and there are as many as the header says.
pub record ArePaired (m : ℕ) (arcs : List Arc) : Type 0 where
  pub count : length arcs ≡ 2 * m
  pub mirrored : (a : Arc) → Contains arcs a → Contains arcs (turned a)

no_mirror_fault : (rows : List NumberedLine) (o : Option Unmirrored) → option_map (λ u. (let f : Fault = record { line = number_of rows u.vertex; kind = u.kind } in f)) o ≡ None → o ≡ None
no_mirror_fault rows None e = refl
no_mirror_fault rows (Some u) e = cc

pairs_cases : (b : Bool) (o : Option Fault) (number : ℕ) → cond b o (Some (record { line = number; kind = WrongCount })) ≡ None → (b ≡ true) × (o ≡ None)
pairs_cases true o number e = (refl, e)
pairs_cases false o number e = cc

pub pairs_none : (header : Header) (number : ℕ) (rows : List NumberedLine) → pairs_fault header number rows ≡ None → ArePaired header.m (named_arcs header.format 1 rows)
unfolding pairs_fault
pairs_none header number rows none =
    let arcs = named_arcs header.format 1 rows in
    let parts = pairs_cases (eqb (length arcs) (2 * header.m)) (mirror_fault rows arcs) number none in
    record {
      count = eqb-true (length arcs) (2 * header.m) parts.0;
      mirrored = all_mirrored arcs arcs (no_mirror_fault rows (first_unmirrored arcs arcs) parts.1);
    }

pub pairs_pass : (header : Header) (number : ℕ) (rows : List NumberedLine) → ArePaired header.m (named_arcs header.format 1 rows) → pairs_fault header number rows ≡ None
unfolding pairs_fault
pairs_pass header number rows are =
    let arcs = named_arcs header.format 1 rows in
    let count : eqb (length arcs) (2 * header.m) ≡ true = eq-eqb (length arcs) (2 * header.m) are.count in
    let none = none_unmirrored arcs arcs are.mirrored in
    rw (count, none) refl
