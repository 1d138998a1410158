-- Which arcs have equal mirrors, and which is the first that has none.
use Rattle.std.proofs.Common.{◌≡◌, ◌==◌, ◌&&◌, ℕ, zero, suc, ◌<◌, ◌≤◌, ◌∙◌, Bool, true, false, cond, Option, Some, None, List, [], ◌∷◌, length, get_or, take, ⊎_elim, refl, ap, subst, arith, All, AllPairs, Contains}
use Rattle.std.specs.Option.{option_map, option_or}
use Rattle.std.specs.List.{list_any}
use Rattle.std.proofs.lemmas.Bool.{cases_Bool, cases_lt, eqb-true, eq-eqb, and_parts, and_from, cond-true, cond-false}
use Rattle.std.proofs.lemmas.List.Elements.{All-tail, All-head}
use Rattle.std.proofs.lemmas.List.Folds.{Any-from_list_any, list_any-from_Any}
use Rattle.pg_base.specs.Graph.{Arc}
use Rattle.pg_base.proofs.Members.{contains_cases}
use Rattle.pg_metis.specs.declared.faults.Kind.{Kind}
use Rattle.pg_metis.specs.declared.faults.Kind.TheVariants.{NoMirror, MirrorWeight}
use Rattle.pg_metis.specs.Fault.{Unmirrored, first_unmirrored, is_mirror, mirror_kind}
use Rattle.pg_metis.specs.Mirrors.{turned, first_vertex}

pub same_arc : (a b : Arc) → a.from ≡ b.from → a.to ≡ b.to → a.weight ≡ b.weight → a ≡ b
same_arc a b from to weight = λ k. record { from = from k; to = to k; weight = weight k }

-- A test that an element passes tells one, and one that passes is told.
some_passes : {X : Type 0} (p : X → Bool) (xs : List X) (x : X) → Contains xs x → p x ≡ true → list_any p xs ≡ true
some_passes p xs x among is = list_any-from_Any p xs (among.0, x, among.1, among.2, is)

mirror_is : (a b : Arc) → is_mirror a b ≡ true → (b.from ≡ a.to) × (b.to ≡ a.from)
mirror_is a b is = let parts = and_parts (b.from == a.to) (b.to == a.from) is in (eqb-true b.from a.to parts.0, eqb-true b.to a.from parts.1)

is_mirror_from : (a b : Arc) → b.from ≡ a.to → b.to ≡ a.from → is_mirror a b ≡ true
is_mirror_from a b from to = and_from (b.from == a.to) (b.to == a.from) (eq-eqb b.from a.to from) (eq-eqb b.to a.from to)

equal_is : (a b : Arc) → (is_mirror a b && b.weight == a.weight) ≡ true → b ≡ turned a
equal_is a b is =
    let parts = and_parts (is_mirror a b) (b.weight == a.weight) is in
    let ends = mirror_is a b parts.0 in
    same_arc b (turned a) ends.0 ends.1 (eqb-true b.weight a.weight parts.1)

abbrev has_equal : List Arc → Arc → Bool
has_equal arcs a = list_any (λ b. is_mirror a b && b.weight == a.weight) arcs

has_equal_from : (arcs : List Arc) (a : Arc) → Contains arcs (turned a) → has_equal arcs a ≡ true
has_equal_from arcs a among =
    some_passes (λ (b : Arc). is_mirror a b && b.weight == a.weight) arcs (turned a) among
    (and_from (is_mirror a (turned a)) (a.weight == a.weight) (is_mirror_from a (turned a) refl refl) (eq-eqb a.weight a.weight refl))

equal_found : (arcs : List Arc) (a : Arc) → has_equal arcs a ≡ true → Contains arcs (turned a)
equal_found arcs a is =
    let found = Any-from_list_any (λ (b : Arc). is_mirror a b && b.weight == a.weight) arcs is in
    subst (λ (b : Arc). Contains arcs b) (equal_is a found.1 found.4) (found.0, found.2, found.3)

mirror_found : (arcs : List Arc) (a : Arc) → list_any (is_mirror a) arcs ≡ true → (b : Arc) × Contains arcs b × (b.from ≡ a.to) × (b.to ≡ a.from)
mirror_found arcs a is =
    let found = Any-from_list_any (λ (b : Arc). is_mirror a b) arcs is in
    let ends = mirror_is a found.1 found.4 in
    (found.1, (found.0, found.2, found.3), ends.0, ends.1)

pub kind_none : (arcs : List Arc) (a : Arc) → Contains arcs (turned a) → mirror_kind arcs a ≡ None
kind_none arcs a among = cond-true (has_equal arcs a) None (cond (list_any (is_mirror a) arcs) (Some MirrorWeight) (Some NoMirror)) (has_equal_from arcs a among)

pub kind_weight : (arcs : List Arc) (a b : Arc) → Contains arcs b → b.from ≡ a.to → b.to ≡ a.from → (Contains arcs (turned a) → ⊥) → mirror_kind arcs a ≡ Some MirrorWeight
kind_weight arcs a b among from to none =
    ⊎_elim
    (λ is. absurd (none (equal_found arcs a is)))
    (λ is. cond-false (has_equal arcs a) None (cond (list_any (is_mirror a) arcs) (Some MirrorWeight) (Some NoMirror)) is
    ∙ cond-true (list_any (is_mirror a) arcs) (Some MirrorWeight) (Some NoMirror) (some_passes (is_mirror a) arcs b among (is_mirror_from a b from to)))
    (cases_Bool (has_equal arcs a))

pub kind_missing : (arcs : List Arc) (a : Arc) → ((b : Arc) → Contains arcs b → b.from ≡ a.to → b.to ≡ a.from → ⊥) → mirror_kind arcs a ≡ Some NoMirror
kind_missing arcs a none =
    ⊎_elim
    (λ is. absurd (none (turned a) (equal_found arcs a is) refl refl))
    (λ is. cond-false (has_equal arcs a) None (cond (list_any (is_mirror a) arcs) (Some MirrorWeight) (Some NoMirror)) is
    ∙ ⊎_elim
    (λ some. let found = mirror_found arcs a some in absurd (none found.0 found.1 found.2 found.3))
    (λ no_one. cond-false (list_any (is_mirror a) arcs) (Some MirrorWeight) (Some NoMirror) no_one)
    (cases_Bool (list_any (is_mirror a) arcs)))
    (cases_Bool (has_equal arcs a))

no_kind : (arcs : List Arc) (a : Arc) (b : Bool) → has_equal arcs a ≡ b → (c : Bool) → cond b None (cond c (Some MirrorWeight) (Some NoMirror)) ≡ None → Contains arcs (turned a)
no_kind arcs a true is c none = equal_found arcs a is
no_kind arcs a false is true none = cc
no_kind arcs a false is false none = cc

pub mirrored_from : (arcs : List Arc) (a : Arc) → mirror_kind arcs a ≡ None → Contains arcs (turned a)
mirrored_from arcs a none = no_kind arcs a (has_equal arcs a) refl (list_any (is_mirror a) arcs) none

-- The first of these arcs that has no equal mirror, where the first one's kind is known.
abbrev first_or : Arc → Option Kind → Option Unmirrored → Option Unmirrored
first_or a kind rest = option_or (option_map (λ kind. record { vertex = a.from; kind = kind }) kind) rest

abbrev vertex_of : Option Unmirrored → Option ℕ
vertex_of found = option_map (λ found. found.vertex) found

pub unmirrored_none : (arcs later : List Arc) → All (λ a. Contains arcs (turned a)) later → first_unmirrored arcs later ≡ None
unmirrored_none arcs [] all = refl
unmirrored_none arcs (a ∷ later) all =
    ap (λ (k : Option Kind). first_or a k (first_unmirrored arcs later)) (kind_none arcs a (All-head (λ b. Contains arcs (turned b)) a later all))
    ∙ unmirrored_none arcs later (All-tail (λ b. Contains arcs (turned b)) a later all)

no_first : (a : Arc) (kind : Option Kind) (rest : Option Unmirrored) → first_or a kind rest ≡ None → (kind ≡ None) × (rest ≡ None)
no_first a None rest none = (refl, none)
no_first a (Some k) rest none = cc

all_head : (P : Arc → Type 0) (a : Arc) (later : List Arc) → P a → All P later → All P (a ∷ later)
all_head P a later here rest zero d below = here
all_head P a later here rest (suc i) d below = rest i d (omega arith)

pub all_mirrored : (arcs later : List Arc) → first_unmirrored arcs later ≡ None → All (λ a. Contains arcs (turned a)) later
all_mirrored arcs [] none = λ i d below. absurd (omega arith)
all_mirrored arcs (a ∷ later) none =
    let parts = no_first a (mirror_kind arcs a) (first_unmirrored arcs later) none in
    all_head (λ b. Contains arcs (turned b)) a later (mirrored_from arcs a parts.0) (all_mirrored arcs later parts.1)

first_step : (arcs later : List Arc) (u : ℕ) (b : Arc) (kind : Option Kind) → mirror_kind arcs b ≡ kind → (b.from < u → Contains arcs (turned b)) → b.from ≤ u
    → (mirror_kind arcs b ≡ None → vertex_of (first_unmirrored arcs later) ≡ Some u) → vertex_of (first_or b kind (first_unmirrored arcs later)) ≡ Some u
first_step arcs later u b None is before least rest = rest is
first_step arcs later u b (Some k) is before least rest =
    ⊎_elim
    (λ less. let none = kind_none arcs b (before less) in cc)
    (λ same. let here : b.from ≡ u = omega arith in ap (λ (v : ℕ). Some v) here)
    (cases_lt b.from u)

-- Where the arcs ascend and those from lesser vertices have equal mirrors, an arc from u that has none shows that u is the vertex of the first one.
pub first_vertex_is : (arcs later : List Arc) (u : ℕ) (a : Arc) → AllPairs (λ a b. a.from ≤ b.from) later → All (λ b. b.from < u → Contains arcs (turned b)) later → Contains later a → a.from ≡ u → (Contains arcs (turned a) → ⊥)
    → option_map (λ found. found.vertex) (first_unmirrored arcs later) ≡ Some u
first_vertex_is arcs [] u a ascending before among own none = absurd (let b = among.1 in omega arith)
first_vertex_is arcs (b ∷ later) u a ascending before among own none =
    let cases = contains_cases b later a among in
    first_step arcs later u b (mirror_kind arcs b) refl (All-head (λ c. c.from < u → Contains arcs (turned c)) b later before)
    (⊎_elim
    (λ same. let here : b.from ≡ a.from = ap (λ (c : Arc). c.from) same in omega arith)
    (λ rest. let first : b.from ≤ (get_or later rest.0 a).from = ascending zero (suc rest.0) a (omega arith) (let within = rest.1 in omega arith) in
    let there : (get_or later rest.0 a).from ≡ a.from = ap (λ (c : Arc). c.from) rest.2 in omega arith)
    cases)
    (λ kind. first_vertex_is arcs later u a (λ i j d less within. ascending (suc i) (suc j) d (omega arith) (omega arith)) (All-tail (λ c. c.from < u → Contains arcs (turned c)) b later before)
    (⊎_elim (λ same. absurd (none (subst (λ (c : Arc). Contains arcs (turned c)) same (mirrored_from arcs b kind)))) (λ rest. rest) cases) own none)

passed_step : (arcs later : List Arc) (v : ℕ) (b : Arc) (kind : Option Kind) → mirror_kind arcs b ≡ kind → (b.from ≡ v → Contains arcs (turned b)) → vertex_of (first_or b kind (first_unmirrored arcs later)) ≡ Some v
    → (first_or b kind (first_unmirrored arcs later) ≡ first_unmirrored arcs later) × (vertex_of (first_unmirrored arcs later) ≡ Some v)
passed_step arcs later v b None is mirrored found = (refl, found)
passed_step arcs later v b (Some k) is mirrored found =
    let here : b.from ≡ v = cc in
    let none = kind_none arcs b (mirrored here) in cc

pub kind_is : (arcs later : List Arc) (v i : ℕ) (d : Arc) (k : Kind) → option_map (λ found. found.vertex) (first_unmirrored arcs later) ≡ Some v → i < length later → (get_or later i d).from ≡ v → mirror_kind arcs (get_or later i d) ≡ Some k
    → All (λ b. b.from ≡ v → Contains arcs (turned b)) (take i later) → first_unmirrored arcs later ≡ Some (record { vertex = v; kind = k })
kind_is arcs [] v i d k found below own is before = absurd (omega arith)
kind_is arcs (b ∷ later) v zero d k found below own is before =
    ap (λ (kind : Option Kind). first_or b kind (first_unmirrored arcs later)) is ∙ ap (λ (w : ℕ). Some (let u : Unmirrored = record { vertex = w; kind = k } in u)) own
kind_is arcs (b ∷ later) v (suc i) d k found below own is before =
    let step = passed_step arcs later v b (mirror_kind arcs b) refl (All-head (λ c. c.from ≡ v → Contains arcs (turned c)) b (take i later) before) found in
    step.0 ∙ kind_is arcs later v i d k step.1 (omega arith) own is (All-tail (λ c. c.from ≡ v → Contains arcs (turned c)) b (take i later) before)

pub none_at : (arcs later : List Arc) (v : ℕ) → option_map (λ found. found.vertex) (first_unmirrored arcs later) ≡ Some v → All (λ b. b.from ≡ v → Contains arcs (turned b)) later → ⊥
none_at arcs [] v found all = cc
none_at arcs (b ∷ later) v found all =
    let step = passed_step arcs later v b (mirror_kind arcs b) refl (All-head (λ c. c.from ≡ v → Contains arcs (turned c)) b later all) found in
    none_at arcs later v step.1 (All-tail (λ c. c.from ≡ v → Contains arcs (turned c)) b later all)

-- All arcs have equal mirrors exactly where there is no first vertex.
pub no_vertex : (arcs : List Arc) → All (λ a. Contains arcs (turned a)) arcs → first_vertex arcs ≡ None
no_vertex arcs all = ap (λ (f : Option Unmirrored). vertex_of f) (unmirrored_none arcs arcs all)

no_found : (found : Option Unmirrored) → vertex_of found ≡ None → found ≡ None
no_found None none = refl
no_found (Some u) none = cc

pub all_from_no_vertex : (arcs : List Arc) → first_vertex arcs ≡ None → All (λ a. Contains arcs (turned a)) arcs
all_from_no_vertex arcs none = all_mirrored arcs arcs (no_found (first_unmirrored arcs arcs) none)
