-- What a rank finds of a vertex's neighbours in its own map.
use Rattle.std.proofs.Common.{◌≡◌, ◌≢◌, ◌⊎◌, inl, inr, ℕ, zero, suc, ◌+◌, ◌-◌, ◌<◌, ◌≤◌, max, List, [], ◌∷◌, ◌++◌, Option, Some, None, get_or, length, take, slice_get, refl, sym, ap, ◌∙◌, subst, arith, Contains, All, AllPairs, length-append}
use Rattle.std.specs.Option.{unwrap_or}
use Rattle.std.specs.Prelude.{slice_index, slice_index_or}
use Rattle.std.proofs.lemmas.Bool.{cases_eq, cases_lt}
use Rattle.std.proofs.lemmas.List.{get_or_append_left, get_or_push}
use Rattle.std.proofs.lemmas.List.Elements.{All-contains, Contains-append_left, Contains-get_or, Contains-push, Contains-push_cases}
use Rattle.std.proofs.lemmas.Option.{same_Some, slice_get_read}
use Rattle.pg_base.specs.Colouring.{AreJoined, degree}
use Rattle.pg_base.specs.Graph.{Graph}
use Rattle.pg_base.specs.Keyed.{row_of}
use Rattle.pg_dist.specs.Sharing.{Sharing, IsSharing}
use Rattle.pg_adj.specs.declared.arcs.Arc.{Arc}
use Rattle.pg_adj.specs.declared.arcs.Ghost.{Ghost}
use Rattle.pg_adj.specs.Portions.{IsPortion, Portion}
use Rattle.pg_adj.proofs.MirrorLists.{Contains-at, same_index}
use Rattle.pg_cells.specs.Shown.{state_of}
use Rattle.pg_cells.specs.States.{CellState, IsKnown, IsValueOf}
use Rattle.pg_uses.specs.declared.neighbours.NeighbourDegrees.{NeighbourDegrees}
use Rattle.pg_uses.specs.Greatest.{IsGreatest}
use Rattle.pg_uses.specs.MapRuns.{HoldsDegrees, KnowsNeighbours}
use Rattle.pg_uses.specs.Neighbours.{IsNeighbourDegree}
use Rattle.pg_uses.specs.DegreeMaps.{HasNeighbours, IsValueBeside, LeadsTo}
use Rattle.pg_uses.specs.Synchronizing.{part_in}
use Rattle.pg_uses.proofs.Greatests.{greatest_alike, greatest_more}

-- ---- the value of a vertex

-- No ghost is an own vertex.
apart : (part : Portion) → IsPortion part → (v : ℕ) (g : Ghost) (place slot : ℕ) → slice_get part.vertices place ≡ Some v → slice_get part.ghosts slot ≡ Some g → g.vertex.0 ≡ v → ⊥
apart part portion v g place slot own held same =
    let others = All-contains (λ (g : Ghost). All (λ v. v ≢ g.vertex.0) part.vertices) part.ghosts g portion.apart (Contains-at part.ghosts slot g held) in
    All-contains (λ v. v ≢ g.vertex.0) part.vertices v others (Contains-at part.vertices place v own) (sym same)

-- A vertex has one cell.
pub one_value : (c : CellState) → IsPortion c.part → (v : ℕ) (a b : Option ℕ) → IsValueOf c v a → IsValueOf c v b → a ≡ b
one_value c portion v a b (inl (i, at_i, is_a)) (inl (k, at_k, is_b)) =
    let same = same_index (λ v w. v < w) c.part.vertices portion.vertices_ascend i k v v at_i at_k (λ h. omega (arith, h)) (λ h. omega (arith, h)) in
    is_a ∙ (ap (λ j. Some (slice_index c.own j)) same ∙ sym is_b)
one_value c portion v a b (inr (i, (g, at_i, g_is), is_a)) (inr (k, (h, at_k, h_is), is_b)) =
    let same = same_index (λ (x y : Ghost). x.vertex.0 < y.vertex.0) c.part.ghosts portion.ghosts_ascend i k g h at_i at_k (λ l. omega (arith, l, g_is, h_is)) (λ l. omega (arith, l, g_is, h_is)) in
    is_a ∙ (ap (λ j. slice_index_or c.ghosts j None) same ∙ sym is_b)
one_value c portion v a b (inl (i, at_i, is_a)) (inr (k, (h, at_k, h_is), is_b)) =
    absurd (apart c.part portion v h i k at_i at_k h_is)
one_value c portion v a b (inr (i, (g, at_i, g_is), is_a)) (inl (k, at_k, is_b)) =
    absurd (apart c.part portion v g k i at_k at_i g_is)

-- A vertex that has a cell has a value, or its ghost was emptied.
valued : (c : CellState) (v : ℕ) → IsKnown c.part v → (value : Option ℕ) × IsValueOf c v value
valued c v (inl own) = (Some (slice_index c.own own.0), inl (own.0, own.1, refl))
valued c v (inr held) = (slice_index_or c.ghosts held.0 None, inr (held.0, held.1, refl))

-- ---- the greatest of a row

-- The end of one of these arcs has this value.
abbrev pub IsValueAmong : List Arc → CellState → ℕ → Type 0
IsValueAmong arcs c x = (arc : Arc) × Contains arcs arc × IsValueOf c arc.to.0 (Some x)

pub no_value : (c : CellState) → IsGreatest (IsValueAmong [] c) 0
no_value c = record { bounds = λ y among. absurd (omega (arith, among.1.1)); reached = inl refl }

take_more : {X : Type 0} (xs : List X) (k : ℕ) (x : X) → slice_get xs k ≡ Some x → take (suc k) xs ≡ take k xs ++ x ∷ []
take_more [] k x at = absurd (cc at)
take_more (y ∷ xs) zero x at = ap (λ z. z ∷ []) (same_Some _ _ at)
take_more (y ∷ xs) (suc k) x at = ap (λ l. y ∷ l) (take_more xs k x at)

-- A value, or 0 where there is none.
pub unwrapped : (value : Option ℕ) (x : ℕ) → x ≡ unwrap_or value 0 → ((value ≡ None) × (x ≡ 0)) ⊎ (value ≡ Some x)
unwrapped None x is = inl (refl, is)
unwrapped (Some y) x is = inr (ap Some (sym is))

abbrev pub no_arc : Arc
no_arc = record { to = record { 0 = 0 }; home = record { 0 = 0 }; place = 0; w = 0; edge = 0 }

-- One more arc's end is looked at.
pub one_more_value : (c : CellState) → IsPortion c.part → (arcs : List Arc) (k : ℕ) (arc : Arc) (greatest x : ℕ) (value : Option ℕ) → slice_get arcs k ≡ Some arc → IsValueOf c arc.to.0 value
    → ((value ≡ None) × (x ≡ 0)) ⊎ (value ≡ Some x) → IsGreatest (IsValueAmong (take k arcs) c) greatest → IsGreatest (IsValueAmong (take (k + 1) arcs) c) (max greatest x)
one_more_value c portion arcs k arc greatest x value at is what so_far =
    let next : suc k ≡ k + 1 = omega arith in
    subst (λ j. IsGreatest (IsValueAmong (take j arcs) c) (max greatest x)) next (subst (λ l. IsGreatest (IsValueAmong l c) (max greatest x)) (sym (take_more arcs k arc at)) (elim what [
      | inl none ↦ subst (IsGreatest (IsValueAmong (take k arcs ++ arc ∷ []) c)) (omega (arith, none.1))
          (greatest_alike (IsValueAmong (take k arcs) c) (IsValueAmong (take k arcs ++ arc ∷ []) c) greatest there
          (λ y among. elim (back y among) [ inl old ↦ old | inr new ↦ absurd (no_some y (sym (one_value c portion arc.to.0 value (Some y) is new) ∙ none.0)) ])
          so_far)
      | inr some ↦
          greatest_more (IsValueAmong (take k arcs) c) (IsValueAmong (take k arcs ++ arc ∷ []) c) greatest x there
          (λ y among. elim (back y among) [ inl old ↦ inl old | inr new ↦ inr (same_Some _ _ (one_value c portion arc.to.0 (Some y) value new is ∙ some)) ])
          (arc, Contains-push (take k arcs) arc, subst (IsValueOf c arc.to.0) some is) so_far
    ]))
  where
    there : (y : ℕ) → IsValueAmong (take k arcs) c y → IsValueAmong (take k arcs ++ arc ∷ []) c y
    there y among = (among.0, Contains-append_left (take k arcs) (arc ∷ []) among.0 among.1, among.2)

    back : (y : ℕ) → IsValueAmong (take k arcs ++ arc ∷ []) c y → IsValueAmong (take k arcs) c y ⊎ IsValueOf c arc.to.0 (Some y)
    back y among = elim (Contains-push_cases (take k arcs) arc among.0 among.1) [
      | inl old ↦ inl (among.0, old, among.2)
      | inr new ↦ inr (subst (λ (a : Arc). IsValueOf c a.to.0 (Some y)) (sym new) among.2)
    ]

    no_some : (y : ℕ) → Some y ≡ None → ⊥
    no_some y h = cc h

take_all : {X : Type 0} (xs : List X) (k : ℕ) → length xs ≤ k → take k xs ≡ xs
take_all [] zero h = refl
take_all [] (suc k) h = refl
take_all (x ∷ xs) zero h = absurd (omega (arith, h))
take_all (x ∷ xs) (suc k) h = ap (λ l. x ∷ l) (take_all xs k (omega (arith, h)))

pub all_values : (part : Portion) (c : CellState) (place k x : ℕ) (arcs : List Arc) → arcs ≡ row_of part.bounds part.arcs place → length arcs ≤ k
    → IsGreatest (IsValueAmong (take k arcs) c) x → IsGreatest (IsValueBeside part c place) x
all_values part c place k x arcs row all is =
    greatest_alike (IsValueAmong (take k arcs) c) (IsValueBeside part c place) x
    (λ y among. (among.0.to.0, (among.0, subst (λ l. Contains l among.0) (take_all arcs k all ∙ row) among.1, refl), among.2))
    (λ y beside. (
      beside.1.0,
      subst (λ l. Contains l beside.1.0) (sym (take_all arcs k all ∙ row)) beside.1.1,
      subst (λ w. IsValueOf c w (Some y)) (sym beside.1.2) beside.2,
    )) is

-- ---- what it means for the graph

-- The greatest value beside a vertex is the greatest degree among its neighbours.
pub answers_for : (s : Sharing) (laws : IsSharing s) (g : Graph) (p : NeighbourDegrees) (v x : ℕ) → 1 ≤ v → v ≤ s.n → KnowsNeighbours s g (s.owner v) (part_in p) → HoldsDegrees g p
    → IsGreatest (IsValueBeside (part_in p) (state_of p.cells) (s.local v)) x → IsGreatest (IsNeighbourDegree g v) x
answers_for s laws g p v x first last knows holds is =
    let place = s.local v in
    let low : place < s.count (s.owner v) = laws.local_below v first last in
    let below : place < length (part_in p).vertices = omega (arith, low, knows.count) in
    let own : slice_index (part_in p).vertices place ≡ v = knows.vertex place low ∙ laws.global_of_local v first last in
    greatest_alike (IsValueBeside (part_in p) (state_of p.cells) place) (IsNeighbourDegree g v) x
    (λ y beside. record {
      neighbour = beside.0;
      joined = subst (λ u. AreJoined g.edges u beside.0) own ((knows.joined place beside.0 below).0 beside.1);
      has = sym (same_Some _ _ (holds beside.0 (Some y) beside.2));
    })
    (λ y d.
    let leads = (knows.joined place d.neighbour below).1 (subst (λ u. AreJoined g.edges u d.neighbour) (sym own) d.joined) in
    let known : IsKnown (state_of p.cells).part d.neighbour = subst (λ (t : Portion). IsKnown t d.neighbour) (sym p.same_part) (knows.known place below d.neighbour leads) in
    let value = valued (state_of p.cells) d.neighbour known in
    (d.neighbour, leads, subst (IsValueOf (state_of p.cells) d.neighbour) (holds d.neighbour value.0 value.1 ∙ ap Some d.has) value.1))
    is

-- ---- the answers by vertex

-- The program of a vertex's owner.
pub owner_program : (s : Sharing) (laws : IsSharing s) (programs : List NeighbourDegrees) (v owner : ℕ) (p : NeighbourDegrees) → 1 ≤ v → v ≤ s.n → length programs ≡ s.ranks → owner ≡ s.owner v → p ≡ get_or programs owner p
    → slice_get programs (s.owner v) ≡ Some p
owner_program s laws programs v owner p first last count is at =
    subst (λ o. slice_get programs o ≡ Some p) is (slice_get_read programs (length programs) owner p refl (omega (arith, laws.owner_is_rank v first last, count, is)) at)

-- The numbers of the first vertices.
pub record AreFirst (g : Graph) (count : ℕ) (degrees : List ℕ) : Type 0 where
  pub long : length degrees ≡ count
  pub greatest : (v : ℕ) → 1 ≤ v → v ≤ count → IsGreatest (IsNeighbourDegree g v) (slice_index degrees (v - 1))

pub none_first : (g : Graph) → AreFirst g 0 []
none_first g = record { long = refl; greatest = λ v low high. absurd (omega (arith, low, high)) }

pub one_more_first : (g : Graph) (count x : ℕ) (degrees more : List ℕ) → more ≡ degrees ++ x ∷ [] → IsGreatest (IsNeighbourDegree g (count + 1)) x → AreFirst g count degrees → AreFirst g (count + 1) more
one_more_first g count x degrees more grown is before = subst (AreFirst g (count + 1)) (sym grown) (record {
  long = omega (arith, length-append degrees (x ∷ []), before.long);
  greatest = λ v low high. elim (cases_eq v (count + 1)) [
    | inl same ↦
        let last : slice_index (degrees ++ x ∷ []) (v - 1) ≡ x = get_or_push degrees x 0 (v - 1) (omega (arith, before.long, same)) in
        subst (λ y. IsGreatest (IsNeighbourDegree g v) y) (sym last) (subst (λ u. IsGreatest (IsNeighbourDegree g u) x) (sym same) is)
    | inr other ↦
        let old : slice_index (degrees ++ x ∷ []) (v - 1) ≡ slice_index degrees (v - 1) = get_or_append_left degrees (x ∷ []) 0 (v - 1) (omega (arith, before.long, low, high, other)) in
        subst (IsGreatest (IsNeighbourDegree g v)) (sym old) (before.greatest v low (omega (arith, high, other)))
  ];
})

-- The end of an arc of the row has a cell.
pub beside_known : (part held : Portion) (place k : ℕ) (none : Arc) (arcs : List Arc) → held ≡ part → arcs ≡ row_of part.bounds part.arcs place → k < length arcs → HasNeighbours part place → IsKnown held (slice_index_or arcs k none).to.0
beside_known part held place k none arcs same row below known =
    let arc = slice_index_or arcs k none in
    subst (λ (t : Portion). IsKnown t arc.to.0) (sym same) (known arc.to.0 (arc, subst (λ l. Contains l arc) row (Contains-get_or arcs k none below), refl))
