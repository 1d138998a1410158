-- The arcs of a part, pushed place after place.
use Rattle.std.proofs.Common.{◌≡◌, ℕ, suc, ◌+◌, ◌-◌, ◌^◌, ◌<◌, ◌≤◌, List, [], ◌∷◌, ◌++◌, length, All, get_or, map, take, drop, refl, sym, ap, ◌∙◌, subst, arith}
use Rattle.std.specs.Prelude.{min, slice_index}
use Rattle.std.proofs.lemmas.List.{map-append, length-append, length-map, append_assoc, take_more, take_all}
use Rattle.std.proofs.lemmas.List.Elements.{All-map, All-append, All-take, All-drop, All-push}
use Rattle.pg_base.specs.Keyed.{row_of}
use Rattle.pg_adj.specs.declared.arcs.Arc.{Arc}
use Rattle.pg_adj.specs.Portions.{Portion, IsOwnArc}
use Rattle.pg_boruvka.specs.declared.arcs.DenseArc.{DenseArc}
use Rattle.pg_boruvka.specs.Parts.{LocalArc}
use Rattle.pg_boruvka.specs.Arcs.{local, locals, IsInTables}
use Rattle.pg_boruvka.specs.Portions.{local_of, arcs_below}

abbrev pub dense_of : ℕ → Arc → DenseArc
dense_of v a = record { from = v; to = a.to.0; weight = a.w; edge = a.edge }

-- Weights as they lie in memory.
abbrev pub AreSmall : List DenseArc → Type 0
AreSmall arcs = All (λ a. a.weight < 2 ^ 32) arcs

-- The first arcs of a row are pushed.
abbrev pub ArePushed : ℕ → List DenseArc → List DenseArc → List Arc → ℕ → Type 0
ArePushed v old now row i = now ≡ old ++ map (dense_of v) (take i row)

pub pushed_more : (v : ℕ) (old now : List DenseArc) (row : List Arc) (i : ℕ) (d : Arc) → i < length row → ArePushed v old now row i → ArePushed v old (now ++ dense_of v (get_or row i d) ∷ []) row (i + 1)
pushed_more v old now row i d h is =
    ap (λ (xs : List DenseArc). xs ++ dense_of v (get_or row i d) ∷ []) is
    ∙ append_assoc old (map (dense_of v) (take i row)) (dense_of v (get_or row i d) ∷ [])
    ∙ ap (λ (xs : List DenseArc). old ++ xs) (sym (ap (map (dense_of v)) (take_more row i d h) ∙ map-append (dense_of v) (take i row) (get_or row i d ∷ [])))

pub pushed_all : (v : ℕ) (old now : List DenseArc) (row : List Arc) (i : ℕ) → length row ≤ i → ArePushed v old now row i → now ≡ old ++ map (dense_of v) row
pushed_all v old now row i end is = is ∙ ap (λ (xs : List Arc). old ++ map (dense_of v) xs) (take_all i row end)

locals_of : (v : ℕ) (row : List Arc) → map local (map (dense_of v) row) ≡ map (local_of v) row
locals_of v [] = refl
locals_of v (a ∷ row) = ap (λ (xs : List LocalArc). local_of v a ∷ xs) (locals_of v row)

pub pushed_locals : (v : ℕ) (old now : List DenseArc) (row : List Arc) → now ≡ old ++ map (dense_of v) row → locals now ≡ locals old ++ map (local_of v) row
pushed_locals v old now row is = ap locals is ∙ map-append local old (map (dense_of v) row) ∙ ap (λ (xs : List LocalArc). locals old ++ xs) (locals_of v row)

-- What is so of all items is so of a row of them.
row_all : {X : Type 0} (P : X → Type 0) (bounds : List ℕ) (items : List X) (i : ℕ) → All P items → All P (row_of bounds items i)
row_all P bounds items i all = All-take P (slice_index bounds (i + 1) - slice_index bounds i) (drop (slice_index bounds i) items) (All-drop P (slice_index bounds i) items all)

pub pushed_ends : (p : Portion) (v place : ℕ) (old now : List DenseArc) (row : List Arc) → now ≡ old ++ map (dense_of v) row → row ≡ row_of p.bounds p.arcs place → v ≤ p.n → All (IsOwnArc p) row
    → (edges : ℕ) → All (λ a. a.edge < edges) p.arcs → All (IsInTables (p.n + 1) edges) old → All (IsInTables (p.n + 1) edges) now
pushed_ends p v place old now row is row_is last own edges below before =
    let small : All (λ (a : Arc). a.edge < edges) row = subst (All (λ (a : Arc). a.edge < edges)) (sym row_is) (row_all (λ (a : Arc). a.edge < edges) p.bounds p.arcs place below) in
    subst (All (IsInTables (p.n + 1) edges)) (sym is)
    (All-append (IsInTables (p.n + 1) edges) old (map (dense_of v) row) before
    (All-map (IsInTables (p.n + 1) edges) (dense_of v) row
    (λ k d h. record { from = omega (arith, last); to = let own_arc = own k d h in omega (arith, own_arc.last); edge = small k d h })))

-- The whole row of a place is pushed.
pub row_locals : (p : Portion) (v place i : ℕ) (old now : List DenseArc) (row : List Arc) → length row ≤ i → ArePushed v old now row i → v ≡ slice_index p.vertices place → row ≡ row_of p.bounds p.arcs place
    → locals now ≡ locals old ++ map (local_of (slice_index p.vertices place)) (row_of p.bounds p.arcs place)
row_locals p v place i old now row end is v_is row_is =
    pushed_locals v old now row (pushed_all v old now row i end is)
    ∙ ap (λ (x : ℕ). locals old ++ map (local_of x) row) v_is
    ∙ ap (λ (xs : List Arc). locals old ++ map (local_of (slice_index p.vertices place)) xs) row_is

-- The arcs of the first places are pushed.
pub record ArePlaced (p : Portion) (arcs : List DenseArc) (place : ℕ) : Type 0 where
  pub locals_of : locals arcs ≡ arcs_below p place
  pub ends : (edges : ℕ) → All (λ (a : Arc). a.edge < edges) p.arcs → All (IsInTables (p.n + 1) edges) arcs
  pub small : AreSmall arcs

pub placed_more : (p : Portion) (old now : List DenseArc) (place : ℕ) → ArePlaced p old place
    → locals now ≡ locals old ++ map (local_of (slice_index p.vertices place)) (row_of p.bounds p.arcs place)
    → ((edges : ℕ) → All (λ (a : Arc). a.edge < edges) p.arcs → All (IsInTables (p.n + 1) edges) old → All (IsInTables (p.n + 1) edges) now)
    → (AreSmall old → AreSmall now)
    → ArePlaced p now (place + 1)
placed_more p old now place is pushed ends small = record {
  locals_of = pushed ∙ ap (λ (xs : List LocalArc). xs ++ map (local_of (slice_index p.vertices place)) (row_of p.bounds p.arcs place)) is.locals_of
      ∙ (let next : suc place ≡ place + 1 = omega arith in ap (arcs_below p) next);
  ends = λ edges below. ends edges below (is.ends edges below);
  small = small is.small;
}

-- One place more has the arcs of its row more.
length_more : (p : Portion) (place : ℕ) → length (arcs_below p (place + 1)) ≡ length (arcs_below p place) + length (row_of p.bounds p.arcs place)
length_more p place =
    let next : place + 1 ≡ suc place = omega arith in
    let row : List Arc = row_of p.bounds p.arcs place in
    ap (λ (i : ℕ). length (arcs_below p i)) next
    ∙ length-append (arcs_below p place) (map (local_of (slice_index p.vertices place)) row)
    ∙ ap (λ (x : ℕ). length (arcs_below p place) + x) (length-map row (local_of (slice_index p.vertices place)))

pub counts_more : (p : Portion) (place count : ℕ) (row : List Arc) → count ≡ min (length (arcs_below p place)) (2 ^ 64 - 1) → row ≡ row_of p.bounds p.arcs place
    → min (count + length row) (2 ^ 64 - 1) ≡ min (length (arcs_below p (place + 1))) (2 ^ 64 - 1)
counts_more p place count row is row_is = omega (arith, is, ap (λ (xs : List Arc). length xs) row_is, length_more p place)

pub pushing_more : (v : ℕ) (old now new : List DenseArc) (arc : DenseArc) (row : List Arc) (i : ℕ) (d : Arc) → i < length row → arc ≡ dense_of v (get_or row i d) → arc.weight < 2 ^ 32 → new ≡ now ++ arc ∷ []
    → ArePushed v old now row i → (AreSmall old → AreSmall now) → record { pushed : ArePushed v old new row (i + 1); small : AreSmall old → AreSmall new }
pushing_more v old now new arc row i d h arc_is light pushed is small = record {
  pushed = pushed ∙ ap (λ (a : DenseArc). now ++ a ∷ []) arc_is ∙ pushed_more v old now row i d h is;
  small = λ before. subst AreSmall (sym pushed) (All-push (λ a. a.weight < 2 ^ 32) now arc (small before) light);
}
