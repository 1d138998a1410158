-- The edges that are drawn for ends in ascending order ascend, so that a grid is a graph.
use Rattle.std.proofs.Common.{◌≡◌, ℕ, ◌+◌, ◌*◌, ◌/◌, ◌%◌, ◌<◌, ◌≤◌, ◌==◌, Bool, true, false, ◌^◌, if◌then◌else◌, List, [], ◌∷◌, ◌++◌, length, get_or, zero, suc, refl, sym, ap, ◌∙◌, arith, All, AllPairs, subst, ⊎_elim, append_assoc, nat_lt, ◌-◌}
use Rattle.std.proofs.lemmas.Bool.{cases_lt}
use Rattle.std.proofs.lemmas.Bool.Decides.{nat_tests}
use Rattle.std.proofs.lemmas.List.{append-nil, length-append}
use Rattle.std.proofs.lemmas.List.Elements.{All-nil, All-cons}
use Rattle.std.proofs.lemmas.List.Kept.{AllPairs-cons}
use Rattle.std.proofs.lemmas.Nat.{div-add-mod'}
use Rattle.std.proofs.Math.Nat.{mul-le-mul_right}
use Rattle.pg_base.specs.Graph.{IsEdge, Precedes}
use Rattle.pg_base.specs.declared.edges.Edge.{Edge}
use Rattle.pg_make.specs.Grid.{next, draw_of, kept, drawn, neighbours, ends_after, grid_of, GridsAreGraphs, GridWeightsAreSmall}
use Rattle.pg_make.specs.declared.TheConstants.{MAX_GRID_WEIGHT}

-- The edge comes after (u, v).
pub record Follows (u v : ℕ) (e : Edge) : Type 0 where
  pub first : u ≤ e.u
  pub second : u ≡ e.u → v < e.v

-- Edges of a graph of n vertices that ascend from after (u, v).
pub record Ascends (n u v : ℕ) (es : List Edge) : Type 0 where
  pub within : All (IsEdge n) es
  pub ascending : AllPairs Precedes es
  pub after : All (Follows u v) es
  pub positive : All (λ e. 1 ≤ e.w) es
  pub weights : All (λ e. e.w ≤ MAX_GRID_WEIGHT) es

none : (n u v : ℕ) → Ascends n u v []
none n u v = record {
  within = All-nil (IsEdge n);
  ascending = λ i j d lt within. absurd (omega arith);
  after = All-nil (Follows u v);
  positive = All-nil (λ e. 1 ≤ e.w);
  weights = All-nil (λ e. e.w ≤ MAX_GRID_WEIGHT);
}

-- From an earlier start.
earlier : (n u v a b : ℕ) (es : List Edge) → a ≤ u → (a ≡ u → b ≤ v) → Ascends n u v es → Ascends n a b es
earlier n u v a b es le same t = record {
  within = t.within;
  ascending = t.ascending;
  after = λ k d lt. let f : Follows u v (get_or es k d) = t.after k d lt in step (get_or es k d) f;
  positive = t.positive;
  weights = t.weights;
}
  where
    step : (e : Edge) → Follows u v e → Follows a b e
    step e f = record { first = omega (arith, f.first); second = λ s. grind (arith, f.first, f.second, le, same) }

-- One edge before them.
more : (n a b : ℕ) (e : Edge) (es : List Edge) → IsEdge n e → Follows a b e → 1 ≤ e.w → e.w ≤ MAX_GRID_WEIGHT
    → Ascends n e.u e.v es → Ascends n a b es → Ascends n a b (e ∷ es)
more n a b e es edge follows some small t s = record {
  within = All-cons (IsEdge n) e es edge t.within;
  ascending = AllPairs-cons Precedes e es (λ k d lt. precedes (get_or es k d) (t.after k d lt)) t.ascending;
  after = All-cons (Follows a b) e es follows s.after;
  positive = All-cons (λ e. 1 ≤ e.w) e es some t.positive;
  weights = All-cons (λ e. e.w ≤ MAX_GRID_WEIGHT) e es small t.weights;
}
  where
    precedes : (d : Edge) → Follows e.u e.v d → Precedes e d
    precedes d f = record { first = f.first; second = f.second }

-- What holds of the edges drawn for these ends, whatever the state.
abbrev pub DrawsAscend : (n u v : ℕ) → List (ℕ × ℕ) → Type 0
DrawsAscend n u v ends = (s : ℕ) → s < 2 ^ 31 → Ascends n u v (drawn s ends)

-- Two ends that may stand in a graph of n vertices, after (a, b).
pub record IsNext (n a b u v : ℕ) : Type 0 where
  pub first : 1 ≤ u
  pub ascends : u < v
  pub last : v ≤ n
  pub after : a ≤ u
  pub second : a ≡ u → b < v

below : (s : ℕ) → next s < 2 ^ 31
below s = omega arith

maybe_more : (n a b u v draw : ℕ) (left_out : Bool) (es : List Edge) → draw < 32768 → IsNext n a b u v → Ascends n u v es → Ascends n a b es
    → Ascends n a b ((if left_out then [] else record { u = u; v = v; w = 1 + draw / 8 } ∷ []) ++ es)
maybe_more n a b u v draw true es lt is t s = s
maybe_more n a b u v draw false es lt is t s =
    more n a b (record { u = u; v = v; w = 1 + draw / 8 }) es
    (record { first = is.first; ascends = is.ascends; last = is.last })
    (record { first = is.after; second = is.second }) (omega arith) (omega arith) t s

-- The lower neighbour comes after each end that is less.
below_end : (width height x y k b : ℕ) → x < width → y * width + x ≡ k → y + 1 < height → b < y * width + x + 1 + width
    → IsNext (width * height) (k + 1) b (y * width + x + 1) (y * width + x + 1 + width)
below_end width height x y k b column at row lt =
    let rows : (y + 2) * width ≤ height * width = mul-le-mul_right width (omega arith) in
    record { first = omega arith; ascends = omega arith; last = omega arith; after = omega arith; second = λ e. lt }

-- The right neighbour is the next vertex.
right_end : (width height x y k : ℕ) → y * width + x ≡ k → x + 1 < width → k < width * height
    → IsNext (width * height) (k + 1) 0 (y * width + x + 1) (y * width + x + 1 + 1)
right_end width height x y k at column within =
    let row : y < height = row_below width height x y (omega arith) in
    let rows : (y + 1) * width ≤ height * width = mul-le-mul_right width (omega arith) in
    record { first = omega arith; ascends = omega arith; last = omega arith; after = omega arith; second = λ e. omega arith }
  where
    row_below : (width height x y : ℕ) → y * width + x < width * height → y < height
    row_below width height x y lt = ⊎_elim (λ row. row) (λ last. let rows : height * width ≤ y * width = mul-le-mul_right width last in absurd (omega arith)) (cases_lt y height)

-- One more pair of ends, where there is one.
side : (n a b u v : ℕ) (there : Bool) (ends : List (ℕ × ℕ)) → (there ≡ true → IsNext n a b u v)
    → (there ≡ true → DrawsAscend n u v ends) → DrawsAscend n a b ends
    → DrawsAscend n a b ((if there then (u, v) ∷ [] else []) ++ ends)
side n a b u v false ends is t r = r
side n a b u v true ends is t r = λ s lt.
    let l = below s in
    maybe_more n a b u v (draw_of (next s)) (draw_of (next s) % 8 == 0) (drawn (next s) ends) (omega arith) (is refl) (t refl (next s) l) (r (next s) l)

earlier_ends : (n u v a b : ℕ) (ends : List (ℕ × ℕ)) → a ≤ u → (a ≡ u → b ≤ v) → DrawsAscend n u v ends → DrawsAscend n a b ends
earlier_ends n u v a b ends le same t = λ s lt. earlier n u v a b (drawn s ends) le same (t s lt)

less : (x y : ℕ) → nat_lt x y ≡ true → x < y
less x y e = grind (arith, nat_tests)

-- The draws for the vertex in column x and row y, before those for later vertices.
vertex : (width height x y k : ℕ) (rest : List (ℕ × ℕ)) → x < width → y * width + x ≡ k → k < width * height
    → DrawsAscend (width * height) (k + 1 + 1) 0 rest
    → DrawsAscend (width * height) (k + 1) 0 (neighbours width height x y ++ rest)
vertex width height x y k rest column at within t =
    let n = width * height in
    let u = y * width + x + 1 in
    let right : List (ℕ × ℕ) = if nat_lt (x + 1) width then (u, u + 1) ∷ [] else [] in
    let lower : List (ℕ × ℕ) = if nat_lt (y + 1) height then (u, u + width) ∷ [] else [] in
    let low : (b : ℕ) → b < u + width → DrawsAscend n (k + 1) b (lower ++ rest) =
    λ b lt. side n (k + 1) b u (u + width) (nat_lt (y + 1) height) rest
    (λ e. below_end width height x y k b column at (less (y + 1) height e) lt)
    (λ _. earlier_ends n (k + 1 + 1) 0 u (u + width) rest (omega arith) (λ s. absurd (omega arith)) t)
    (earlier_ends n (k + 1 + 1) 0 (k + 1) b rest (omega arith) (λ s. absurd (omega arith)) t) in
    let whole : DrawsAscend n (k + 1) 0 (right ++ (lower ++ rest)) =
    side n (k + 1) 0 u (u + 1) (nat_lt (x + 1) width) (lower ++ rest)
    (λ e. right_end width height x y k at (less (x + 1) width e) within)
    (λ e. let l = less (x + 1) width e in earlier_ends n (k + 1) (u + 1) u (u + 1) (lower ++ rest) (omega arith) (λ s. omega arith) (low (u + 1) (omega arith)))
    (low 0 (omega arith)) in
    subst (λ (ends : List (ℕ × ℕ)). DrawsAscend n (k + 1) 0 ends) (sym (append_assoc right lower rest)) whole

-- The ends that are left, from the vertex after the first k.
pub ends_ascend : (width height k count : ℕ) → 1 ≤ width → k + count ≡ width * height
    → DrawsAscend (width * height) (k + 1) 0 (ends_after width height k count)
ends_ascend width height k zero some all = λ s lt. none (width * height) (k + 1) 0
ends_ascend width height k (suc count) some all =
    vertex width height (k % width) (k / width) k (ends_after width height (k + 1) count) (omega arith) (div-add-mod' k width) (omega arith)
    (ends_ascend width height (k + 1) count some (omega arith))

pub grid_ascends : (width height seed : ℕ) → 1 ≤ width → Ascends (width * height) 1 0 (grid_of width height seed).edges
grid_ascends width height seed some = ends_ascend width height 0 (width * height) some (omega arith) (seed % 2 ^ 31) (omega arith)

-- What is left after the first k begins with what the next vertex has.
pub ends_left : (width height k count : ℕ) → k < count
    → ends_after width height k (count - k) ≡ neighbours width height (k % width) (k / width) ++ ends_after width height (k + 1) (count - (k + 1))
ends_left width height k count lt =
    let e : count - k ≡ suc (count - (k + 1)) = omega arith in
    ap (ends_after width height k) e

pub ends_none : (width height k count : ℕ) → count ≤ k → ends_after width height k (count - k) ≡ []
ends_none width height k count le =
    let e : count - k ≡ 0 = omega arith in
    ap (ends_after width height k) e

-- A list with nothing more drawn after it.
pub drawn_all : (width height k count s : ℕ) (es whole : List Edge) → count ≤ k
    → es ++ drawn s (ends_after width height k (count - k)) ≡ whole → es ≡ whole
drawn_all width height k count s es whole le e =
    sym (append-nil es) ∙ (ap (λ (ends : List (ℕ × ℕ)). es ++ drawn s ends) (sym (ends_none width height k count le)) ∙ e)

-- A draw gives one edge at most.
drawn_few : (s : ℕ) (ends : List (ℕ × ℕ)) → length (drawn s ends) ≤ length ends
drawn_few s [] = omega arith
drawn_few s (pair ∷ ends) =
    let draw = draw_of (next s) in
    let one = kept_few (record { u = pair.0; v = pair.1; w = 1 + draw / 8 }) (draw % 8 == 0) in
    let later = drawn_few (next s) ends in
    let both = length-append (kept pair draw) (drawn (next s) ends) in
    omega (arith, one, later, both)
  where
    kept_few : (e : Edge) (left_out : Bool) → length (if left_out then [] else e ∷ []) ≤ 1
    kept_few e true = omega arith
    kept_few e false = omega arith

-- At most two neighbours come after a vertex.
ends_few : (width height k count : ℕ) → length (ends_after width height k count) ≤ 2 * count
ends_few width height k zero = omega arith
ends_few width height k (suc count) =
    let later = ends_few width height (k + 1) count in
    let both = length-append (neighbours width height (k % width) (k / width)) (ends_after width height (k + 1) count) in
    let two = neighbours_few width height (k % width) (k / width) in
    omega (arith, later, both, two)
  where
    at_most_one : (there : Bool) (pair : ℕ × ℕ) → length (if there then pair ∷ [] else []) ≤ 1
    at_most_one true pair = omega arith
    at_most_one false pair = omega arith

    neighbours_few : (width height x y : ℕ) → length (neighbours width height x y) ≤ 2
    neighbours_few width height x y =
        let u = y * width + x + 1 in
        let right : List (ℕ × ℕ) = if nat_lt (x + 1) width then (u, u + 1) ∷ [] else [] in
        let lower : List (ℕ × ℕ) = if nat_lt (y + 1) height then (u, u + width) ∷ [] else [] in
        let right_one = at_most_one (nat_lt (x + 1) width) (u, u + 1) in
        let lower_one = at_most_one (nat_lt (y + 1) height) (u, u + width) in
        let both = length-append right lower in
        omega (arith, right_one, lower_one, both)

pub grids_are_graphs : GridsAreGraphs
grids_are_graphs width height seed some small =
    let ascends = grid_ascends width height seed some in
    let few = drawn_few (seed % 2 ^ 31) (ends_after width height 0 (width * height)) in
    let ends = ends_few width height 0 (width * height) in
    record {
      vertices = small;
      size = omega (arith, few, ends, small);
      within = ascends.within;
      ascending = ascends.ascending;
      positive = ascends.positive;
    }

pub weights_are_small : GridWeightsAreSmall
weights_are_small width height seed some = (grid_ascends width height seed some).weights
