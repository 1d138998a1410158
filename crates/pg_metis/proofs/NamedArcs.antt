-- The arcs that a reader took, by their places.
use Rattle.std.proofs.Common.{◌≡◌, ℕ, ◌+◌, ◌-◌, ◌<◌, ◌≤◌, ◌++◌, ◌∙◌, ltb, List, [], ◌∷◌, length, get_or, take, sym, ap, subst, arith}
use Rattle.std.specs.List.{between}
use Rattle.std.proofs.lemmas.Bool.{lt-ltb, le-ltb}
use Rattle.std.proofs.lemmas.List.{length-map, take_more, get_or-map}
use Rattle.std.proofs.lemmas.List.Edits.{between_more}
use Rattle.pg_base.specs.Graph.{Arc}
use Rattle.pg_metis.specs.declared.pairing.NamedArc.{NamedArc}
use Rattle.pg_metis.specs.Mirrors.{edge_back, edge_forth, forth_edges, back_edges}
use Rattle.pg_metis.proofs.Mapped.{mapped_kept, mapped_left}
use Rattle.pg_metis.specs.Pairing.{arc_of, arcs_named, IsNamed, AreNamed}

pub length-named : (xs : List NamedArc) → length (arcs_named xs) ≡ length xs
length-named xs = length-map xs arc_of

pub named_at : (xs : List NamedArc) (i : ℕ) (d : NamedArc) (e : Arc) → i < length xs → get_or (arcs_named xs) i e ≡ arc_of (get_or xs i d)
named_at xs i d e below = get_or-map arc_of xs i d e below

pub is_named : (n : ℕ) (xs : List NamedArc) (i : ℕ) (d : NamedArc) → AreNamed n (arcs_named xs) → i < length xs → IsNamed n (arc_of (get_or xs i d))
is_named n xs i d named below =
    subst (λ (a : Arc). IsNamed n a) (named_at xs i d (arc_of d) below) (named.within i (arc_of d) (omega (arith, length-named xs)))

pub is_named_here : (n m : ℕ) (xs : List NamedArc) (i : ℕ) (d : NamedArc) → m ≡ n → AreNamed n (arcs_named xs) → i < length xs → IsNamed m (arc_of (get_or xs i d))
is_named_here n m xs i d same named below = subst (λ (k : ℕ). IsNamed k (arc_of (get_or xs i d))) (sym same) (is_named n xs i d named below)

pub named_more : (xs : List NamedArc) (i : ℕ) (d : NamedArc) → i < length xs → take (i + 1) (arcs_named xs) ≡ take i (arcs_named xs) ++ arc_of (get_or xs i d) ∷ []
named_more xs i d below =
    take_more (arcs_named xs) i (arc_of d) (omega (arith, length-named xs)) ∙ ap (λ (a : Arc). take i (arcs_named xs) ++ a ∷ []) (named_at xs i d (arc_of d) below)

pub line_more : (xs : List NamedArc) (from i : ℕ) (d : NamedArc) → from ≤ i → i < length xs → between from (i + 1) (arcs_named xs) ≡ between from i (arcs_named xs) ++ arc_of (get_or xs i d) ∷ []
line_more xs from i d rises below =
    between_more (arcs_named xs) from i (arc_of d) rises (omega (arith, length-named xs)) ∙ ap (λ (a : Arc). between from i (arcs_named xs) ++ a ∷ []) (named_at xs i d (arc_of d) below)

-- One arc more tells one edge more if it goes to a lesser vertex.
pub back_pushed : (xs : List NamedArc) (i : ℕ) (d : NamedArc) → i < length xs → (get_or xs i d).to < (get_or xs i d).from
    → back_edges (take (i + 1) (arcs_named xs)) ≡ back_edges (take i (arcs_named xs)) ++ edge_back (arc_of (get_or xs i d)) ∷ []
back_pushed xs i d below less =
    ap back_edges (named_more xs i d below) ∙ mapped_kept (λ (a : Arc). ltb a.to a.from) edge_back (take i (arcs_named xs)) (arc_of (get_or xs i d)) (lt-ltb (get_or xs i d).to (get_or xs i d).from less)

pub back_passed : (xs : List NamedArc) (i : ℕ) (d : NamedArc) → i < length xs → (get_or xs i d).from ≤ (get_or xs i d).to
    → back_edges (take (i + 1) (arcs_named xs)) ≡ back_edges (take i (arcs_named xs))
back_passed xs i d below least =
    ap back_edges (named_more xs i d below) ∙ mapped_left (λ (a : Arc). ltb a.to a.from) edge_back (take i (arcs_named xs)) (arc_of (get_or xs i d)) (le-ltb (get_or xs i d).to (get_or xs i d).from least)

-- One arc more of a line adds its edge if it goes to a greater vertex.
pub forth_pushed : (xs : List NamedArc) (from i : ℕ) (d : NamedArc) → from ≤ i → i < length xs → (get_or xs i d).from < (get_or xs i d).to
    → forth_edges (between from (i + 1) (arcs_named xs)) ≡ forth_edges (between from i (arcs_named xs)) ++ edge_forth (arc_of (get_or xs i d)) ∷ []
forth_pushed xs from i d rises below greater =
    ap forth_edges (line_more xs from i d rises below) ∙ mapped_kept (λ (a : Arc). ltb a.from a.to) edge_forth (between from i (arcs_named xs)) (arc_of (get_or xs i d)) (lt-ltb (get_or xs i d).from (get_or xs i d).to greater)

pub forth_passed : (xs : List NamedArc) (from i : ℕ) (d : NamedArc) → from ≤ i → i < length xs → (get_or xs i d).to ≤ (get_or xs i d).from
    → forth_edges (between from (i + 1) (arcs_named xs)) ≡ forth_edges (between from i (arcs_named xs))
forth_passed xs from i d rises below least =
    ap forth_edges (line_more xs from i d rises below) ∙ mapped_left (λ (a : Arc). ltb a.from a.to) edge_forth (between from i (arcs_named xs)) (arc_of (get_or xs i d)) (le-ltb (get_or xs i d).from (get_or xs i d).to least)

-- The ends of an arc that was taken, as places.
pub from_below : (n m : ℕ) (xs : List NamedArc) (i : ℕ) (d : NamedArc) → m ≡ n → AreNamed n (arcs_named xs) → i < length xs → (get_or xs i d).from - 1 < m
from_below n m xs i d same named below = let is = is_named n xs i d named below in omega (arith, is.from_first, is.from_last)

pub to_below : (n m : ℕ) (xs : List NamedArc) (i : ℕ) (d : NamedArc) → m ≡ n → AreNamed n (arcs_named xs) → i < length xs → (get_or xs i d).to - 1 < m
to_below n m xs i d same named below = let is = is_named n xs i d named below in omega (arith, is.to_first, is.to_last)
