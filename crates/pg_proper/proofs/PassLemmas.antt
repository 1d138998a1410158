-- What a pass over a list keeps, by the list.
use Rattle.std.proofs.Common.{◌≡◌, ℕ, Bool, cond, List, [], ◌∷◌, Option, Some, None, sym, ◌∙◌, ap, subst, refl, inl, inr, ⊎_elim, ◌⊎◌, arith, All}
use Rattle.std.proofs.lemmas.Bool.{cases_eq, eq-eqb, ne_eqb}
use Rattle.std.proofs.lemmas.List.Elements.{All-contains}
use Rattle.pg_base.specs.declared.edges.Edge.{Edge}
use Rattle.pg_base.specs.Graph.{IsEdge}
use Rattle.pg_base.proofs.Members.{contains_cases}
use Rattle.pg_base.specs.Colouring.{AreJoined}
use Rattle.pg_proper.specs.Passes.{Colours, IsLeastFree, with_colour, AreApart, HasColour}
use Rattle.pg_proper.specs.PassLaws.{PassKeepsApart, PassColours}

pub some_same : (c d : ℕ) → Some c ≡ Some d → c ≡ d
some_same c d e = ap (λ (o : Option ℕ). number o) e
  where
    number : Option ℕ → ℕ
    number None = 0
    number (Some k) = k

pub turned : (edges : List Edge) (v w : ℕ) → AreJoined edges v w → AreJoined edges w v
turned edges v w j = record { edge = j.edge; among = j.among; ends = ⊎_elim (λ a. inr a) (λ b. inl b) j.ends }

-- No vertex is its own neighbour.
pub joined_differ : (n : ℕ) (edges : List Edge) → All (IsEdge n) edges → (v : ℕ) → AreJoined edges v v → ⊥
joined_differ n edges within v j =
    let is = All-contains (IsEdge n) edges j.edge within j.among in
    ⊎_elim (λ a. omega (arith, is.ascends, a.0, a.1)) (λ b. omega (arith, is.ascends, b.0, b.1)) j.ends

pub at_it : (colours : Colours) (v c : ℕ) → with_colour colours v c v ≡ Some c
at_it colours v c = ap (λ (t : Bool). cond t (Some c) (colours v)) (eq-eqb v v refl)

pub at_other : (colours : Colours) (v c w : ℕ) → (w ≡ v → ⊥) → with_colour colours v c w ≡ colours w
at_other colours v c w apart = ap (λ (t : Bool). cond t (Some c) (colours w)) (ne_eqb w v apart)

-- The colour at w is c at v itself, and what it was elsewhere.
pub colour_cases : (colours : Colours) (v c w d : ℕ) → with_colour colours v c w ≡ Some d
    → ((w ≡ v) × (c ≡ d)) ⊎ ((w ≡ v → ⊥) × (colours w ≡ Some d))
colour_cases colours v c w d is = elim (cases_eq w v) [
  | inl same ↦ inl (same, some_same c d (sym (at_it colours v c) ∙ subst (λ (x : ℕ). with_colour colours v c x ≡ Some d) same is))
  | inr apart ↦ inr (apart, sym (at_other colours v c w apart) ∙ is)
]

-- A vertex that takes a free colour clashes with no neighbour.
one_apart : (n : ℕ) (edges : List Edge) (own : List ℕ) (before : Colours) (x c : ℕ) → All (IsEdge n) edges
    → IsLeastFree edges before x c → AreApart edges own before → AreApart edges own (with_colour before x c)
one_apart n edges own before x c within fits apart v w d mine yours j at_v at_w =
    ⊎_elim
    (λ here. ⊎_elim
    (λ there. joined_differ n edges within x (subst (λ (y : ℕ). AreJoined edges x y) there.0 (subst (λ (y : ℕ). AreJoined edges y w) here.0 j)))
    (λ there. fits.free (record { neighbour = w; joined = subst (λ (y : ℕ). AreJoined edges y w) here.0 j; has = there.1 ∙ ap (λ (k : ℕ). Some k) (sym here.1) }))
    (colour_cases before x c w d at_w))
    (λ here. ⊎_elim
    (λ there. fits.free (record { neighbour = v; joined = turned edges v x (subst (λ (y : ℕ). AreJoined edges v y) there.0 j); has = here.1 ∙ ap (λ (k : ℕ). Some k) (sym there.1) }))
    (λ there. apart v w d mine yours j here.1 there.1)
    (colour_cases before x c w d at_w))
    (colour_cases before x c v d at_v)

pub pass_keeps_apart : PassKeepsApart
pass_keeps_apart n edges own [] before after within passes apart =
    λ v w c mine yours j at_v at_w. apart v w c mine yours j (sym (passes v mine) ∙ at_v) (sym (passes w yours) ∙ at_w)
pass_keeps_apart n edges own (x ∷ list) before after within passes apart =
    pass_keeps_apart n edges own list (with_colour before x passes.0) after within passes.2
    (one_apart n edges own before x passes.0 within passes.1 apart)

still_coloured : (before : Colours) (x c v : ℕ) → HasColour before v → HasColour (with_colour before x c) v
still_coloured before x c v has = elim (cases_eq v x) [
  | inl same ↦ (c, subst (λ (y : ℕ). with_colour before x c y ≡ Some c) (sym same) (at_it before x c))
  | inr apart ↦ (has.0, at_other before x c v apart ∙ has.1)
]

pub pass_colours : PassColours
pass_colours edges own [] before after passes v mine has =
    ⊎_elim (λ old. (old.0, passes v mine ∙ old.1)) (λ listed. absurd (omega (arith, listed.1))) has
pass_colours edges own (x ∷ list) before after passes v mine has =
    let c = passes.0 in
    pass_colours edges own list (with_colour before x c) after passes.2 v mine
    (⊎_elim
    (λ old. inl (still_coloured before x c v old))
    (λ listed. ⊎_elim
    (λ same. inl (c, subst (λ (y : ℕ). with_colour before x c y ≡ Some c) same (at_it before x c)))
    (λ later. inr later)
    (contains_cases x list v listed))
    has)
