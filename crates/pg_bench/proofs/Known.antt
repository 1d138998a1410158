-- Each own vertex and each ghost of a part has a cell in the map over it.
use Rattle.std.proofs.Common.{◌≡◌, ℕ, ◌<◌, List, length, get_or, inl, inr, refl, sym, ap, ◌∙◌, subst}
use Rattle.std.specs.Prelude.{Some, slice_get, slice_index}
use Rattle.std.proofs.lemmas.Option.{slice_get-get_or}
use Rattle.pg_adj.specs.declared.arcs.Ghost.{Ghost}
use Rattle.pg_adj.specs.Portions.{Portion}
use Rattle.pg_cells.specs.States.{IsKnown}

pub known_own : (part held : Portion) (place v : ℕ) → held ≡ part → place < length part.vertices → v ≡ slice_index part.vertices place → IsKnown held v
known_own part held place v same below is =
    subst (λ (p : Portion). IsKnown p v) (sym same) (inl (place, slice_get-get_or part.vertices place 0 below ∙ ap (λ x. Some x) (sym is)))

pub known_ghost : (part held : Portion) (ghosts : List Ghost) (slot : ℕ) (d : Ghost) → held ≡ part → ghosts ≡ part.ghosts → slot < length ghosts → IsKnown held (get_or ghosts slot d).vertex.0
known_ghost part held ghosts slot d same are below =
    let at : slice_get part.ghosts slot ≡ Some (get_or ghosts slot d) = ap (λ xs. slice_get xs slot) (sym are) ∙ slice_get-get_or ghosts slot d below in
    subst (λ (p : Portion). IsKnown p (get_or ghosts slot d).vertex.0) (sym same) (inr (slot, (get_or ghosts slot d, at, refl)))
