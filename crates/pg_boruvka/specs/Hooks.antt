-- The hooks of a phase, and the labels after it. Each label whose winner leads from it hooks to the label at the edge's
-- other end.
-- Source: Borůvka (1926); Cormen, Leiserson, Rivest and Stein, Introduction to Algorithms, chapter 23, problem 23-4.
use Rattle.std.specs.Prelude.{◌≡◌, ◌≢◌, ◌==◌, ◌&&◌, not, ℕ, zero, suc, ◌+◌, ◌*◌, ◌<◌, Bool, Option, Some, None, List, [], ◌∷◌, ◌++◌, length, nat_lt, slice_index_or, if◌then◌else◌, All, Contains}
use Rattle.pg_forest.specs.Phases.{point, steps}
use Rattle.pg_group.specs.declared.messages.Body.{Body}
use Rattle.pg_boruvka.specs.declared.TheConstants.{NO_KEY}
use Rattle.pg_boruvka.specs.declared.messages.Hook.{Hook}
use Rattle.pg_boruvka.specs.declared.messages.Message.{Message}
use Rattle.pg_boruvka.specs.declared.messages.Message.TheVariants.{Piece as Keys, Hook as Hooked}
use Rattle.pg_adj.specs.Portions.{IsVertex}
use Rattle.pg_boruvka.specs.Parts.{LocalArc, Part}
use Rattle.pg_boruvka.specs.Winners.{best_arc, items_in, winner}

-- The label's hook, where the least of the rank's own arcs is the winner.
abbrev pub hook_by : (ℕ → ℕ) → ℕ → ℕ → Option LocalArc → List Hook
hook_by label l key None = []
hook_by label l key (Some a) = if a.key == key then record { source = l; target = label a.to; edge = a.edge } ∷ [] else []

-- The hooks of the labels 1 to n that a rank finds itself.
abbrev pub hooks_up_to : Part → (ℕ → ℕ) → (ℕ → ℕ) → ℕ → List Hook
hooks_up_to part label win zero = []
hooks_up_to part label win (suc l) = hooks_up_to part label win l ++ hook_by label (suc l) (win (suc l)) (best_arc part label (suc l))

abbrev pub own_hooks : Part → List (List (Body Message)) → (ℕ → ℕ) → ℕ → List Hook
own_hooks part handled label p = hooks_up_to part label (winner part handled label p) part.n

-- Labels and an edge of the graph.
pub record IsHookWithin (part : Part) (h : Hook) : Type 0 where
  pub source : IsVertex part.n h.source
  pub target : IsVertex part.n h.target
  pub edge : h.edge < part.edges

abbrev pub is_vertex : ℕ → ℕ → Bool
is_vertex n v = nat_lt 0 v && not (nat_lt n v)

abbrev pub is_within : Part → Hook → Bool
is_within part h = is_vertex part.n h.source && (is_vertex part.n h.target && nat_lt h.edge part.edges)

-- The hooks among messages whose numbers are in range.
abbrev pub hooks_among : Part → List Message → List Hook
hooks_among part [] = []
hooks_among part (Keys piece ∷ messages) = hooks_among part messages
hooks_among part (Hooked h ∷ messages) = if is_within part h then h ∷ hooks_among part messages else hooks_among part messages

-- The hooks of a phase: those that the rank finds itself, and those handled in the phase's last round.
abbrev pub hooks_of : Part → List (List (Body Message)) → (ℕ → ℕ) → ℕ → List Hook
hooks_of part handled label p = own_hooks part handled label p ++ hooks_among part (items_in (3 * p + 2) handled)

-- The label to which a label hooks, or itself.
abbrev pub hooked_to : List Hook → ℕ → ℕ
hooked_to [] l = l
hooked_to (h ∷ hooks) l = if h.source == l then h.target else hooked_to hooks l

-- The labels in a phase. At first each vertex is its own label. After a phase each label moves so far along the
-- pointers.
abbrev pub label_in : ℕ → Part → List (List (Body Message)) → ℕ → (ℕ → ℕ)
label_in far part handled zero v = v
label_in far part handled (suc p) v = steps (hooked_to (hooks_of part handled (label_in far part handled p) p)) far (label_in far part handled p v)

abbrev pub phase_hooks : ℕ → Part → List (List (Body Message)) → ℕ → List Hook
phase_hooks far part handled p = hooks_of part handled (label_in far part handled p) p

-- Each key is of a label, and a hook's numbers are in range.
abbrev pub IsInRange : Part → Message → Type 0
IsInRange part (Keys piece) = (k : ℕ) → k < length piece.keys → slice_index_or piece.keys k NO_KEY ≢ NO_KEY → IsVertex part.n (piece.base + k)
IsInRange part (Hooked h) = IsHookWithin part h

-- In the phase all that was handled was in range, no label was hooked in two ways, and the pointers came to an end.
pub record IsSound (far : ℕ) (part : Part) (handled : List (List (Body Message))) (p : ℕ) : Type 0 where
  pub up : All (IsInRange part) (items_in (3 * p) handled)
  pub down : All (IsInRange part) (items_in (3 * p + 1) handled)
  pub hooks : All (IsInRange part) (items_in (3 * p + 2) handled)
  pub one_way : (g h : Hook) → Contains (phase_hooks far part handled p) g → Contains (phase_hooks far part handled p) h → g.source ≡ h.source → g ≡ h
  pub at_end : (v : ℕ) → IsVertex part.n v
      → point (hooked_to (phase_hooks far part handled p)) (label_in far part handled (suc p) v) ≡ label_in far part handled (suc p) v

-- All phases before this one were sound.
abbrev pub AreSoundBefore : ℕ → Part → List (List (Body Message)) → ℕ → Type 0
AreSoundBefore far part handled p = (q : ℕ) → q < p → IsSound far part handled q
