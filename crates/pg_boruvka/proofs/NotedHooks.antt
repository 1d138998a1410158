-- The hooks that a rank finds itself are noted, label after label.
use Rattle.std.proofs.Common.{◌≡◌, ◌≢◌, ◌==◌, ◌||◌, not, ℕ, ◌+◌, ◌%◌, ◌<◌, ◌≤◌, Bool, true, false, List, length, refl, sym, ◌∙◌, subst, ⊎_elim, arith, Some, None, All}
use Rattle.std.specs.Prelude.{slice_index}
use Rattle.std.proofs.lemmas.Bool.{cases_eq, cases_Bool, eq-eqb, ne_eqb, cond-true, cond-false, or_parts}
use Rattle.std.proofs.lemmas.List.Elements.{All-get_or}
use Rattle.pg_base.specs.declared.TheConstants.{MAX_EDGES}
use Rattle.pg_boruvka.specs.declared.TheConstants.{NO_KEY}
use Rattle.pg_boruvka.specs.declared.hooks.TheConstants.{NO_EDGE}
use Rattle.pg_boruvka.specs.declared.messages.Hook.{Hook}
use Rattle.pg_boruvka.specs.Arcs.{IsOfEdge}
use Rattle.pg_boruvka.specs.Noted.{noted, own_hook_at, AreUnhooked, AreStill, IsNoted, IsEdgeOrNone}

pub none_noted : (targets edges : List ℕ) (l : ℕ) → slice_index edges l ≡ NO_EDGE → noted targets edges l ≡ None
none_noted targets edges l none = cond-true (slice_index edges l == NO_EDGE) None (Some (record { source = l; target = slice_index targets l; edge = slice_index edges l })) (eq-eqb (slice_index edges l) NO_EDGE none)

pub noted_none : (targets edges : List ℕ) (l : ℕ) → noted targets edges l ≡ None → slice_index edges l ≡ NO_EDGE
noted_none targets edges l is = ⊎_elim (λ same. same) (λ other. absurd (not_none other)) (cases_eq (slice_index edges l) NO_EDGE) where
  hook : Hook
  hook = record { source = l; target = slice_index targets l; edge = slice_index edges l }

  not_none : (slice_index edges l ≡ NO_EDGE → ⊥) → ⊥
  not_none other =
      let some : noted targets edges l ≡ Some hook = cond-false (slice_index edges l == NO_EDGE) None (Some hook) (ne_eqb (slice_index edges l) NO_EDGE other) in
      cc

-- What the hook of a label is, whose own key has won.
pub record IsOwnHook (keys across : List ℕ) (l : ℕ) (h : Hook) : Type 0 where
  pub source : h.source ≡ l
  pub target : h.target ≡ slice_index across l
  pub edge : h.edge ≡ slice_index keys l % MAX_EDGES
  pub some : slice_index keys l ≢ NO_KEY

pub own_hook_is : (keys across winners : List ℕ) (l : ℕ) (h : Hook) → own_hook_at keys across winners l ≡ Some h → IsOwnHook keys across l h
own_hook_is keys across winners l h is = ⊎_elim (λ failed. absurd (no_hook failed)) (λ won. own won) (cases_Bool test) where
  test : Bool
  test = (slice_index keys l == NO_KEY) || not (slice_index winners l == slice_index keys l)

  hook : Hook
  hook = record { source = l; target = slice_index across l; edge = slice_index keys l % MAX_EDGES }

  no_hook : test ≡ true → ⊥
  no_hook failed =
      let none : own_hook_at keys across winners l ≡ None = cond-true test None (Some hook) failed in
      cc

  has_key : test ≡ false → slice_index keys l ≡ NO_KEY → ⊥
  has_key won none =
      let yes = eq-eqb (slice_index keys l) NO_KEY none in
      let no = (or_parts (slice_index keys l == NO_KEY) (not (slice_index winners l == slice_index keys l)) won).0 in
      cc

  own : test ≡ false → IsOwnHook keys across l h
  own won =
      let some : own_hook_at keys across winners l ≡ Some hook = cond-false test None (Some hook) won in
      let same : hook ≡ h = cc in
      subst (IsOwnHook keys across l) same (record { source = refl; target = refl; edge = refl; some = has_key won })

-- Of labels before this one the own hooks are noted.
pub record AreNotedTo (keys across winners targets_before edges_before targets edges : List ℕ) (label : ℕ) : Type 0 where
  pub first : 1 ≤ length keys → noted targets edges 0 ≡ None
  pub own : (l : ℕ) → 1 ≤ l → l < label → noted targets edges l ≡ own_hook_at keys across winners l
  pub rest : (l : ℕ) → label ≤ l → l < length keys → noted targets edges l ≡ None
  pub still : AreStill targets edges
  pub all_targets : (count : ℕ) → All (λ l. l < count) across → All (λ l. l < count) targets_before → All (λ l. l < count) targets
  pub all_edges : (count : ℕ) → All (IsOfEdge count) keys → All (IsEdgeOrNone count) edges_before → All (IsEdgeOrNone count) edges
  pub same_targets : length targets ≡ length targets_before
  pub same_edges : length edges ≡ length edges_before

pub noted_at_first : (keys across winners targets edges : List ℕ) → AreUnhooked targets edges → length edges ≡ length keys → AreNotedTo keys across winners targets edges targets edges 1
noted_at_first keys across winners targets edges unhooked same = record {
  first = λ some. none_noted targets edges 0 (unhooked.none 0 (omega arith));
  own = λ l from before. absurd (omega arith);
  rest = λ l from before. none_noted targets edges l (unhooked.none l (omega arith));
  still = λ l within none. unhooked.still l within;
  all_targets = λ count labels all. all;
  all_edges = λ count labels all. all;
  same_targets = refl;
  same_edges = refl;
}

module _ (keys across winners targets_before edges_before targets edges : List ℕ) (label : ℕ)
    (before : AreNotedTo keys across winners targets_before edges_before targets edges label) (within : label < length keys) (past_first : 1 ≤ label) where
  pub noted_without : own_hook_at keys across winners label ≡ None → AreNotedTo keys across winners targets_before edges_before targets edges (label + 1)
  noted_without none = record {
    first = before.first;
    own = λ l from below. ⊎_elim
        (λ same. subst (λ (x : ℕ). noted targets edges x ≡ own_hook_at keys across winners x) (sym same) (before.rest label (omega arith) within ∙ sym none))
        (λ other. before.own l from (omega arith))
        (cases_eq l label);
    rest = λ l from below. before.rest l (omega arith) below;
    still = before.still;
    all_targets = before.all_targets;
    all_edges = before.all_edges;
    same_targets = before.same_targets;
    same_edges = before.same_edges;
  }

  -- The hook's edge is below what the edges of all keys are below.
  edge_below : (count : ℕ) (h : Hook) → IsOwnHook keys across label h → All (IsOfEdge count) keys → h.edge < count
  edge_below count h is all = omega (arith, is.edge, All-get_or (IsOfEdge count) keys label 0 within all is.some)

  pub noted_with : (h : Hook) (new_targets new_edges : List ℕ) → own_hook_at keys across winners label ≡ Some h → length across ≡ length keys
      → IsNoted h targets edges new_targets new_edges → (AreStill targets edges → AreStill new_targets new_edges)
      → ((count : ℕ) → h.target < count → All (λ l. l < count) targets → All (λ l. l < count) new_targets)
      → ((count : ℕ) → h.edge < count → All (IsEdgeOrNone count) edges → All (IsEdgeOrNone count) new_edges)
      → length new_targets ≡ length targets → length new_edges ≡ length edges
      → AreNotedTo keys across winners targets_before edges_before new_targets new_edges (label + 1)
  noted_with h new_targets new_edges is as_long is_noted still all_targets all_edges same_targets same_edges =
      let own_hook = own_hook_is keys across winners label h is in
      let none : slice_index edges h.source ≡ NO_EDGE = subst (λ (x : ℕ). slice_index edges x ≡ NO_EDGE) (sym own_hook.source) (noted_none targets edges label (before.rest label (omega arith) within)) in
      let here : noted new_targets new_edges label ≡ Some h = subst (λ (x : ℕ). noted new_targets new_edges x ≡ Some h) own_hook.source (is_noted.first none) in
      let other : (l : ℕ) → l ≢ label → noted new_targets new_edges l ≡ noted targets edges l = λ l differs. is_noted.others l (λ e. differs (e ∙ own_hook.source)) in
      record {
        first = λ some. other 0 (λ e. omega (arith, e)) ∙ before.first some;
        own = λ l from below. ⊎_elim
            (λ same. subst (λ (x : ℕ). noted new_targets new_edges x ≡ own_hook_at keys across winners x) (sym same) (here ∙ sym is))
            (λ differs. other l differs ∙ before.own l from (omega arith))
            (cases_eq l label);
        rest = λ l from below. other l (λ e. omega (arith, e)) ∙ before.rest l (omega arith) below;
        still = still before.still;
        all_targets = λ count labels all. all_targets count
            (subst (λ (x : ℕ). x < count) (sym own_hook.target) (All-get_or (λ l. l < count) across label 0 (omega arith) labels)) (before.all_targets count labels all);
        all_edges = λ count labels all. all_edges count (edge_below count h own_hook labels) (before.all_edges count labels all);
        same_targets = same_targets ∙ before.same_targets;
        same_edges = same_edges ∙ before.same_edges;
      }
