-- At the end of a phase the labels move along the hooks' pointers, and the hooks' edges are chosen.
use Rattle.std.proofs.Common.{get_or, ◌≡◌, ◌≢◌, ◌==◌, ◌&&◌, ◌⊎◌, ◌↔◌, ℕ, zero, suc, ◌+◌, ◌*◌, ◌/◌, ◌%◌, ◌<◌, ◌≤◌, Bool, true, false, not, cond, List, [], ◌∷◌, ◌++◌, length, filter, refl, sym, ◌∙◌, ap, subst, inl, inr, ⊎_elim, arith, Option, Some, None, All, AllPairs, Contains}
use Rattle.std.specs.Prelude.{nat_lt, slice_index, slice_index_or}
use Rattle.std.proofs.lemmas.Bool.{cases_eq, cases_lt, cases_Bool, eq-eqb, ne_eqb, eqb-true, eqb-false, lt-ltb, and_parts, cond-true, cond-false, not-true, true≢false}
use Rattle.std.proofs.lemmas.List.Elements.{Contains-get_or, Contains-append_left, Contains-append_right, Contains-append_cases}
use Rattle.pg_base.specs.declared.TheConstants.{MAX_EDGES}
use Rattle.pg_base.proofs.Members.{contains_first, contains_later, contains_cases, AllPairs-cons}
use Rattle.pg_forest.specs.Phases.{point, steps}
use Rattle.pg_group.specs.declared.messages.Body.{Body}
use Rattle.pg_adj.specs.Portions.{IsVertex}
use Rattle.pg_boruvka.specs.declared.hooks.TheConstants.{NO_EDGE}
use Rattle.pg_boruvka.specs.declared.messages.Hook.{Hook}
use Rattle.pg_boruvka.specs.declared.messages.Message.{Message}
use Rattle.pg_boruvka.specs.declared.dense.Stage.TheVariants as stage
use Rattle.pg_boruvka.specs.Parts.{LocalArc, Part}
use Rattle.pg_boruvka.specs.Winners.{winner, items_in}
use Rattle.pg_boruvka.specs.Hooks.{is_within, is_vertex, hooks_among, own_hooks, hooks_of, hooked_to, label_in, phase_hooks, AreSoundBefore, IsSound}
use Rattle.pg_boruvka.specs.LocalDense.{IsChosen, IsPhase, LocalDense}
use Rattle.pg_boruvka.specs.Steps.{ArePhase}
use Rattle.pg_boruvka.specs.Noted.{noted, AreStill}
use Rattle.pg_boruvka.specs.Chosen.{marked_from, marked, AreMarked}
use Rattle.pg_boruvka.specs.Pointers.{walk, AreMoved}
use Rattle.pg_boruvka.specs.Known.{View, label_of, round_of, state_of, stage_no}
use Rattle.pg_boruvka.specs.Shown.{AreNotedOf, HasChosen}
use Rattle.pg_boruvka.proofs.OwnHooks.{IsHooked, IsUnhooked, hooked_cases, hooks_are}
use Rattle.pg_boruvka.proofs.Handled.{among_within}
use Rattle.pg_boruvka.proofs.DueMessages.{IsRegular, AgreeAt, labels_agree_now, hooks_of_same}

any_default : (xs : List ℕ) (i d e : ℕ) → i < length xs → get_or xs i d ≡ get_or xs i e
any_default [] i d e h = absurd (omega arith)
any_default (x ∷ xs) zero d e h = refl
any_default (x ∷ xs) (suc i) d e h = any_default xs i d e (omega arith)

-- The marked places are those whose mark is set.
step_in : (is : Bool) (i k : ℕ) (marks : List Bool) → Contains (cond is (i ∷ marked_from (i + 1) marks) (marked_from (i + 1) marks)) k → ((is ≡ true) × (k ≡ i)) ⊎ Contains (marked_from (i + 1) marks) k
step_in true i k marks c = ⊎_elim (λ same. inl (refl, sym same)) (λ later. inr later) (contains_cases i (marked_from (i + 1) marks) k c)
step_in false i k marks c = inr c

pub marked_in : (i k : ℕ) (marks : List Bool) → Contains (marked_from i marks) k → (j : ℕ) × (k ≡ i + j) × (j < length marks) × (slice_index_or marks j false ≡ true)
marked_in i k [] c = absurd (omega (arith, c.1))
marked_in i k (is ∷ marks) c = ⊎_elim
    (λ here. (0, omega (arith, here.1), omega arith, here.0))
    (λ later. let r = marked_in (i + 1) k marks later in (suc r.0, omega (arith, r.1), omega (arith, r.2), r.3))
    (step_in is i k marks c)

has_step : (is : Bool) (i k : ℕ) (marks : List Bool) → Contains (marked_from (i + 1) marks) k → Contains (cond is (i ∷ marked_from (i + 1) marks) (marked_from (i + 1) marks)) k
has_step true i k marks c = contains_later i (marked_from (i + 1) marks) k c
has_step false i k marks c = c

has_first : (is : Bool) (i : ℕ) (marks : List Bool) → is ≡ true → Contains (cond is (i ∷ marked_from (i + 1) marks) (marked_from (i + 1) marks)) i
has_first true i marks e = contains_first i (marked_from (i + 1) marks)
has_first false i marks e = cc

pub in_marked : (i j : ℕ) (marks : List Bool) → j < length marks → slice_index_or marks j false ≡ true → Contains (marked_from i marks) (i + j)
in_marked i j [] h is = absurd (omega arith)
in_marked i zero (is ∷ marks) h on = subst (Contains (marked_from i (is ∷ marks))) (omega arith) (has_first is i marks on)
in_marked i (suc j) (is ∷ marks) h on =
    subst (Contains (marked_from i (is ∷ marks))) (omega arith) (has_step is i (i + 1 + j) marks (in_marked (i + 1) j marks (omega arith) on))

-- They ascend.
least_of : (i : ℕ) (marks : List Bool) → All (λ k. i ≤ k) (marked_from i marks)
least_of i marks n d h =
    let r = marked_in i (get_or (marked_from i marks) n d) marks (Contains-get_or (marked_from i marks) n d h) in omega (arith, r.1)

ascending_step : (is : Bool) (i : ℕ) (marks : List Bool) → AllPairs (λ j k. j < k) (marked_from (i + 1) marks) → AllPairs (λ j k. j < k) (cond is (i ∷ marked_from (i + 1) marks) (marked_from (i + 1) marks))
ascending_step true i marks rest = AllPairs-cons (λ j k. j < k) i (marked_from (i + 1) marks) (λ n d h. let low = least_of (i + 1) marks n d h in omega arith) rest
ascending_step false i marks rest = rest

pub marked_ascend : (i : ℕ) (marks : List Bool) → AllPairs (λ j k. j < k) (marked_from i marks)
marked_ascend i [] = λ j k d l h. absurd (omega (arith, h))
marked_ascend i (is ∷ marks) = ascending_step is i marks (marked_ascend (i + 1) marks)

-- A hook that is in range leads from a label.
within_last : (part : Part) (h : Hook) → is_within part h ≡ true → h.source ≤ part.n
within_last part h is =
    let source = (and_parts (is_vertex part.n h.source) (is_vertex part.n h.target && nat_lt h.edge part.edges) is).0 in
    let low = not-true (nat_lt part.n h.source) (and_parts (nat_lt 0 h.source) (not (nat_lt part.n h.source)) source).1 in
    ⊎_elim (λ past. absurd (true≢false (sym (lt-ltb part.n h.source past) ∙ low))) (λ last. last) (cases_lt part.n h.source)

some_same : (g h : Hook) → Some g ≡ Some h → g ≡ h
some_same g h e = cc

none_some : (h : Hook) → None ≡ Some h → ⊥
none_some h e = cc

-- What is noted at a label.
noted_none : (targets edges : List ℕ) (l : ℕ) → slice_index edges l ≡ NO_EDGE → noted targets edges l ≡ None
noted_none targets edges l none = cond-true (slice_index edges l == NO_EDGE) None (Some (record { source = l; target = slice_index targets l; edge = slice_index edges l })) (eq-eqb (slice_index edges l) NO_EDGE none)

noted_some : (targets edges : List ℕ) (l : ℕ) → slice_index edges l ≢ NO_EDGE → noted targets edges l ≡ Some (record { source = l; target = slice_index targets l; edge = slice_index edges l })
noted_some targets edges l some = cond-false (slice_index edges l == NO_EDGE) None (Some (record { source = l; target = slice_index targets l; edge = slice_index edges l })) (ne_eqb (slice_index edges l) NO_EDGE some)

-- Functions that agree on the numbers up to n, which they don't leave, lead to the same.
module _ (n : ℕ) (f g : ℕ → ℕ) (agree : (l : ℕ) → l ≤ n → f l ≡ g l) (stays : (l : ℕ) → l ≤ n → f l ≤ n) where
  point_agrees : (l : ℕ) → l ≤ n → point f l ≡ point g l
  point_agrees l h =
      let first : f l ≡ g l = agree l h in
      let second : f (f l) ≡ g (g l) = agree (f l) (stays l h) ∙ ap g first in
      λ i. cond ((second i == l) && nat_lt l (first i)) l (first i)

  point_stays : (l : ℕ) → l ≤ n → point f l ≤ n
  point_stays l h = by_test ((f (f l) == l) && nat_lt l (f l)) where
    by_test : (b : Bool) → cond b l (f l) ≤ n
    by_test true = h
    by_test false = stays l h

  pub walks_agree : (k l : ℕ) → l ≤ n → walk (point f) k l ≡ steps g k l
  unfolding walk
  walks_agree zero l h = refl
  walks_agree (suc k) l h = walks_agree k (point f l) (point_stays l h) ∙ ap (steps g k) (point_agrees l h)

  pub walk_stays : (k l : ℕ) → l ≤ n → walk (point f) k l ≤ n
  unfolding walk
  walk_stays zero l h = h
  walk_stays (suc k) l h = walk_stays k (point f l) (point_stays l h)

module _ (far : ℕ) (handled sent : List (List (Body Message))) (v : View) (regular : IsRegular v) (keeps : HasChosen far handled sent v) (running : v.ended ≡ false) (at : v.stage ≡ stage.Hook) where
  abbrev hooks : List Hook
  hooks = hooks_of v.part handled (label_of v) v.phase

  are : AreNotedOf hooks v
  are = keeps.hooks running at

  source_in : (h : Hook) → Contains hooks h → h.source ≤ v.part.n
  source_in h c = ⊎_elim
      (λ own. (hooks_are v.part (label_of v) (winner v.part handled (label_of v) v.phase) v.part.n h own).last)
      (λ late. within_last v.part h (among_within v.part (items_in (3 * v.phase + 2) handled) h late))
      (Contains-append_cases (own_hooks v.part handled (label_of v) v.phase) (hooks_among v.part (items_in (3 * v.phase + 2) handled)) h c)

  module _ (one_way : (g h : Hook) → Contains hooks g → Contains hooks h → g.source ≡ h.source → g ≡ h) where
    -- What is noted at a hook's source is that hook.
    noted_is : (h : Hook) → Contains hooks h → (slice_index v.known.edges h.source ≢ NO_EDGE) × (h ≡ record { source = h.source; target = slice_index v.known.targets h.source; edge = slice_index v.known.edges h.source })
    noted_is h c =
        let some : slice_index v.known.edges h.source ≢ NO_EDGE = λ none. are.all h c (noted_none v.known.targets v.known.edges h.source none) in
        let there : Hook = record { source = h.source; target = slice_index v.known.targets h.source; edge = slice_index v.known.edges h.source } in
        (some, one_way h there c (are.some h.source there (source_in h c) (noted_some v.known.targets v.known.edges h.source some)) refl)

    target_is : (l : ℕ) → l ≤ v.part.n → slice_index v.known.targets l ≡ hooked_to hooks l
    target_is l last = ⊎_elim
        (λ found.
        let is = noted_is found.hook found.among in
        ap (slice_index v.known.targets) (sym found.source) ∙ (sym (ap (λ (h : Hook). h.target) is.1) ∙ sym found.target))
        (λ free. ⊎_elim
        (λ none. are.still l (omega (arith, regular.targets, last)) none ∙ sym free.still)
        (λ some. absurd (free.none (record { source = l; target = slice_index v.known.targets l; edge = slice_index v.known.edges l })
        (are.some l (record { source = l; target = slice_index v.known.targets l; edge = slice_index v.known.edges l }) last (noted_some v.known.targets v.known.edges l some)) refl))
        (cases_eq (slice_index v.known.edges l) NO_EDGE))
        (hooked_cases hooks l)

    pub moved_label : (labels : List ℕ) → AreMoved far v.known.targets v.known.labels labels → (x : ℕ) → IsVertex v.part.n x
        → point (hooked_to hooks) (steps (hooked_to hooks) far (label_of v x)) ≡ steps (hooked_to hooks) far (label_of v x)
        → slice_index labels x ≡ steps (hooked_to hooks) far (label_of v x)
    moved_label labels moved x vertex ends =
        let old : ℕ = label_of v x in
        let in_range : old ≤ v.part.n = regular.labels_in x vertex.last in
        let same : walk (point (slice_index v.known.targets)) far old ≡ steps (hooked_to hooks) far old =
        walks_agree v.part.n (slice_index v.known.targets) (hooked_to hooks) target_is regular.targets_in far old in_range in
        let within : walk (point (slice_index v.known.targets)) far old ≤ v.part.n = walk_stays v.part.n (slice_index v.known.targets) (hooked_to hooks) target_is regular.targets_in far old in_range in
        moved x (omega (arith, vertex.last, regular.labels))
        (point_agrees v.part.n (slice_index v.known.targets) (hooked_to hooks) target_is regular.targets_in (walk (point (slice_index v.known.targets)) far old) within
        ∙ (ap (point (hooked_to hooks)) same ∙ (ends ∙ sym same)))
        ∙ same

  phase_hooks_are : AreSoundBefore far v.part handled v.phase → hooks ≡ phase_hooks far v.part handled v.phase
  phase_hooks_are sound =
      hooks_of_same v.part (label_of v) (label_in far v.part handled v.phase) regular.orderly (labels_agree_now far handled sent v regular keeps sound) handled v.phase

  stands : (3 * v.phase ≤ round_of v) × (round_of v < 3 * v.phase + 3)
  stands = let two : stage_no v.stage ≡ 2 = ap stage_no at in (omega arith, omega arith)

  module _ (labels : List ℕ) (chosen : List Bool) (moved : AreMoved far v.known.targets v.known.labels labels) (grown : AreMarked v.known.edges v.known.chosen chosen) (same_edges : length chosen ≡ length v.known.chosen)
      (sound : AreSoundBefore far v.part handled (v.phase + 1)) where
    before : AreSoundBefore far v.part handled v.phase
    before q h = sound q (omega arith)

    now : IsSound far v.part handled v.phase
    now = sound v.phase (omega arith)

    to_phase : (h : Hook) → Contains hooks h → Contains (phase_hooks far v.part handled v.phase) h
    to_phase h c = subst (λ (x : List Hook). Contains x h) (phase_hooks_are before) c

    of_phase : (h : Hook) → Contains (phase_hooks far v.part handled v.phase) h → Contains hooks h
    of_phase h c = subst (λ (x : List Hook). Contains x h) (sym (phase_hooks_are before)) c

    one : (g h : Hook) → Contains hooks g → Contains hooks h → g.source ≡ h.source → g ≡ h
    one g h a b same = now.one_way g h (to_phase g a) (to_phase h b) same

    new_label : (x : ℕ) → IsVertex v.part.n x → slice_index labels x ≡ label_in far v.part handled (suc v.phase) x
    new_label x vertex =
        let old : label_of v x ≡ label_in far v.part handled v.phase x = labels_agree_now far handled sent v regular keeps before x vertex in
        let whole : steps (hooked_to hooks) far (label_of v x) ≡ label_in far v.part handled (suc v.phase) x = (λ i. steps (hooked_to (phase_hooks_are before i)) far (old i)) in
        moved_label one labels moved x vertex
        (subst (λ (y : ℕ). point (hooked_to hooks) y ≡ y) (sym whole)
        (subst (λ (y : List Hook). point (hooked_to y) (label_in far v.part handled (suc v.phase) x) ≡ label_in far v.part handled (suc v.phase) x) (sym (phase_hooks_are before)) (now.at_end x vertex)))
        ∙ whole

    is_phase : IsPhase far v.part handled sent (state_of v) v.phase
    is_phase = keeps.local.phase v.phase before

    chosen_then : (i : ℕ) → Contains (marked chosen) i → IsChosen far v.part handled (v.phase + 1) i
    chosen_then i c =
        let m = marked_in 0 i chosen c in
        let at_i : slice_index_or chosen i false ≡ true = subst (λ (x : ℕ). slice_index_or chosen x false ≡ true) (omega (arith, m.1)) m.3 in
        let below : i < length v.known.chosen = omega (arith, m.1, m.2, same_edges) in
        ⊎_elim
        (λ old.
        let c' = (is_phase.edges (record { first = stands.0; last = stands.1 }) i).0 (subst (Contains (marked v.known.chosen)) (omega arith) (in_marked 0 i v.known.chosen below old)) in
        let early = c'.before in
        record { phase = c'.phase; before = omega arith; hook = c'.hook; among = c'.among; edge = c'.edge })
        (λ new.
        let l : ℕ = new.0 in
        let last : l ≤ v.part.n = omega (arith, new.1, regular.edges) in
        let edge : slice_index v.known.edges l ≡ i = any_default v.known.edges l 0 i new.1 ∙ new.2 in
        let some : slice_index v.known.edges l ≢ NO_EDGE = λ none. omega (arith, none, edge, below, regular.few_edges) in
        let h : Hook = record { source = l; target = slice_index v.known.targets l; edge = slice_index v.known.edges l } in
        record {
          phase = v.phase;
          before = omega arith;
          hook = h;
          among = to_phase h (are.some l h last (noted_some v.known.targets v.known.edges l some));
          edge = edge;
        })
        ((grown i below).0 at_i)

    edge_listed : (h : Hook) → Contains hooks h → Contains v.known.edges h.edge × (h.edge < length v.known.chosen)
    edge_listed h c =
        let is = noted_is one h c in
        let last = source_in h c in
        let edge : slice_index v.known.edges h.source ≡ h.edge = sym (ap (λ (x : Hook). x.edge) is.1) in
        let within = regular.edges_in h.source last is.0 in
        (subst (Contains v.known.edges) edge (Contains-get_or v.known.edges h.source 0 (omega (arith, last, regular.edges))), omega (arith, within, edge))

    then_chosen : (i : ℕ) → IsChosen far v.part handled (v.phase + 1) i → Contains (marked chosen) i
    then_chosen i c = ⊎_elim
        (λ early.
        let old = (is_phase.edges (record { first = stands.0; last = stands.1 }) i).1 (record { phase = c.phase; before = early; hook = c.hook; among = c.among; edge = c.edge }) in
        let m = marked_in 0 i v.known.chosen old in
        let at_i : slice_index_or v.known.chosen i false ≡ true = subst (λ (x : ℕ). slice_index_or v.known.chosen x false ≡ true) (omega (arith, m.1)) m.3 in
        let below : i < length v.known.chosen = omega (arith, m.1, m.2) in
        subst (Contains (marked chosen)) (omega arith) (in_marked 0 i chosen (omega (arith, below, same_edges)) ((grown i below).1 (inl at_i))))
        (λ late.
        let same : c.phase ≡ v.phase = let b = c.before in omega arith in
        let listed = edge_listed c.hook (of_phase c.hook (subst (λ (q : ℕ). Contains (phase_hooks far v.part handled q) c.hook) same c.among)) in
        let below : i < length v.known.chosen = omega (arith, listed.1, c.edge) in
        subst (Contains (marked chosen)) (omega arith)
        (in_marked 0 i chosen (omega (arith, below, same_edges)) ((grown i below).1 (inr (subst (Contains v.known.edges) c.edge listed.0)))))
        (cases_lt c.phase v.phase)

    phase_same : (x : ℕ) → label_in far v.part handled (suc v.phase) x ≡ label_in far v.part handled (v.phase + 1) x
    phase_same x = let one_more : suc v.phase ≡ v.phase + 1 = omega arith in ap (λ (p : ℕ). label_in far v.part handled p x) one_more

    -- The labels and the edges of the next phase.
    pub next_phase : ArePhase far v.part handled (v.phase + 1) (slice_index labels) (marked chosen)
    next_phase = record {
      labels = λ x vertex. new_label x vertex ∙ phase_same x;
      ascending = marked_ascend 0 chosen;
      chosen = λ i. (λ c. chosen_then i c, λ c. then_chosen i c);
    }
