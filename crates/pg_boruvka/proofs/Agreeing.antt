-- Lists that agree in all rounds before a phase give the same labels, winners and hooks.
use Rattle.std.proofs.Common.{◌≡◌, ◌==◌, ℕ, zero, suc, ◌+◌, ◌*◌, ◌<◌, List, ◌++◌, refl, ◌∙◌, ap, subst, arith, All, Contains}
use Rattle.std.specs.Prelude.{min, if◌then◌else◌}
use Rattle.pg_forest.specs.Phases.{point, steps}
use Rattle.pg_group.specs.declared.messages.Body.{Body}
use Rattle.pg_boruvka.specs.declared.messages.Hook.{Hook}
use Rattle.pg_boruvka.specs.declared.messages.Message.{Message}
use Rattle.pg_boruvka.specs.Parts.{Part}
use Rattle.pg_boruvka.specs.Winners.{own_key, winner, reducer, least, given_keys, items_in}
use Rattle.pg_boruvka.specs.Hooks.{own_hooks, hooks_up_to, hooks_among, hooks_of, hooked_to, label_in, phase_hooks, IsInRange, IsSound}
use Rattle.pg_boruvka.specs.LocalDense.{IsChosen}

-- The items of all rounds before this one are the same.
abbrev pub AgreeBelow : ℕ → List (List (Body Message)) → List (List (Body Message)) → Type 0
AgreeBelow round lists others = (k : ℕ) → k < round → items_in k lists ≡ items_in k others

module _ (far : ℕ) (part : Part) (lists others : List (List (Body Message))) where
  pub winners_agree : (f : ℕ → ℕ) (p : ℕ) → items_in (3 * p) lists ≡ items_in (3 * p) others → items_in (3 * p + 1) lists ≡ items_in (3 * p + 1) others
      → winner part lists f p ≡ winner part others f p
  winners_agree f p first second = λ i l.
      if reducer part l == part.rank then min (own_key part f l) (least (given_keys l (first i))) else least (given_keys l (second i))

  pub own_hooks_agree : (f : ℕ → ℕ) (p : ℕ) → items_in (3 * p) lists ≡ items_in (3 * p) others → items_in (3 * p + 1) lists ≡ items_in (3 * p + 1) others
      → own_hooks part lists f p ≡ own_hooks part others f p
  own_hooks_agree f p first second = ap (λ (w : ℕ → ℕ). hooks_up_to part f w part.n) (winners_agree f p first second)

  hooks_agree : (f : ℕ → ℕ) (p : ℕ) → AgreeBelow (3 * p + 3) lists others → hooks_of part lists f p ≡ hooks_of part others f p
  hooks_agree f p agree = λ i.
      own_hooks_agree f p (agree (3 * p) (omega arith)) (agree (3 * p + 1) (omega arith)) i ++ hooks_among part (agree (3 * p + 2) (omega arith) i)

  pub labels_agree : (p : ℕ) → AgreeBelow (3 * p) lists others → label_in far part lists p ≡ label_in far part others p
  labels_agree zero agree = refl
  labels_agree (suc p) agree =
      let before = labels_agree p (λ k h. agree k (omega arith)) in
      let hooks : hooks_of part lists (label_in far part lists p) p ≡ hooks_of part others (label_in far part others p) p =
      ap (λ (f : ℕ → ℕ). hooks_of part lists f p) before ∙ hooks_agree (label_in far part others p) p (λ k h. agree k (omega arith)) in
      λ i v. steps (hooked_to (hooks i)) far (before i v)

  pub phase_hooks_agree : (p : ℕ) → AgreeBelow (3 * p + 3) lists others → phase_hooks far part lists p ≡ phase_hooks far part others p
  phase_hooks_agree p agree =
      ap (λ (f : ℕ → ℕ). hooks_of part lists f p) (labels_agree p (λ k h. agree k (omega arith))) ∙ hooks_agree (label_in far part others p) p agree

  pub sound_agrees : (p : ℕ) → AgreeBelow (3 * p + 3) lists others → IsSound far part lists p → IsSound far part others p
  sound_agrees p agree is =
      let hooks = phase_hooks_agree p agree in
      record {
        up = subst (λ (x : List Message). All (IsInRange part) x) (agree (3 * p) (omega arith)) is.up;
        down = subst (λ (x : List Message). All (IsInRange part) x) (agree (3 * p + 1) (omega arith)) is.down;
        hooks = subst (λ (x : List Message). All (IsInRange part) x) (agree (3 * p + 2) (omega arith)) is.hooks;
        one_way = subst (λ (x : List Hook). (g h : Hook) → Contains x g → Contains x h → g.source ≡ h.source → g ≡ h) hooks is.one_way;
        at_end = λ v h.
            subst (λ (x : List Hook). point (hooked_to x) (label_in far part others (suc p) v) ≡ label_in far part others (suc p) v) hooks
            (subst (λ (f : ℕ → ℕ). point (hooked_to (phase_hooks far part lists p)) (f v) ≡ f v) (labels_agree (suc p) (λ k l. agree k (omega arith))) (is.at_end v h));
      }

  pub chosen_agrees : (p i : ℕ) → AgreeBelow (3 * p) lists others → IsChosen far part lists p i → IsChosen far part others p i
  chosen_agrees p i agree c =
      let before = c.before in
      record {
        phase = c.phase;
        before = c.before;
        hook = c.hook;
        among = subst (λ (x : List Hook). Contains x c.hook) (phase_hooks_agree c.phase (λ k h. agree k (omega (arith, before)))) c.among;
        edge = c.edge;
      }
