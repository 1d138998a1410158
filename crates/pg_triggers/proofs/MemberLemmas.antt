-- What each call does to what one member of a pair keeps.
use Rattle.std.proofs.Common.{◌≡◌, ℕ, ◌+◌, ◌<◌, ◌≤◌, Bool, true, false, List, [], ◌∷◌, ◌++◌, length, map, refl, sym, ap, ◌∙◌, subst, arith, ◌⊎◌, inl, inr, ◌||◌}
use Rattle.std.specs.Prelude.{Option, Some, None}
use Rattle.pg_group.specs.declared.messages.Body.{Body}
use Rattle.pg_group.specs.declared.messages.Body.TheVariants.{Item, Mark}
use Rattle.pg_group.specs.declared.messages.Vote.{Vote}
use Rattle.pg_group.specs.Ranked.{append_at, list_at}
use Rattle.pg_group.specs.Rounds.{is_mark, ends_with_mark}
use Rattle.pg_group.specs.Supersteps.{append_others, append_marks}
use Rattle.pg_triggers.specs.Mine.{mine, mine_each, whole}
use Rattle.pg_triggers.specs.Paired.{AreMarked, AreClosed, MemberKeeps}
use Rattle.pg_triggers.proofs.MineLemmas.{mine-mark, list_at-mine, each-enough, each-whole, each-some, each-none, open_others, late_others, open_marks, late_marks, OthersOpen, OthersLate}
use Rattle.pg_triggers.proofs.MarkLemmas.{marked-round, marked-most, list_at-others}

pub either : (b : Bool) → (b ≡ true) ⊎ (b ≡ false)
either true = inl refl
either false = inr refl

ends_with_mark-push : {X : Type 0} (bs : List (Body X)) (b : Body X) → ends_with_mark (bs ++ b ∷ []) ≡ is_mark b
ends_with_mark-push [] b = refl
ends_with_mark-push (x ∷ []) b = refl
ends_with_mark-push (x ∷ y ∷ bs) b = ends_with_mark-push (y ∷ bs) b

module _ {C X : Type 0} (item : C → Option X) (read : Vote → Vote) (K K' : List (List (Body X)) → List (List (Body X)) → Type 0) (own size : ℕ) where
  abbrev pub Keeping : (List (List (Body X)) → List (List (Body X)) → Type 0) → ℕ → ℕ → Bool → Bool → List (List (Body C)) → List (List (Body C)) → Type 0
  Keeping Q finished round ended cast handled sent =
      MemberKeeps Q own size finished round ended cast (mine_each item read (round + 1) handled) (mine_each item read (round + 1) sent)

  -- the member handles an item
  pub handles : (finished round : ℕ) (ended cast : Bool) (handled sent : List (List (Body C))) (rank : ℕ) (c : C) (x : X) → item c ≡ Some x
      → ((h s : List (List (Body X))) → K h s → K' (append_at h rank (Item x)) s)
      → Keeping K finished round ended cast handled sent → Keeping K' finished round ended cast (append_at handled rank (Item c)) sent
  handles finished round ended cast handled sent rank c x is step before = record {
    keeps = subst (λ h. K' h (mine_each item read (round + 1) sent)) (sym (each-some item read handled (round + 1) rank c x is)) (step _ _ before.keeps);
    silent = before.silent;
    before = before.before;
  }

  -- the other member handles an item
  pub ignores : (finished round : ℕ) (ended cast : Bool) (handled sent : List (List (Body C))) (rank : ℕ) (c : C) → item c ≡ None
      → Keeping K finished round ended cast handled sent → Keeping K finished round ended cast (append_at handled rank (Item c)) sent
  ignores finished round ended cast handled sent rank c is before =
      subst (λ h. MemberKeeps K own size finished round ended cast h (mine_each item read (round + 1) sent)) (sym (each-none item read handled (round + 1) rank c is)) before

  -- the member works, and sends items if it has not ended
  pub works : (finished round : ℕ) (ended cast : Bool) (handled sent more : List (List (Body C))) → cast ≡ false → (ended ≡ false → AreMarked own size round sent) → (ended ≡ false → AreMarked own size round more)
      → (ended ≡ true → more ≡ sent) → (ended ≡ true → (h s : List (List (Body X))) → K h s → K' h s)
      → ((h : List (List (Body X))) → K h (whole item read sent) → K' h (whole item read more))
      → Keeping K finished round ended cast handled sent → Keeping K' finished round ended cast handled more
  works finished round ended cast handled sent more uncast few few_more same rests step before = record {
    keeps = elim (either ended) [
      | inl over ↦ rests over _ _ (subst (λ s. K (mine_each item read (round + 1) handled) (mine_each item read (round + 1) s)) (sym (same over)) before.keeps)
      | inr runs ↦
          let all : mine_each item read (round + 1) sent ≡ whole item read sent = each-whole item read sent (round + 1) (λ r. omega (arith, marked-most own size round sent (few runs) r)) in
          let all_more : mine_each item read (round + 1) more ≡ whole item read more = each-whole item read more (round + 1) (λ r. omega (arith, marked-most own size round more (few_more runs) r)) in
          subst (K' (mine_each item read (round + 1) handled)) (sym all_more) (step _ (subst (K (mine_each item read (round + 1) handled)) all before.keeps))
    ];
    silent = λ closed. elim (either ended) [
      | inl over ↦ subst (λ s. AreClosed own size (mine_each item read (round + 1) s)) (sym (same over)) (before.silent closed)
      | inr runs ↦ absurd (cc (runs, uncast, closed))
    ];
    before = before.before;
  }

  module _ (n round : ℕ) (ended : Bool) (v : Vote) (handled sent : List (List (Body C))) (marked : AreMarked own size n sent) where
    pub votes_on : (ended ≡ false → round ≡ n) → (ended ≡ true → (h s : List (List (Body X))) → K h s → K' h s)
        → (ended ≡ false → (h s : List (List (Body X))) → K h s → K' h (append_others own (Mark (read v)) s))
        → Keeping K n round ended false handled sent → Keeping K' n round ended true handled (append_others own (Mark v) sent)
    votes_on running rests runs before = elim (either ended) [
      | inl over ↦
          let late : OthersLate item read own (round + 1) sent = λ r below other. omega (arith, before.before over, marked.others r (omega (arith, marked.count), other)) in
          let same : mine_each item read (round + 1) (append_others own (Mark v) sent) ≡ mine_each item read (round + 1) sent = late_others item read own (round + 1) v sent late in
          subst (λ s. MemberKeeps K' own size n round ended true (mine_each item read (round + 1) handled) s) (sym same) (record {
            keeps = rests over _ _ before.keeps;
            silent = λ _. before.silent (ap (λ b. b || false) over);
            before = before.before;
          })
      | inr going ↦
          let opens : OthersOpen item read own (round + 1) sent = λ r below other. omega (arith, running going, marked.others r (omega (arith, marked.count), other)) in
          let more : mine_each item read (round + 1) (append_others own (Mark v) sent) ≡ append_others own (Mark (read v)) (mine_each item read (round + 1) sent) = open_others item read own (round + 1) v sent opens in
          record {
            keeps = subst (K' (mine_each item read (round + 1) handled)) (sym more) (runs going _ _ before.keeps);
            silent = λ _ rank other.
                let long : rank < length sent = omega (arith, marked.count, other.0) in
                ap ends_with_mark (list_at-mine item read (append_others own (Mark v) sent) (round + 1) rank
                ∙ ap (λ l. mine item read l (round + 1)) (list_at-others own (Mark v) sent rank long other.1)
                ∙ mine-mark item read (list_at sent rank) (round + 1) v (opens rank long other.1))
                ∙ ends_with_mark-push (mine item read (list_at sent rank) (round + 1)) (Mark (read v));
            before = before.before;
          }
    ]

  module _ (n round next_round : ℕ) (ended ends cast : Bool) (votes : List Vote) (handled sent : List (List (Body C))) (handled_marks : AreMarked own size n handled) (sent_marks : AreMarked own size (n + 1) sent)
      (each : length votes ≡ size) where
    pub round_ends : (ended ≡ false → round ≡ n) → (ended ≡ true → ends ≡ true) → (ends ≡ false → next_round ≡ round + 1) → (ends ≡ true → next_round ≡ round) → (ends ≡ false → cast ≡ false)
        → (ended ≡ true → (h s : List (List (Body X))) → K h s → K' h s)
        → (ended ≡ false → (h s : List (List (Body X))) → K h s → K' (append_marks own (map read votes) h) s)
        → Keeping K n round ended true handled sent → Keeping K' (n + 1) next_round ends cast (append_marks own votes handled) sent
    round_ends running stays again last uncast rests runs before = elim (either ended) [
      | inl over ↦
          let late : OthersLate item read own (round + 1) handled = λ r below other. omega (arith, before.before over, handled_marks.others r (omega (arith, handled_marks.count), other)) in
          let same : mine_each item read (round + 1) (append_marks own votes handled) ≡ mine_each item read (round + 1) handled = late_marks item read own (round + 1) votes handled late in
          let stay : next_round ≡ round = last (stays over) in
          let now : MemberKeeps K' own size (n + 1) round ends cast (mine_each item read (round + 1) (append_marks own votes handled)) (mine_each item read (round + 1) sent) = record {
            keeps = subst (λ h. K' h (mine_each item read (round + 1) sent)) (sym same) (rests over _ _ before.keeps);
            silent = λ _. before.silent (ap (λ b. b || true) over);
            before = λ _. omega (arith, before.before over);
          } in
          subst (λ r. Keeping K' (n + 1) r ends cast (append_marks own votes handled) sent) (sym stay) now
      | inr going ↦
          let opens : OthersOpen item read own (round + 1) handled = λ r below other. omega (arith, running going, handled_marks.others r (omega (arith, handled_marks.count), other)) in
          let more : mine_each item read (round + 1) (append_marks own votes handled) ≡ append_marks own (map read votes) (mine_each item read (round + 1) handled) = open_marks item read own (round + 1) votes handled opens in
          let after = marked-round own size n votes handled each handled_marks in
          let kept : K' (mine_each item read (round + 1) (append_marks own votes handled)) (mine_each item read (round + 1) sent) =
          subst (λ h. K' h (mine_each item read (round + 1) sent)) (sym more) (runs going _ _ before.keeps) in
          let far : round ≤ next_round = elim (either ends) [ inl e ↦ omega (arith, last e) | inr e ↦ omega (arith, again e) ] in
          let handled_same : mine_each item read (round + 1) (append_marks own votes handled) ≡ mine_each item read (next_round + 1) (append_marks own votes handled) =
          each-enough item read (append_marks own votes handled) (round + 1) (next_round + 1) (λ r. omega (arith, running going, marked-most own size (n + 1) _ after r)) (λ r. omega (arith, far, running going, marked-most own size (n + 1) _ after r)) in
          let sent_same : mine_each item read (round + 1) sent ≡ mine_each item read (next_round + 1) sent =
          each-enough item read sent (round + 1) (next_round + 1) (λ r. omega (arith, running going, marked-most own size (n + 1) sent sent_marks r)) (λ r. omega (arith, far, running going, marked-most own size (n + 1) sent sent_marks r)) in
          record {
            keeps = subst (K' (mine_each item read (next_round + 1) (append_marks own votes handled))) sent_same (subst (λ h. K' h (mine_each item read (round + 1) sent)) handled_same kept);
            silent = λ closed. elim (either ends) [
              | inl e ↦ subst (AreClosed own size) sent_same (before.silent (ap (λ b. b || true) going))
              | inr e ↦ absurd (cc (e, uncast e, closed))
            ];
            before = λ e. omega (arith, last e, running going);
          }
    ]
