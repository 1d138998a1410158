-- What each call of a pair does to what both its members keep.
use Rattle.std.proofs.Common.{◌≡◌, ℕ, zero, suc, ◌+◌, ◌<◌, ◌≤◌, max, Bool, true, false, ◌&&◌, ◌||◌, List, [], ◌∷◌, length, map, refl, sym, ap, ◌∙◌, subst, arith, inl, inr}
use Rattle.std.specs.Prelude.{Option, Some, None, slice_get}
use Rattle.pg_group.specs.declared.messages.Body.{Body}
use Rattle.pg_group.specs.declared.messages.Body.TheVariants.{Item, Mark}
use Rattle.pg_group.specs.declared.messages.Vote.{Vote}
use Rattle.pg_group.specs.Ranked.{append_at}
use Rattle.pg_group.specs.Supersteps.{append_others, append_marks, nothing, OnBlocked}
use Rattle.pg_group.specs.declared.programs.Worked.{Worked}
use Rattle.pg_group.specs.declared.programs.Worked.TheVariants.{More, Idle, Blocked}
use Rattle.pg_triggers.specs.declared.items.Of2.{Of2}
use Rattle.pg_triggers.specs.declared.items.Of2.TheVariants.{First, Second}
use Rattle.pg_triggers.specs.Mine.{first_item, second_item, first_vote, second_vote, mine_each, whole, post_all}
use Rattle.pg_triggers.specs.Paired.{AreMarked, MemberKeeps, BothKeep, over, is_cast}
use Rattle.pg_triggers.proofs.MineLemmas.{posts-none}
use Rattle.pg_triggers.proofs.MarkLemmas.{marked-item, marked-posts, marked-vote, marked-round, marked-nothing, mine-nothing, none_posted}
use Rattle.pg_triggers.proofs.MemberLemmas.{either, handles, ignores, works, votes_on, round_ends}

-- what a member keeps, by the lists of what it handled and sent
abbrev pub Promise : Type 0 → Type 1
Promise X = List (List (Body X)) → List (List (Body X)) → Type 0

module _ {A B : Type 0} where
  module _ (KA : Promise A) (KB : Promise B) where
    pub opens : (own size rA rB : ℕ) (eA eB : Bool) (vote : Option Vote) → rA ≡ 0 → rB ≡ 0 → eA ≡ false → eB ≡ false → vote ≡ None
        → KA (nothing size) (nothing size) → KB (nothing size) (nothing size)
        → BothKeep KA KB own size rA rB eA eB vote (nothing {B = Of2 A B} size) (nothing {B = Of2 A B} size)
    opens own size rA rB eA eB vote a b not_a not_b none first second =
        let none_over : over (max rA rB) (eA && eB) ≡ 0 = ap (λ e. over (max rA rB) (e && eB)) not_a ∙ omega (arith, a, b) in
        let none_cast : over (max rA rB) (is_cast vote) ≡ 0 = ap (λ v. over (max rA rB) (is_cast v)) none ∙ omega (arith, a, b) in
        record {
          handled_marks = subst (λ n. AreMarked own size n (nothing {B = Of2 A B} size)) (sym none_over) (marked-nothing (Of2 A B) own size);
          sent_marks = subst (λ n. AreMarked own size n (nothing {B = Of2 A B} size)) (sym none_cast) (marked-nothing (Of2 A B) own size);
          first = record {
            keeps = subst (λ l. KA l l) (sym (mine-nothing first_item first_vote (rA + 1) size)) first;
            silent = λ closed. absurd (cc (ap (λ e. e || is_cast vote) not_a, ap is_cast none, closed));
            before = λ e. absurd (cc (e, not_a));
          };
          second = record {
            keeps = subst (λ l. KB l l) (sym (mine-nothing second_item second_vote (rB + 1) size)) second;
            silent = λ closed. absurd (cc (ap (λ e. e || is_cast vote) not_b, ap is_cast none, closed));
            before = λ e. absurd (cc (e, not_b));
          };
        }

    pub both_along : (own own' size size' rA rA' rB rB' : ℕ) (eA eB : Bool) (vote : Option Vote) (handled sent : List (List (Body (Of2 A B)))) → own' ≡ own → size' ≡ size → rA' ≡ rA → rB' ≡ rB
        → BothKeep KA KB own size rA rB eA eB vote handled sent → BothKeep KA KB own' size' rA' rB' eA eB vote handled sent
    both_along own own' size size' rA rA' rB rB' eA eB vote handled sent o s a b before =
        subst (λ x. BothKeep KA KB x size' rA' rB' eA eB vote handled sent) (sym o)
        (subst (λ x. BothKeep KA KB own x rA' rB' eA eB vote handled sent) (sym s)
        (subst (λ x. BothKeep KA KB own size x rB' eA eB vote handled sent) (sym a)
        (subst (λ x. BothKeep KA KB own size rA x eA eB vote handled sent) (sym b) before)))

  module _ (KA KA' : Promise A) (KB KB' : Promise B) (own size rA rB : ℕ) (eA eB : Bool) (vote : Option Vote) (handled sent : List (List (Body (Of2 A B))))
      (before : BothKeep KA KB own size rA rB eA eB vote handled sent) where
    pub first_handles : (rank : ℕ) (x : A) → ((h s : List (List (Body A))) → KA h s → KA' (append_at h rank (Item x)) s) → BothKeep KA' KB own size rA rB eA eB vote (append_at handled rank (Item (First x))) sent
    first_handles rank x step = record {
      handled_marks = marked-item own size _ rank (First x) handled before.handled_marks;
      sent_marks = before.sent_marks;
      first = handles first_item first_vote KA KA' own size _ rA eA (is_cast vote) handled sent rank (First x) x refl step before.first;
      second = ignores second_item second_vote KB KB own size _ rB eB (is_cast vote) handled sent rank (First x) refl before.second;
    }

    pub second_handles : (rank : ℕ) (x : B) → ((h s : List (List (Body B))) → KB h s → KB' (append_at h rank (Item x)) s) → BothKeep KA KB' own size rA rB eA eB vote (append_at handled rank (Item (Second x))) sent
    second_handles rank x step = record {
      handled_marks = marked-item own size _ rank (Second x) handled before.handled_marks;
      sent_marks = before.sent_marks;
      first = ignores first_item first_vote KA KA own size _ rA eA (is_cast vote) handled sent rank (Second x) refl before.first;
      second = handles second_item second_vote KB KB' own size _ rB eB (is_cast vote) handled sent rank (Second x) x refl step before.second;
    }

    module _ (none : vote ≡ None) (leads_A : eA ≡ false → rB ≤ rA) (leads_B : eB ≡ false → rA ≤ rB) where
      uncast : is_cast vote ≡ false
      uncast = ap is_cast none

      marked_A : (lists : List (List (Body (Of2 A B)))) → AreMarked own size (over (max rA rB) (is_cast vote)) lists → eA ≡ false → AreMarked own size rA lists
      marked_A lists m runs =
          let number : over (max rA rB) (is_cast vote) ≡ rA = ap (over (max rA rB)) uncast ∙ omega (arith, leads_A runs) in
          subst (λ n. AreMarked own size n lists) number m

      marked_B : (lists : List (List (Body (Of2 A B)))) → AreMarked own size (over (max rA rB) (is_cast vote)) lists → eB ≡ false → AreMarked own size rB lists
      marked_B lists m runs =
          let number : over (max rA rB) (is_cast vote) ≡ rB = ap (over (max rA rB)) uncast ∙ omega (arith, leads_B runs) in
          subst (λ n. AreMarked own size n lists) number m

      pub first_works : (posts : List (ℕ × A)) (more : List (List (Body (Of2 A B)))) → more ≡ post_all First posts sent → (eA ≡ true → more ≡ sent) → (eA ≡ true → (h s : List (List (Body A))) → KA h s → KA' h s)
          → ((h : List (List (Body A))) → KA h (whole first_item first_vote sent) → KA' h (whole first_item first_vote more)) → BothKeep KA' KB own size rA rB eA eB vote handled more
      first_works posts more grown same rests step =
          let marked : AreMarked own size (over (max rA rB) (is_cast vote)) more = subst (AreMarked own size (over (max rA rB) (is_cast vote))) (sym grown) (marked-posts First own size _ posts sent before.sent_marks) in
          record {
            handled_marks = before.handled_marks;
            sent_marks = marked;
            first = works first_item first_vote KA KA' own size _ rA eA (is_cast vote) handled sent more uncast (marked_A sent before.sent_marks) (marked_A more marked) same rests step before.first;
            second = subst (λ s. MemberKeeps KB own size (over (max rA rB) (eA && eB)) rB eB (is_cast vote) (mine_each second_item second_vote (rB + 1) handled) s)
                (sym (ap (mine_each second_item second_vote (rB + 1)) grown ∙ posts-none second_item second_vote First (λ x. refl) posts sent (rB + 1))) before.second;
          }

      pub second_works : (posts : List (ℕ × B)) (more : List (List (Body (Of2 A B)))) → more ≡ post_all Second posts sent → (eB ≡ true → more ≡ sent) → (eB ≡ true → (h s : List (List (Body B))) → KB h s → KB' h s)
          → ((h : List (List (Body B))) → KB h (whole second_item second_vote sent) → KB' h (whole second_item second_vote more)) → BothKeep KA KB' own size rA rB eA eB vote handled more
      second_works posts more grown same rests step =
          let marked : AreMarked own size (over (max rA rB) (is_cast vote)) more = subst (AreMarked own size (over (max rA rB) (is_cast vote))) (sym grown) (marked-posts Second own size _ posts sent before.sent_marks) in
          record {
            handled_marks = before.handled_marks;
            sent_marks = marked;
            first = subst (λ s. MemberKeeps KA own size (over (max rA rB) (eA && eB)) rA eA (is_cast vote) (mine_each first_item first_vote (rA + 1) handled) s)
                (sym (ap (mine_each first_item first_vote (rA + 1)) grown ∙ posts-none first_item first_vote Second (λ x. refl) posts sent (rA + 1))) before.first;
            second = works second_item second_vote KB KB' own size _ rB eB (is_cast vote) handled sent more uncast (marked_B sent before.sent_marks) (marked_B more marked) same rests step before.second;
          }

      module _ (v : Vote) (going : (eA && eB) ≡ false) (rests_A : eA ≡ true → (h s : List (List (Body A))) → KA h s → KA' h s) (rests_B : eB ≡ true → (h s : List (List (Body B))) → KB h s → KB' h s)
          (runs_A : eA ≡ false → (h s : List (List (Body A))) → KA h s → KA' h (append_others own (Mark (first_vote v)) s))
          (runs_B : eB ≡ false → (h s : List (List (Body B))) → KB h s → KB' h (append_others own (Mark (second_vote v)) s)) where
        rounds : over (max rA rB) (eA && eB) ≡ max rA rB
        rounds = ap (over (max rA rB)) going

        sent_before : AreMarked own size (max rA rB) sent
        sent_before = subst (λ n. AreMarked own size n sent) (ap (over (max rA rB)) uncast) before.sent_marks

        first_before : MemberKeeps KA own size (max rA rB) rA eA false (mine_each first_item first_vote (rA + 1) handled) (mine_each first_item first_vote (rA + 1) sent)
        first_before = subst (λ c. MemberKeeps KA own size (max rA rB) rA eA c (mine_each first_item first_vote (rA + 1) handled) (mine_each first_item first_vote (rA + 1) sent)) uncast
            (subst (λ n. MemberKeeps KA own size n rA eA (is_cast vote) (mine_each first_item first_vote (rA + 1) handled) (mine_each first_item first_vote (rA + 1) sent)) rounds before.first)

        second_before : MemberKeeps KB own size (max rA rB) rB eB false (mine_each second_item second_vote (rB + 1) handled) (mine_each second_item second_vote (rB + 1) sent)
        second_before = subst (λ c. MemberKeeps KB own size (max rA rB) rB eB c (mine_each second_item second_vote (rB + 1) handled) (mine_each second_item second_vote (rB + 1) sent)) uncast
            (subst (λ n. MemberKeeps KB own size n rB eB (is_cast vote) (mine_each second_item second_vote (rB + 1) handled) (mine_each second_item second_vote (rB + 1) sent)) rounds before.second)

        pub both_vote : BothKeep KA' KB' own size rA rB eA eB (Some v) handled (append_others own (Mark v) sent)
        both_vote = record {
          handled_marks = before.handled_marks;
          sent_marks = marked-vote own size (max rA rB) v sent sent_before;
          first = subst (λ n. MemberKeeps KA' own size n rA eA true (mine_each first_item first_vote (rA + 1) handled) (mine_each first_item first_vote (rA + 1) (append_others own (Mark v) sent))) (sym rounds)
              (votes_on first_item first_vote KA KA' own size (max rA rB) rA eA v handled sent sent_before (λ runs. omega (arith, leads_A runs)) rests_A runs_A first_before);
          second = subst (λ n. MemberKeeps KB' own size n rB eB true (mine_each second_item second_vote (rB + 1) handled) (mine_each second_item second_vote (rB + 1) (append_others own (Mark v) sent))) (sym rounds)
              (votes_on second_item second_vote KB KB' own size (max rA rB) rB eB v handled sent sent_before (λ runs. omega (arith, leads_B runs)) rests_B runs_B second_before);
        }

    -- a round ends, in which a vote was cast; both members end or go on
    module _ (rA' rB' : ℕ) (eA' eB' : Bool) (vote' : Option Vote) (votes : List Vote) (each : length votes ≡ size) (cast : is_cast vote ≡ true) (going : (eA && eB) ≡ false)
        (cast' : is_cast vote' ≡ (eA' && eB')) (leads_A : eA ≡ false → rB ≤ rA) (leads_B : eB ≡ false → rA ≤ rB)
        (stays_A : eA ≡ true → eA' ≡ true) (again_A : eA' ≡ false → rA' ≡ rA + 1) (last_A : eA' ≡ true → rA' ≡ rA)
        (stays_B : eB ≡ true → eB' ≡ true) (again_B : eB' ≡ false → rB' ≡ rB + 1) (last_B : eB' ≡ true → rB' ≡ rB)
        (rests_A : eA ≡ true → (h s : List (List (Body A))) → KA h s → KA' h s) (rests_B : eB ≡ true → (h s : List (List (Body B))) → KB h s → KB' h s)
        (runs_A : eA ≡ false → (h s : List (List (Body A))) → KA h s → KA' (append_marks own (map first_vote votes) h) s)
        (runs_B : eB ≡ false → (h s : List (List (Body B))) → KB h s → KB' (append_marks own (map second_vote votes) h) s) where
      went_on : (e e' : Bool) → (e ≡ true → e' ≡ true) → e' ≡ false → e ≡ false
      went_on e e' stays ends = elim (either e) [ inl h ↦ absurd (cc (stays h, ends)) | inr h ↦ h ]

      one_more : over (max rA' rB') (eA' && eB') ≡ max rA rB + 1
      one_more = elim (either eA') [
        | inl a ↦ elim (either eB') [
          | inl b ↦ ap (over (max rA' rB')) (ap (λ e. e && eB') a ∙ b) ∙ omega (arith, last_A a, last_B b)
          | inr b ↦ ap (over (max rA' rB')) (ap (λ e. e && eB') a ∙ b) ∙ omega (arith, last_A a, again_B b, leads_B (went_on eB eB' stays_B b))
        ]
        | inr a ↦ elim (either eB') [
          | inl b ↦ ap (λ e. over (max rA' rB') (e && eB')) a ∙ omega (arith, again_A a, last_B b, leads_A (went_on eA eA' stays_A a))
          | inr b ↦ ap (λ e. over (max rA' rB') (e && eB')) a ∙ omega (arith, again_A a, again_B b)
        ]
      ]

      rounds_over : over (max rA rB) (eA && eB) ≡ max rA rB
      rounds_over = ap (over (max rA rB)) going

      handled_in_round : AreMarked own size (max rA rB) handled
      handled_in_round = subst (λ k. AreMarked own size k handled) rounds_over before.handled_marks

      sent_in_round : AreMarked own size (max rA rB + 1) sent
      sent_in_round = subst (λ k. AreMarked own size k sent) (ap (over (max rA rB)) cast) before.sent_marks

      first_in_round : MemberKeeps KA own size (max rA rB) rA eA true (mine_each first_item first_vote (rA + 1) handled) (mine_each first_item first_vote (rA + 1) sent)
      first_in_round = subst (λ c. MemberKeeps KA own size (max rA rB) rA eA c (mine_each first_item first_vote (rA + 1) handled) (mine_each first_item first_vote (rA + 1) sent)) cast
          (subst (λ k. MemberKeeps KA own size k rA eA (is_cast vote) (mine_each first_item first_vote (rA + 1) handled) (mine_each first_item first_vote (rA + 1) sent)) rounds_over before.first)

      second_in_round : MemberKeeps KB own size (max rA rB) rB eB true (mine_each second_item second_vote (rB + 1) handled) (mine_each second_item second_vote (rB + 1) sent)
      second_in_round = subst (λ c. MemberKeeps KB own size (max rA rB) rB eB c (mine_each second_item second_vote (rB + 1) handled) (mine_each second_item second_vote (rB + 1) sent)) cast
          (subst (λ k. MemberKeeps KB own size k rB eB (is_cast vote) (mine_each second_item second_vote (rB + 1) handled) (mine_each second_item second_vote (rB + 1) sent)) rounds_over before.second)

      off_A : eA' ≡ false → is_cast vote' ≡ false
      off_A a = cast' ∙ ap (λ e. e && eB') a

      off_B : eB' ≡ false → is_cast vote' ≡ false
      off_B b = cast' ∙ elim (either eA') [ inl a ↦ ap (λ e. e && eB') a ∙ b | inr a ↦ ap (λ e. e && eB') a ]

      pub both_end : BothKeep KA' KB' own size rA' rB' eA' eB' vote' (append_marks own votes handled) sent
      both_end = record {
        handled_marks = subst (λ k. AreMarked own size k (append_marks own votes handled)) (sym one_more) (marked-round own size (max rA rB) votes handled each handled_in_round);
        sent_marks = subst (λ k. AreMarked own size k sent) (sym (ap (over (max rA' rB')) cast' ∙ one_more)) sent_in_round;
        first = subst (λ k. MemberKeeps KA' own size k rA' eA' (is_cast vote') (mine_each first_item first_vote (rA' + 1) (append_marks own votes handled)) (mine_each first_item first_vote (rA' + 1) sent)) (sym one_more)
            (round_ends first_item first_vote KA KA' own size (max rA rB) rA rA' eA eA' (is_cast vote') votes handled sent handled_in_round sent_in_round each
            (λ runs. omega (arith, leads_A runs)) stays_A again_A last_A off_A rests_A runs_A first_in_round);
        second = subst (λ k. MemberKeeps KB' own size k rB' eB' (is_cast vote') (mine_each second_item second_vote (rB' + 1) (append_marks own votes handled)) (mine_each second_item second_vote (rB' + 1) sent)) (sym one_more)
            (round_ends second_item second_vote KB KB' own size (max rA rB) rB rB' eB eB' (is_cast vote') votes handled sent handled_in_round sent_in_round each
            (λ runs. omega (arith, leads_B runs)) stays_B again_B last_B off_B rests_B runs_B second_in_round);
      }

-- What a member's Keeps says of another way to write its lists and states.
module _ {X : Type 0} (K : Promise X) where
  pub same_mark : (own own' : ℕ) (v w : Vote) (h s : List (List (Body X))) → own' ≡ own → v ≡ w → K h (append_others own' (Mark v) s) → K h (append_others own (Mark w) s)
  same_mark own own' v w h s o e k = subst (λ u. K h (append_others own (Mark u) s)) e (subst (λ x. K h (append_others x (Mark v) s)) o k)

  pub same_marks : (own own' : ℕ) (vs ws : List Vote) (h s : List (List (Body X))) → own' ≡ own → vs ≡ ws → K (append_marks own' vs h) s → K (append_marks own ws h) s
  same_marks own own' vs ws h s o e k = subst (λ us. K (append_marks own us h) s) e (subst (λ x. K (append_marks x vs h) s) o k)

-- a vote whose c and d are 0 is what a member reads of it
pub narrow_vote : (v : Vote) (a b : ℕ) → v.c ≡ 0 → v.d ≡ 0 → v.a ≡ a → v.b ≡ b → v ≡ record { a = a; b = b; c = 0; d = 0 }
narrow_vote v a b c d e f = λ i. record { a = e i; b = f i; c = c i; d = d i }

module _ {A B : Type 0} (KA KA' : Promise A) (KB KB' : Promise B) (own size rA rB : ℕ) (eA eB : Bool) (vote : Option Vote) (handled sent : List (List (Body (Of2 A B))))
    (before : BothKeep KA KB own size rA rB eA eB vote handled sent) where
  pub first_handled : (own' size' rA' : ℕ) → own' ≡ own → size' ≡ size → rA' ≡ rA → (rank : ℕ) (body : Of2 A B) (x : A) → body ≡ First x → ((h s : List (List (Body A))) → KA h s → KA' (append_at h rank (Item x)) s)
      → BothKeep KA' KB own' size' rA' rB eA eB vote (append_at handled rank (Item body)) sent
  first_handled own' size' rA' o s r rank body x is step =
      both_along KA' KB own own' size size' rA rA' rB rB eA eB vote (append_at handled rank (Item body)) sent o s r refl
      (subst (λ b. BothKeep KA' KB own size rA rB eA eB vote (append_at handled rank (Item b)) sent) (sym is) (first_handles KA KA' KB KB own size rA rB eA eB vote handled sent before rank x step))

  pub second_handled : (rB' : ℕ) → rB' ≡ rB → (rank : ℕ) (body : Of2 A B) (x : B) → body ≡ Second x → ((h s : List (List (Body B))) → KB h s → KB' (append_at h rank (Item x)) s)
      → BothKeep KA KB' own size rA rB' eA eB vote (append_at handled rank (Item body)) sent
  second_handled rB' r rank body x is step =
      both_along KA KB' own own size size rA rA rB rB' eA eB vote (append_at handled rank (Item body)) sent refl refl refl r
      (subst (λ b. BothKeep KA KB' own size rA rB eA eB vote (append_at handled rank (Item b)) sent) (sym is) (second_handles KA KA KB KB' own size rA rB eA eB vote handled sent before rank x step))

  module _ (none : vote ≡ None) (leads_A : eA ≡ false → rB ≤ rA) (leads_B : eB ≡ false → rA ≤ rB) where
    pub first_worked : (own' size' rA' : ℕ) → own' ≡ own → size' ≡ size → rA' ≡ rA → (posts : List (ℕ × A)) (more after : List (List (Body (Of2 A B)))) → after ≡ more → more ≡ post_all First posts sent
        → (eA ≡ true → whole first_item first_vote more ≡ whole first_item first_vote sent) → (eA ≡ true → (h s : List (List (Body A))) → KA h s → KA' h s)
        → ((h : List (List (Body A))) → KA h (whole first_item first_vote sent) → KA' h (whole first_item first_vote more)) → BothKeep KA' KB own' size' rA' rB eA eB vote handled after
    first_worked own' size' rA' o s r posts more after same grown quiet rests step =
        both_along KA' KB own own' size size' rA rA' rB rB eA eB vote handled after o s r refl
        (subst (BothKeep KA' KB own size rA rB eA eB vote handled) (sym same)
        (first_works KA KA' KB KB own size rA rB eA eB vote handled sent before none leads_A leads_B posts more grown
        (λ ended. none_posted First first_item first_vote (λ x. refl) posts sent more grown (quiet ended)) rests step))

    pub second_worked : (rB' : ℕ) → rB' ≡ rB → (posts : List (ℕ × B)) (mid more after : List (List (Body (Of2 A B)))) → mid ≡ sent → after ≡ more → more ≡ post_all Second posts mid
        → (eB ≡ true → whole second_item second_vote more ≡ whole second_item second_vote mid) → (eB ≡ true → (h s : List (List (Body B))) → KB h s → KB' h s)
        → ((h : List (List (Body B))) → KB h (whole second_item second_vote mid) → KB' h (whole second_item second_vote more)) → BothKeep KA KB' own size rA rB' eA eB vote handled after
    second_worked rB' r posts mid more after begin same grown quiet rests step =
        let grown_here : more ≡ post_all Second posts sent = grown ∙ ap (post_all Second posts) begin in
        both_along KA KB' own own size size rA rA rB rB' eA eB vote handled after refl refl refl r
        (subst (BothKeep KA KB' own size rA rB eA eB vote handled) (sym same)
        (second_works KA KA KB KB' own size rA rB eA eB vote handled sent before none leads_A leads_B posts more grown_here
        (λ ended. none_posted Second second_item second_vote (λ x. refl) posts sent more grown_here (quiet ended ∙ ap (whole second_item second_vote) begin)) rests
        (λ h k. step h (subst (KB h) (ap (whole second_item second_vote) (sym begin)) k))))

pub blocked_so : (r : Worked) (P Q : ℕ → Type 0) → ((to : ℕ) → P to → Q to) → OnBlocked r P → OnBlocked r Q
blocked_so More P Q f h = h
blocked_so Idle P Q f h = h
blocked_so (Blocked to) P Q f h = f to.0 h

-- the own vote of a round that ends was cast
pub cast_at : (votes : List Vote) (own : ℕ) (vote : Option Vote) → own < length votes → slice_get votes own ≡ vote → is_cast vote ≡ true
cast_at [] own vote h e = absurd (omega arith)
cast_at (v ∷ vs) zero vote h e = ap is_cast (sym e)
cast_at (v ∷ vs) (suc own) vote h e = cast_at vs own vote (omega arith) e

pub not_both : (b : Bool) → b ≡ true → b ≡ false → ⊥
not_both b holds fails = absurd (cc (holds, fails))
