-- What one call of a member's `work` is to the pair: it sent at most one item, and it did an item of this member alone.
use Rattle.std.proofs.Common.{◌≡◌, ℕ, zero, suc, ◌<◌, Bool, true, false, ◌⊎◌, List, [], ◌∷◌, ◌++◌, length, refl, sym, ap, ◌∙◌, subst, arith, inl, inr, length-append}
use Rattle.std.specs.Prelude.{Option, Some, None}
use Rattle.std.proofs.lemmas.Bool.{cases_lt}
use Rattle.pg_group.specs.declared.messages.Body.{Body}
use Rattle.pg_group.specs.declared.messages.Body.TheVariants.{Item}
use Rattle.pg_group.specs.declared.messages.Vote.{Vote}
use Rattle.pg_group.specs.Ranked.{append_at}
use Rattle.pg_group.specs.Supersteps.{SentAtMostOne, OnMore}
use Rattle.pg_group.specs.declared.programs.Worked.{Worked}
use Rattle.pg_group.specs.declared.programs.Worked.TheVariants.{More, Idle, Blocked}
use Rattle.pg_group.specs.Rounds.{marks}
use Rattle.pg_triggers.specs.Mine.{mine, whole, post_all}
use Rattle.pg_triggers.specs.Paired.{MemberDid}
use Rattle.pg_triggers.proofs.MineLemmas.{mine-none, whole-posts}
use Rattle.pg_triggers.proofs.MarkLemmas.{marks-item, length-append_at, size_of, size_of-append, append_past, nothing_posted, length_of_whole, none_posted}

-- the lists show which of them a body joined
same_place : {X : Type 0} (lists : List (List (Body X))) (k j : ℕ) (b c : Body X) → k < length lists → append_at lists k b ≡ append_at lists j c → k ≡ j
same_place [] k j b c h e = absurd (omega arith)
same_place (l ∷ ls) zero zero b c h e = refl
same_place (l ∷ ls) zero (suc j) b c h e = let longer : l ++ b ∷ [] ≡ l = cc in absurd (omega (arith, ap length longer, length-append l (b ∷ [])))
same_place (l ∷ ls) (suc k) zero b c h e = let longer : l ++ c ∷ [] ≡ l = cc in absurd (omega (arith, ap length longer, length-append l (c ∷ [])))
same_place (l ∷ ls) (suc k) (suc j) b c h e = let rest : append_at ls k b ≡ append_at ls j c = cc in ap suc (same_place ls k j b c (omega arith) rest)

module _ {C X : Type 0} (wrap : X → C) where
  -- posts that added one body to the member's lists added one item to the pair's
  one_added : (posts : List (ℕ × X)) (lists : List (List (Body C))) (own_lists : List (List (Body X))) (to : ℕ) (b : Body X) → length lists ≡ length own_lists → to < length own_lists
      → post_all (λ x. x) posts own_lists ≡ append_at own_lists to b → (x : X) × (post_all wrap posts lists ≡ append_at lists to (Item (wrap x)))
  one_added [] lists own_lists to b long within same = absurd (omega (arith, ap size_of same, size_of-append own_lists to b within))
  one_added (p ∷ ps) lists own_lists to b long within same = elim (cases_lt p.0 (length own_lists)) [
    | inl low ↦
        let mine = append_at own_lists p.0 (Item p.1) in
        let pairs = append_at lists p.0 (Item (wrap p.1)) in
        let same_size : size_of (post_all (λ x. x) ps mine) ≡ size_of mine = omega (arith, ap size_of same, size_of-append own_lists p.0 (Item p.1) low, size_of-append own_lists to b within) in
        let same_length : length pairs ≡ length mine = length-append_at lists p.0 (Item (wrap p.1)) ∙ long ∙ sym (length-append_at own_lists p.0 (Item p.1)) in
        let here : mine ≡ append_at own_lists to b = sym (nothing_posted (λ x. x) ps mine mine refl same_size) ∙ same in
        (p.1, nothing_posted wrap ps pairs mine same_length same_size ∙ ap (λ k. append_at lists k (Item (wrap p.1))) (same_place own_lists p.0 to (Item p.1) b low here))
    | inr high ↦
        let none : append_at own_lists p.0 (Item p.1) ≡ own_lists = append_past own_lists p.0 (Item p.1) high in
        let nothing : append_at lists p.0 (Item (wrap p.1)) ≡ lists = append_past lists p.0 (Item (wrap p.1)) (omega (arith, long)) in
        let rest = one_added ps lists own_lists to b long within (ap (post_all (λ x. x) ps) (sym none) ∙ same) in
        (rest.0, ap (post_all wrap ps) nothing ∙ rest.1)
  ]

  one_posted : (item : C → Option X) (read : Vote → Vote) → ((x : X) → item (wrap x) ≡ Some x) → (own size : ℕ) (posts : List (ℕ × X)) (lists more : List (List (Body C)))
      → more ≡ post_all wrap posts lists → SentAtMostOne own size (whole item read lists) (whole item read more) → SentAtMostOne own size lists more
  one_posted item read is own size posts lists more grown sent = elim sent [
    | inl same ↦ inl (none_posted wrap item read is posts lists more grown same)
    | inr one ↦ elim (cases_lt one.0 (length (whole item read lists))) [
      | inl low ↦
          let added = one_added posts lists (whole item read lists) one.0 (Item one.1) (sym (length_of_whole wrap item read lists)) low (sym (whole-posts item read wrap is posts lists) ∙ ap (whole item read) (sym grown) ∙ one.3) in
          inr (one.0, wrap added.0, one.2, grown ∙ added.1)
      | inr high ↦ inl (none_posted wrap item read is posts lists more grown (one.3 ∙ append_past (whole item read lists) one.0 (Item one.1) high))
    ]
  ]

  -- the same of a call between two others that sent nothing
  pub one_sent : (item : C → Option X) (read : Vote → Vote) → ((x : X) → item (wrap x) ≡ Some x) → (own own' size size' : ℕ) → own' ≡ own → size' ≡ size → (posts : List (ℕ × X)) (sent mid more after : List (List (Body C)))
      → mid ≡ sent → after ≡ more → more ≡ post_all wrap posts mid → SentAtMostOne own' size' (whole item read mid) (whole item read more) → SentAtMostOne own size sent after
  one_sent item read is own own' size size' same_own same_size posts sent mid more after begin same grown one =
      subst (λ n. SentAtMostOne n size sent after) same_own
      (subst (λ n. SentAtMostOne own' n sent after) same_size
      (subst (λ lists. SentAtMostOne own' size' lists after) begin
      (subst (SentAtMostOne own' size' mid) (sym same) (one_posted item read is own' size' posts mid more grown one))))

module _ {C X : Type 0} (item : C → Option X) (read : Vote → Vote) where
  -- an item of the other member
  whole-none : (lists : List (List (Body C))) (rank : ℕ) (c : C) → item c ≡ None → whole item read (append_at lists rank (Item c)) ≡ whole item read lists
  whole-none [] rank c e = refl
  whole-none (l ∷ ls) zero c e = ap (λ y. y ∷ whole item read ls) (ap (mine item read (l ++ Item c ∷ [])) (marks-item l c) ∙ mine-none item read l (marks l) c e)
  whole-none (l ∷ ls) (suc rank) c e = ap (λ ys. mine item read l (marks l) ∷ ys) (whole-none ls rank c e)

  whole-others : {Y : Type 0} (wrap : Y → C) → ((y : Y) → item (wrap y) ≡ None) → (posts : List (ℕ × Y)) (lists : List (List (Body C))) → whole item read (post_all wrap posts lists) ≡ whole item read lists
  whole-others wrap is [] lists = refl
  whole-others wrap is (p ∷ ps) lists = whole-others wrap is ps (append_at lists p.0 (Item (wrap p.1))) ∙ whole-none lists p.0 (wrap p.1) (is p.1)

-- a call between two others that sent nothing
pub member_did : {C X Y : Type 0} (item : C → Option X) (read : Vote → Vote) (other_item : C → Option Y) (other_read : Vote → Vote) (wrap : X → C) → ((x : X) → other_item (wrap x) ≡ None)
    → (Did : List (List (Body X)) → List (List (Body X)) → Type 0) (ended : Bool) (posts : List (ℕ × X)) (sent mid more after : List (List (Body C)))
    → mid ≡ sent → after ≡ more → more ≡ post_all wrap posts mid → ended ≡ false → Did (whole item read mid) (whole item read more) → MemberDid item read other_item other_read Did ended sent after
member_did item read other_item other_read wrap is Did ended posts sent mid more after begin same grown runs did =
    subst (λ lists. MemberDid item read other_item other_read Did ended lists after) begin
    (subst (MemberDid item read other_item other_read Did ended mid) (sym same) (record {
      runs = runs;
      did = did;
      other = ap (whole other_item other_read) grown ∙ whole-others other_item other_read wrap is posts mid;
    }))

-- a member that has ended stays, and another one did no item
pub rested : (ended : Bool) (Same Did : Type 0) → (ended ≡ true → Same) → (ended ≡ false → Did) → Same ⊎ Did
rested true Same Did rests did = inl (rests refl)
rested false Same Did rests did = inr (did refl)

pub more_both : (r : Worked) (P Q R : Type 0) → (P → Q → R) → OnMore r P → OnMore r Q → OnMore r R
more_both More P Q R f h i = f h i
more_both Idle P Q R f h i = h
more_both (Blocked to) P Q R f h i = h

pub more_so : (r : Worked) (P Q : Type 0) → (P → Q) → OnMore r P → OnMore r Q
more_so More P Q f h = f h
more_so Idle P Q f h = h
more_so (Blocked to) P Q f h = h
