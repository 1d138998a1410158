-- The next message of a round is found piece by piece and rank by rank.
use Rattle.std.proofs.Common.{◌≡◌, ◌≢◌, ◌⊎◌, ℕ, ◌+◌, ◌-◌, ◌*◌, ◌/◌, ◌<◌, ◌≤◌, List, refl, sym, ◌∙◌, ap, subst, inl, inr, ⊎_elim, arith, Option, Some, None, IfNone}
use Rattle.std.specs.Prelude.{slice_index}
use Rattle.std.proofs.lemmas.Bool.{cases_eq, cases_lt}
use Rattle.pg_group.specs.Ranked.{IsOther}
use Rattle.pg_boruvka.specs.declared.messages.Message.{Message}
use Rattle.pg_boruvka.specs.declared.dense.Stage.{Stage}
use Rattle.pg_boruvka.specs.declared.dense.Stage.TheVariants as stage
use Rattle.pg_boruvka.specs.Winners.{first_label, labels_of}
use Rattle.pg_boruvka.specs.Numbered.{IsPieceNo}
use Rattle.pg_boruvka.specs.Known.{View, passed_to}
use Rattle.pg_boruvka.specs.Shown.{IsIn, IsAt, IsPassed}
use Rattle.pg_boruvka.specs.Calls.{DidNoMessage, IsNext, IsNoneFrom, IsFurther}
use Rattle.pg_boruvka.proofs.Passing.{in_passed}

pub if_none : {X : Type 0} (r : Option X) (P : Type 0) → P → IfNone r P
if_none None P p = p
if_none (Some x) P p = tt

-- The pieces of a block, by its first and its past label.
piece_as : (key : ℕ → ℕ) (first past first' count number : ℕ) (m : Message) → first ≡ first' → past ≡ first' + count → IsPieceNo key first (past - first) number m → IsPieceNo key first' count number m
piece_as key first past first' count number m same ends is =
    subst (λ (x : ℕ). IsPieceNo key x count number m) same (subst (λ (x : ℕ). IsPieceNo key first x number m) (omega arith) is)

piece_back : (key : ℕ → ℕ) (first past first' count number : ℕ) (m : Message) → first ≡ first' → past ≡ first' + count → IsPieceNo key first' count number m → IsPieceNo key first (past - first) number m
piece_back key first past first' count number m same ends is =
    subst (λ (x : ℕ). IsPieceNo key first x number m) (omega arith) (subst (λ (x : ℕ). IsPieceNo key x count number m) (sym same) is)

-- What a stage has is what is due in it.
at_stage : (v : View) (s : Stage) (to number : ℕ) (m : Message) → v.stage ≡ s → IsIn v s to number m → IsAt v to number m
at_stage v s to number m is at = subst (λ (x : Stage). IsIn v x to number m) (sym is) at

in_stage : (v : View) (s : Stage) (to number : ℕ) (m : Message) → v.stage ≡ s → IsAt v to number m → IsIn v s to number m
in_stage v s to number m is at = subst (λ (x : Stage). IsIn v x to number m) is at

module _ (v : View) (to at first past : ℕ) where
  number_small : (key : ℕ → ℕ) (number : ℕ) (m : Message) → 1 ≤ first → past ≤ v.part.n + 1 → IsPieceNo key first (past - first) number m → number ≤ v.part.n
  number_small key number m low within is = omega (arith, is.below, is.stands)

  module _ (is_up : v.stage ≡ stage.Up) (is_first : first ≡ first_label v.part to) (is_past : past ≡ first_label v.part to + labels_of v.part to) where
    abbrev key : ℕ → ℕ
    key = slice_index v.known.keys

    pub up_next : (number : ℕ) (m : Message) → 1 ≤ first → past ≤ v.part.n + 1 → at ≤ number → IsPieceNo key first (past - first) number m
        → ((k : ℕ) (o : Message) → at ≤ k → k < number → IsPieceNo key first (past - first) k o → ⊥) → IsNext v to at number m
    up_next number m low within from is none = record {
      from = from;
      small = number_small key number m low within is;
      is = at_stage v stage.Up to number m is_up (piece_as key first past (first_label v.part to) (labels_of v.part to) number m is_first is_past is);
      first = λ k o early before there.
          none k o early before (piece_back key first past (first_label v.part to) (labels_of v.part to) k o is_first is_past (in_stage v stage.Up to k o is_up there));
    }

    pub up_none : ((k : ℕ) (o : Message) → at ≤ k → IsPieceNo key first (past - first) k o → ⊥) → IsNoneFrom v to at
    up_none none k o early there = none k o early (piece_back key first past (first_label v.part to) (labels_of v.part to) k o is_first is_past (in_stage v stage.Up to k o is_up there))

  module _ (is_down : v.stage ≡ stage.Down) (is_first : first ≡ first_label v.part v.part.rank) (is_past : past ≡ first_label v.part v.part.rank + labels_of v.part v.part.rank) where
    abbrev win : ℕ → ℕ
    win = slice_index v.known.winners

    pub down_next : (number : ℕ) (m : Message) → 1 ≤ first → past ≤ v.part.n + 1 → at ≤ number → IsPieceNo win first (past - first) number m
        → ((k : ℕ) (o : Message) → at ≤ k → k < number → IsPieceNo win first (past - first) k o → ⊥) → IsNext v to at number m
    down_next number m low within from is none = record {
      from = from;
      small = number_small win number m low within is;
      is = at_stage v stage.Down to number m is_down (piece_as win first past (first_label v.part v.part.rank) (labels_of v.part v.part.rank) number m is_first is_past is);
      first = λ k o early before there.
          none k o early before (piece_back win first past (first_label v.part v.part.rank) (labels_of v.part v.part.rank) k o is_first is_past (in_stage v stage.Down to k o is_down there));
    }

    pub down_none : ((k : ℕ) (o : Message) → at ≤ k → IsPieceNo win first (past - first) k o → ⊥) → IsNoneFrom v to at
    down_none none k o early there = none k o early (piece_back win first past (first_label v.part v.part.rank) (labels_of v.part v.part.rank) k o is_first is_past (in_stage v stage.Down to k o is_down there))

  -- The same, of a list that is read.
  pub up_next_read : (ks : List ℕ) → ks ≡ v.known.keys → v.stage ≡ stage.Up → first ≡ first_label v.part to → past ≡ first_label v.part to + labels_of v.part to → 1 ≤ first → past ≤ v.part.n + 1
      → (number : ℕ) (m : Message) → at ≤ number → IsPieceNo (slice_index ks) first (past - first) number m
      → ((k : ℕ) (o : Message) → at ≤ k → k < number → IsPieceNo (slice_index ks) first (past - first) k o → ⊥) → IsNext v to at number m
  up_next_read ks read is_up is_first is_past low within number m from is none =
      up_next is_up is_first is_past number m low within from (subst (λ (l : List ℕ). IsPieceNo (slice_index l) first (past - first) number m) read is)
      (λ k o early before there. none k o early before (subst (λ (l : List ℕ). IsPieceNo (slice_index l) first (past - first) k o) (sym read) there))

  pub up_none_read : (ks : List ℕ) → ks ≡ v.known.keys → v.stage ≡ stage.Up → first ≡ first_label v.part to → past ≡ first_label v.part to + labels_of v.part to
      → ((k : ℕ) (o : Message) → at ≤ k → IsPieceNo (slice_index ks) first (past - first) k o → ⊥) → IsNoneFrom v to at
  up_none_read ks read is_up is_first is_past none =
      up_none is_up is_first is_past (λ k o early there. none k o early (subst (λ (l : List ℕ). IsPieceNo (slice_index l) first (past - first) k o) (sym read) there))

  pub down_next_read : (ks : List ℕ) → ks ≡ v.known.winners → v.stage ≡ stage.Down → first ≡ first_label v.part v.part.rank → past ≡ first_label v.part v.part.rank + labels_of v.part v.part.rank
      → 1 ≤ first → past ≤ v.part.n + 1 → (number : ℕ) (m : Message) → at ≤ number → IsPieceNo (slice_index ks) first (past - first) number m
      → ((k : ℕ) (o : Message) → at ≤ k → k < number → IsPieceNo (slice_index ks) first (past - first) k o → ⊥) → IsNext v to at number m
  down_next_read ks read is_down is_first is_past low within number m from is none =
      down_next is_down is_first is_past number m low within from (subst (λ (l : List ℕ). IsPieceNo (slice_index l) first (past - first) number m) read is)
      (λ k o early before there. none k o early before (subst (λ (l : List ℕ). IsPieceNo (slice_index l) first (past - first) k o) (sym read) there))

  pub down_none_read : (ks : List ℕ) → ks ≡ v.known.winners → v.stage ≡ stage.Down → first ≡ first_label v.part v.part.rank → past ≡ first_label v.part v.part.rank + labels_of v.part v.part.rank
      → ((k : ℕ) (o : Message) → at ≤ k → IsPieceNo (slice_index ks) first (past - first) k o → ⊥) → IsNoneFrom v to at
  down_none_read ks read is_down is_first is_past none =
      down_none is_down is_first is_past (λ k o early there. none k o early (subst (λ (l : List ℕ). IsPieceNo (slice_index l) first (past - first) k o) (sym read) there))

module _ (v : View) (to number : ℕ) where
  -- No message to this rank is left.
  pub none_further : IsNoneFrom v v.to v.at → (r k : ℕ) (m : Message) → IsAt v r k m → IsPassed (passed_to v (v.to + 1) 0) r k → IsPassed v r k
  none_further none r k m at (inl early) = ⊎_elim
      (λ same. ⊎_elim (λ below. inr (same, below)) (λ above. absurd (none k m above (subst (λ (x : ℕ). IsAt v x k m) same at))) (cases_lt k v.at))
      (λ apart. inl (omega arith))
      (cases_eq r v.to)
  none_further none r k m at (inr late) = absurd (omega (arith, late.1))

-- To go further, and then further.
further_on : (v : View) (a b c d : ℕ) → IsFurther v (passed_to v a b) → IsFurther (passed_to v a b) (passed_to v c d) → IsFurther v (passed_to v c d)
further_on v a b c d first second = record {
  same = refl;
  stays = λ r k p. second.stays r k (first.stays r k p);
  none = λ r k m other at p. first.none r k m other at (second.none r k m other (in_passed v v.stage a b r k m at) p);
}

pub then_further : (v w : View) (c d : ℕ) → IsFurther v w → IsFurther w (passed_to w c d) → IsFurther v (passed_to w c d)
then_further v w c d first second =
    let same : w ≡ passed_to v w.to w.at = first.same in
    subst (λ (x : View). IsFurther v (passed_to x c d)) (sym same)
    (further_on v w.to w.at c d (subst (IsFurther v) same first) (subst (λ (x : View). IsFurther x (passed_to x c d)) same second))

module _ (w : View) where
  -- Up to the next message.
  pub further_to : (number : ℕ) (m : Message) → IsNext w w.to w.at number m → IsFurther w (passed_to w w.to number)
  further_to number m next = record {
    same = refl;
    stays = λ r k p. ⊎_elim (λ early. inl early) (λ late. inr (late.0, omega (arith, late.1, next.from))) p;
    none = λ r k o other at p. ⊎_elim
        (λ early. inl early)
        (λ late. ⊎_elim
        (λ before. inr (late.0, before))
        (λ after. absurd (next.first k o after late.1 (subst (λ (x : ℕ). IsAt w x k o) late.0 at)))
        (cases_lt k w.at))
        p;
  }

  -- Past a rank to which no message is left, and past the own rank.
  pub further_past : (w.to ≡ w.part.rank) ⊎ IsNoneFrom w w.to w.at → IsFurther w (passed_to w (w.to + 1) 0)
  further_past done = record {
    same = refl;
    stays = λ r k p. ⊎_elim (λ early. inl (omega arith)) (λ late. inl (omega (arith, late.0))) p;
    none = λ r k o other at p. ⊎_elim
        (λ own. past_own own r k other p)
        (λ none. none_further w 0 0 none r k o at p)
        done;
  } where
    past_own : w.to ≡ w.part.rank → (r k : ℕ) → IsOther w.part.rank w.part.ranks r → IsPassed (passed_to w (w.to + 1) 0) r k → IsPassed w r k
    past_own own r k other (inl early) = ⊎_elim (λ same. absurd (other.1 (same ∙ own))) (λ apart. inl (omega arith)) (cases_eq r w.to)
    past_own own r k other (inr late) = absurd (omega (arith, late.1))
