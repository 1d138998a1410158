-- Lists of machines of which some had a turn, or all had, or two parts were driven apart.
use Rattle.std.proofs.Common.{◌≡◌, ◌≢◌, ℕ, zero, suc, ◌+◌, ◌<◌, ◌≤◌, Bool, true, false, List, [], ◌∷◌, ◌++◌, length, get_or, set, refl, sym, ap, ap₂, ◌∙◌, subst, arith, ⊎_elim, length-append}
use Rattle.std.specs.Prelude.{slice_get, Some, ◌&&◌, ◌↔◌, ◌⊎◌}
use Rattle.std.proofs.lemmas.Bool.{true≢false}
use Rattle.std.proofs.lemmas.List.{get_or-set_same, get_or-set_other}
use Rattle.std.proofs.lemmas.Option.{slice_get_read, slice_get_within, slice_get-get_or, get_or_from_slice_get}
use Rattle.pg_group.specs.declared.programs.Program.{Ghosts as ProgramGhosts}
use Rattle.pg_group.specs.declared.outboxes.Outbox.{Ghosts as OutboxGhosts}
use Rattle.pg_group.specs.declared.mailboxes.Mailbox.{Ghosts as MailboxGhosts}
use Rattle.pg_group.specs.Entries.{Each}
use Rattle.pg_group.proofs.Growing.{set_entry}
use Rattle.pg_run.specs.Driven.{HaveFollowed, HadTurn, HadPasses, HadGroupPass}
use Rattle.pg_run.specs.Machines.{has_ended}
use Rattle.pg_run.specs.Kept.{Follows}
use Rattle.pg_run.specs.Repeated.{Repeated, RepeatedToEnd, AllStepped}
use Rattle.pg_run.specs.declared.runners.Runner.{Runner}
use Rattle.pg_run.proofs.ByRank.{length_of_set}
use Rattle.pg_run.proofs.Promises.{follows_refl, follows_trans}

pub first_set : (a b : Bool) → (a && b) ≡ true → a ≡ true
first_set true b h = refl
first_set false b h = h

pub second_set : (a b : Bool) → (a && b) ≡ true → b ≡ true
second_set true b h = h
second_set false b h = absurd (cc)

both_set : (a b : Bool) → a ≡ true → b ≡ true → (a && b) ≡ true
both_set true b h k = k
both_set false b h k = h

module _ {T : Type 0} (Step : T → T → Type 0) where
  -- the machines at the first n places had a turn
  pub record SteppedBelow (n : ℕ) (old new : List T) : Type 0 where
    pub long : length new ≡ length old
    pub each : Each (λ place x. (was : T) × (slice_get old place ≡ Some was) × (place < n → Step was x) × (n ≤ place → x ≡ was)) new

  pub none_stepped : (xs : List T) → SteppedBelow 0 xs xs
  none_stepped xs = record { long = refl; each = λ place x at. (x, at, (λ h. absurd (omega arith)), λ _. refl) }

  pub one_stepped : (a b : List T) (n : ℕ) (was now : T) → SteppedBelow n a b → n < length b → was ≡ get_or b n was → Step was now → SteppedBelow (n + 1) a (set b n now)
  one_stepped a b n was now f h is g =
      let at : slice_get b n ≡ Some was = slice_get_read b (length b) n was refl h is in
      let before = f.each n was at in
      let same : was ≡ before.0 = before.3 (omega arith) in
      let stepped : Step before.0 now = subst (λ x. Step x now) same g in
      record {
        long = length_of_set b n now ∙ f.long;
        each = λ place x here.
            ⊎_elim (λ (y : (place ≡ n) × (x ≡ now)). (before.0, ap (slice_get a) y.0 ∙ before.1, (λ _. subst (Step before.0) (sym y.1) stepped), λ up. absurd (omega (arith, y.0))))
            (λ (y : (slice_get b place ≡ Some x) × (place ≢ n)). let z = f.each place x y.0 in (z.0, z.1, (λ low. z.2 (omega (arith, low, y.1))), λ up. z.3 (omega (arith, up)))) (set_entry b n now place x here);
      }

  pub all_stepped : (n : ℕ) (a b : List T) → length b ≤ n → SteppedBelow n a b → AllStepped Step a b
  all_stepped n a b enough f = record {
    long = f.long;
    each = λ place x at. let y = f.each place x at in (y.0, y.1, y.2 (omega (arith, slice_get_within b place x at)));
  }

  -- each machine had a turn more
  pub one_repeated : (n : ℕ) (a b c : List T) → AllStepped (Repeated Step n) a b → AllStepped Step b c → AllStepped (Repeated Step (n + 1)) a c
  one_repeated n a b c f g = record {
    long = g.long ∙ f.long;
    each = λ place x at.
        let h = g.each place x at in
        let k = f.each place h.0 h.1 in
        let more : suc n ≡ n + 1 = omega arith in
        (k.0, k.1, subst (λ m. Repeated Step m k.0 x) more (h.0, k.2, h.2));
  }

  -- a pass is over where each machine had all turns, and where all have ended
  pub pass_over : (ended : T → Bool) (n bound : ℕ) (a b : List T) → n ≤ bound → AllStepped (Repeated Step n) a b → (n ≡ bound) ⊎ Each (λ place x. ended x ≡ true) b
      → AllStepped (RepeatedToEnd Step ended bound) a b
  pass_over ended n bound a b most f over = record {
    long = f.long;
    each = λ place x at.
        let h = f.each place x at in (
          h.0,
          h.1,
          record {
            count = n;
            most = most;
            steps = h.2;
            all = λ runs. ⊎_elim (λ is. is) (λ (all : Each (λ place x. ended x ≡ true) b). absurd (true≢false (sym (all place x at) ∙ runs))) over;
          },
        );
  }

  tails_stepped : (x y : T) (xs ys : List T) → AllStepped Step (x ∷ xs) (y ∷ ys) → AllStepped Step xs ys
  tails_stepped x y xs ys f = record { long = omega (arith, f.long); each = λ place z at. f.each (suc place) z at }

  joined_each : (a b c d : List T) → AllStepped Step a b → AllStepped Step c d → (place : ℕ) (x : T) → slice_get (b ++ d) place ≡ Some x → (was : T) × (slice_get (a ++ c) place ≡ Some was) × Step was x
  joined_each [] [] c d f g place x at = g.each place x at
  joined_each [] (y ∷ b) c d f g place x at = absurd (omega (arith, f.long))
  joined_each (w ∷ a) [] c d f g place x at = absurd (omega (arith, f.long))
  joined_each (w ∷ a) (y ∷ b) c d f g zero x at = f.each zero x at
  joined_each (w ∷ a) (y ∷ b) c d f g (suc place) x at = joined_each a b c d (tails_stepped w y a b f) g place x at

  joined_long : (a b c d : List T) → length b ≡ length a → length d ≡ length c → length (b ++ d) ≡ length (a ++ c)
  joined_long a b c d f g = length-append b d ∙ (ap₂ ◌+◌ f g ∙ sym (length-append a c))

  -- two parts of a list were driven apart
  pub parts_stepped : (a b c d whole : List T) → whole ≡ a ++ c → AllStepped Step a b → AllStepped Step c d → AllStepped Step whole (b ++ d)
  parts_stepped a b c d whole is f g =
      subst (λ (w : List T). AllStepped Step w (b ++ d)) (sym is) (record { long = joined_long a b c d f.long g.long; each = joined_each a b c d f g })

module _ {T : Type 0} (ended : T → Bool) where
  pub none_ended : (xs : List T) (n : ℕ) → n ≡ 0 → Each (λ place x. place < n → ended x ≡ true) xs
  none_ended xs n is place x at below = absurd (omega (arith, below, is))

  still_there : (b : List T) (i place : ℕ) (now x : T) → place < i → i < length b → slice_get b place ≡ Some x → slice_get (set b i now) place ≡ Some x
  still_there b i place now x low within at =
      slice_get-get_or (set b i now) place x (omega (arith, low, within, length_of_set b i now))
      ∙ ap Some (get_or-set_other b i place now x (λ e. omega (arith, e, low)) ∙ get_or_from_slice_get b place x x at)

  -- the machines at one place more have ended
  pub one_more_ended : (b : List T) (i : ℕ) (now : T) (all last : Bool) → i < length b → ((all ≡ true) ↔ Each (λ place x. place < i → ended x ≡ true) b) → last ≡ ended now
      → ((all && last) ≡ true) ↔ Each (λ place x. place < i + 1 → ended x ≡ true) (set b i now)
  one_more_ended b i now all last within before is = (
    λ both place x here below.
        ⊎_elim (λ (y : (place ≡ i) × (x ≡ now)). ap ended y.1 ∙ sym is ∙ second_set all last both)
        (λ (y : (slice_get b place ≡ Some x) × (place ≢ i)). before.0 (first_set all last both) place x y.0 (omega (arith, y.1))) (set_entry b i now place x here),
    λ each.
        let here = slice_get-get_or (set b i now) i now (omega (arith, within, length_of_set b i now)) ∙ ap Some (get_or-set_same b i now now within) in
        both_set all last (before.1 (λ place x at below. each place x (still_there b i place now x below within at) (omega (arith, below)))) (is ∙ each i now here (omega arith)),
  )

module _ {P M B : Type 0} {p : ProgramGhosts P B} {m : MailboxGhosts M B} {o : OutboxGhosts M B} (same_port : (x : M) → o.Later x x) (on : (x y z : M) → o.Later x y → o.Later y z → o.Later x z) where
  turns_follow : (n : ℕ) (a b : Runner P M B p m o) → Repeated HadTurn n a b → Follows a b
  turns_follow zero a b is = subst (Follows a) (sym is) (follows_refl same_port on a)
  turns_follow (suc n) a b f = follows_trans same_port on a f.0 b (turns_follow n a f.0 f.1) f.2.follows

  -- passes over lists whose entries follow
  module _ (Step : Runner P M B p m o → Runner P M B p m o → Type 0) (follows : (a b : Runner P M B p m o) → Step a b → Follows a b) where
    repeated_follow : (n : ℕ) (a b : List (Runner P M B p m o)) → Repeated (AllStepped Step) n a b → HaveFollowed a b
    repeated_follow zero a b is = subst (HaveFollowed a) (sym is) (record { long = refl; each = λ place r at. (r, at, follows_refl same_port on r) })
    repeated_follow (suc n) a b f =
        let before = repeated_follow n a f.0 f.1 in
        record {
          long = f.2.long ∙ before.long;
          each = λ place r at.
              let h = f.2.each place r at in
              let k = before.each place h.0 h.1 in
              (k.0, k.1, follows_trans same_port on k.0 h.0 r k.2 (follows h.0 r h.2));
        }

  pub passes_follow : (n : ℕ) (a b : List (Runner P M B p m o)) → HadPasses n a b → HaveFollowed a b
  passes_follow = repeated_follow HadTurn (λ a b f. f.follows)

  pub group_passes_follow : (bound n : ℕ) (a b : List (Runner P M B p m o)) → Repeated (HadGroupPass bound) n a b → HaveFollowed a b
  group_passes_follow bound = repeated_follow (RepeatedToEnd HadTurn has_ended bound) (λ a b f. turns_follow f.count a b f.steps)
