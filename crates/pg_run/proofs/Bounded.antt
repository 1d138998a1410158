-- What the steps of a turn take and send at most.
use Rattle.std.proofs.Common.{◌≡◌, ◌≢◌, inl, inr, ℕ, zero, suc, ◌+◌, ◌<◌, ◌≤◌, List, [], ◌∷◌, ◌++◌, length, refl, ap, ◌∙◌, arith, length-append}
use Rattle.std.proofs.lemmas.Bool.{cases_eq, cases_lt}
use Rattle.pg_group.specs.declared.messages.Body.{Body}
use Rattle.pg_group.specs.declared.messages.Body.TheVariants.{Item, Mark}
use Rattle.pg_group.specs.declared.messages.Vote.{Vote}
use Rattle.pg_group.specs.declared.programs.Program.{Ghosts as ProgramGhosts}
use Rattle.pg_group.specs.declared.outboxes.Outbox.{Ghosts as OutboxGhosts}
use Rattle.pg_group.specs.declared.mailboxes.Mailbox.{Ghosts as MailboxGhosts}
use Rattle.pg_group.specs.Ranked.{append_at, list_at}
use Rattle.pg_group.specs.Supersteps.{SentAtMostOne}
use Rattle.pg_run.specs.Bounds.{item_count, items_together, AtMost, OnlyFrom}
use Rattle.pg_run.specs.declared.runners.Runner.{Runner}
use Rattle.pg_run.proofs.ByRank.{at_append_other}

module _ {B : Type 0} where
  one_more_at : (lists : List (List (Body B))) (k rank : ℕ) (x : Body B) → length (list_at (append_at lists k x) rank) ≤ length (list_at lists rank) + 1
  one_more_at [] k rank x = omega arith
  one_more_at (l ∷ ls) zero zero x = omega (arith, length-append l (x ∷ []))
  one_more_at (l ∷ ls) zero (suc rank) x = omega arith
  one_more_at (l ∷ ls) (suc k) zero x = omega arith
  one_more_at (l ∷ ls) (suc k) (suc rank) x = one_more_at ls k rank x

  pub took_only : (before after : List (List (Body B))) (k : ℕ) (x : Body B) → after ≡ append_at before k x → (rank : ℕ) → rank ≢ k → list_at after rank ≡ list_at before rank
  took_only before after k x took rank other = ap (λ l. list_at l rank) took ∙ at_append_other before k rank x other

  pub same_only : (before after : List (List (Body B))) (k : ℕ) → after ≡ before → (rank : ℕ) → rank ≢ k → list_at after rank ≡ list_at before rank
  same_only before after k same rank other = ap (λ l. list_at l rank) same

  count_item : (bs : List (Body B)) (x : B) → item_count (bs ++ Item x ∷ []) ≡ item_count bs + 1
  count_item [] x = refl
  count_item (Item y ∷ bs) x = omega (arith, count_item bs x)
  count_item (Mark v ∷ bs) x = count_item bs x

  count_mark : (bs : List (Body B)) (v : Vote) → item_count (bs ++ Mark v ∷ []) ≡ item_count bs
  count_mark [] v = refl
  count_mark (Item y ∷ bs) v = ap suc (count_mark bs v)
  count_mark (Mark w ∷ bs) v = count_mark bs v

  one_item : (lists : List (List (Body B))) (k : ℕ) (x : B) → items_together (append_at lists k (Item x)) ≤ items_together lists + 1
  one_item [] k x = omega arith
  one_item (l ∷ ls) zero x = omega (arith, count_item l x)
  one_item (l ∷ ls) (suc k) x = omega (arith, one_item ls k x)

  no_item : (lists : List (List (Body B))) (k : ℕ) (v : Vote) → items_together (append_at lists k (Mark v)) ≡ items_together lists
  no_item [] k v = refl
  no_item (l ∷ ls) zero v = ap (λ n. n + items_together ls) (count_mark l v)
  no_item (l ∷ ls) (suc k) v = ap (λ n. item_count l + n) (no_item ls k v)

  at_most_one : (own size : ℕ) (sent more : List (List (Body B))) → SentAtMostOne own size sent more → items_together more ≤ items_together sent + 1
  at_most_one own size sent more (inl e) = omega (arith, ap items_together e)
  at_most_one own size sent more (inr e) = omega (arith, ap items_together e.3, one_item sent e.0 e.1)

module _ {P M B : Type 0} {p : ProgramGhosts P B} {m : MailboxGhosts M B} {o : OutboxGhosts M B} where
  pub same_bound : (a b : Runner P M B p m o) → m.taken b.outlet.port ≡ m.taken a.outlet.port → o.sent b.outlet.port ≡ o.sent a.outlet.port → AtMost 0 0 a b
  same_bound a b took sends = record {
    taken = λ rank. omega (arith, ap (λ l. length (list_at l rank)) took);
    sent = omega (arith, ap items_together sends);
  }

  pub took_bound : (a b : Runner P M B p m o) (k : ℕ) (x : Body B) → m.taken b.outlet.port ≡ append_at (m.taken a.outlet.port) k x → o.sent b.outlet.port ≡ o.sent a.outlet.port → AtMost 1 0 a b
  took_bound a b k x took sends = record {
    taken = λ rank. omega (arith, ap (λ l. length (list_at l rank)) took, one_more_at (m.taken a.outlet.port) k rank x);
    sent = omega (arith, ap items_together sends);
  }

  pub only_on : (a b c : Runner P M B p m o) (k : ℕ) → OnlyFrom k a b → OnlyFrom k b c → OnlyFrom k a c
  only_on a b c k f g rank other = g rank other ∙ f rank other

  pub work_bound : (a b : Runner P M B p m o) (own size : ℕ) → m.taken b.outlet.port ≡ m.taken a.outlet.port → SentAtMostOne own size (o.sent a.outlet.port) (o.sent b.outlet.port) → AtMost 0 1 a b
  work_bound a b own size took sends = record {
    taken = λ rank. omega (arith, ap (λ l. length (list_at l rank)) took);
    sent = at_most_one own size (o.sent a.outlet.port) (o.sent b.outlet.port) sends;
  }

  pub mark_bound : (a b : Runner P M B p m o) (k : ℕ) (v : Vote) → m.taken b.outlet.port ≡ m.taken a.outlet.port → o.sent b.outlet.port ≡ append_at (o.sent a.outlet.port) k (Mark v) → AtMost 0 0 a b
  mark_bound a b k v took sends = record {
    taken = λ rank. omega (arith, ap (λ l. length (list_at l rank)) took);
    sent = omega (arith, ap items_together sends, no_item (o.sent a.outlet.port) k v);
  }

  pub bound_on : (i j k l : ℕ) (a b c : Runner P M B p m o) → AtMost i j a b → AtMost k l b c → AtMost (i + k) (j + l) a c
  bound_on i j k l a b c f g = record {
    taken = λ rank. omega (arith, f.taken rank, g.taken rank);
    sent = omega (arith, f.sent, g.sent);
  }

  pub bound_up : (i j k l : ℕ) (a b : Runner P M B p m o) → i ≤ k → j ≤ l → AtMost i j a b → AtMost k l a b
  bound_up i j k l a b h h' f = record {
    taken = λ rank. omega (arith, f.taken rank, h);
    sent = omega (arith, f.sent, h');
  }

  -- the lanes of the first n ranks were polled
  pub record PolledBelow (most n : ℕ) (a b : Runner P M B p m o) : Type 0 where
    pub below : (rank : ℕ) → rank < n → length (list_at (m.taken b.outlet.port) rank) ≤ length (list_at (m.taken a.outlet.port) rank) + most
    pub rest : (rank : ℕ) → n ≤ rank → list_at (m.taken b.outlet.port) rank ≡ list_at (m.taken a.outlet.port) rank
    pub sent : items_together (o.sent b.outlet.port) ≤ items_together (o.sent a.outlet.port) + 0

  pub polled_more : (most n : ℕ) (a b c : Runner P M B p m o) → PolledBelow most n a b → AtMost most 0 b c → OnlyFrom n b c → PolledBelow most (n + 1) a c
  polled_more most n a b c f g only = record {
    below = λ rank h. elim (cases_eq rank n) [
      | inl e ↦
          let same : length (list_at (m.taken b.outlet.port) rank) ≡ length (list_at (m.taken a.outlet.port) rank) = ap length (f.rest rank (omega (arith, e))) in
          omega (arith, same, g.taken rank)
      | inr e ↦
          let same : length (list_at (m.taken c.outlet.port) rank) ≡ length (list_at (m.taken b.outlet.port) rank) = ap length (only rank e) in
          omega (arith, same, f.below rank (omega (arith, h, e)))
    ];
    rest = λ rank h. only rank (λ e. absurd (omega (arith, e, h))) ∙ f.rest rank (omega (arith, h));
    sent = omega (arith, f.sent, g.sent);
  }

  pub polled_all : (most n : ℕ) (a b : Runner P M B p m o) → PolledBelow most n a b → AtMost most 0 a b
  polled_all most n a b f = record {
    taken = λ rank. elim (cases_lt rank n) [
      | inl h ↦ f.below rank h
      | inr h ↦ let same : length (list_at (m.taken b.outlet.port) rank) ≡ length (list_at (m.taken a.outlet.port) rank) = ap length (f.rest rank (omega (arith, h))) in omega (arith, same)
    ];
    sent = f.sent;
  }
