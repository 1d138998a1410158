-- A whole group of machines of which some had turns.
use Rattle.std.proofs.Common.{◌≡◌, ◌≢◌, ℕ, ◌<◌, List, [], ◌∷◌, ◌++◌, length, take, get_or, set, refl, sym, ap, ◌∙◌, subst, ⊎_elim}
use Rattle.std.specs.Prelude.{slice_get, Some}
use Rattle.std.proofs.lemmas.Option.{slice_get_read}
use Rattle.pg_group.specs.declared.programs.Program.{Ghosts as ProgramGhosts}
use Rattle.pg_group.specs.declared.outboxes.Outbox.{Ghosts as OutboxGhosts}
use Rattle.pg_group.specs.declared.mailboxes.Mailbox.{Ghosts as MailboxGhosts}
use Rattle.pg_group.specs.Grouped.{AreOneGroup}
use Rattle.pg_group.proofs.Growing.{set_entry}
use Rattle.pg_run.specs.Kept.{Follows}
use Rattle.pg_run.specs.Machines.{port_of}
use Rattle.pg_run.specs.Driven.{HaveFollowed, AreReady}
use Rattle.pg_run.specs.declared.runners.Runner.{Runner}
use Rattle.pg_run.proofs.ByRank.{length_of_set}
use Rattle.pg_run.proofs.Promises.{follows_refl}
use Rattle.pg_run.proofs.Seating.{map_alike}

take_front : {X : Type 0} (front rest : List X) → take (length front) (front ++ rest) ≡ front
take_front [] rest = refl
take_front (x ∷ front) rest = ap (λ l. x ∷ l) (take_front front rest)

-- what a vector holds once as many entries were written back to it
pub written_back : {X : Type 0} (n : ℕ) (front rest : List X) → length front ≡ n → take n (front ++ rest) ≡ front
written_back n front rest long = subst (λ k. take k (front ++ rest) ≡ front) long (take_front front rest)

module _ {P M B : Type 0} {p : ProgramGhosts P B} {m : MailboxGhosts M B} {o : OutboxGhosts M B} where
  -- a group stays ready whatever turns its machines have
  pub ready_on : (old new : List (Runner P M B p m o)) → AreReady old → HaveFollowed old new → AreReady new
  ready_on old new ready f = record {
    group = subst AreOneGroup (sym (map_alike (λ r. m.wiring (port_of r)) old new f.long (λ k r at. let h = f.each k r at in (h.0, h.1, h.2.wiring)))) ready.group;
    kept = λ rank r at. let h = f.each rank r at in h.2.kept (ready.kept rank h.0 h.1);
  }

  -- the machine at one place had a turn
  pub one_followed : (same_port : (x : M) → o.Later x x) (on : (x y z : M) → o.Later x y → o.Later y z → o.Later x z) (rs : List (Runner P M B p m o)) (i : ℕ) (was now : Runner P M B p m o)
      → i < length rs → was ≡ get_or rs i was → Follows was now → HaveFollowed rs (set rs i now)
  one_followed same_port on rs i was now h is g =
      let at : slice_get rs i ≡ Some was = slice_get_read rs (length rs) i was refl h is in
      record {
        long = length_of_set rs i now;
        each = λ place r here.
            ⊎_elim (λ (y : (place ≡ i) × (r ≡ now)). (was, ap (slice_get rs) y.0 ∙ at, subst (Follows was) (sym y.1) g))
            (λ (y : (slice_get rs place ≡ Some r) × (place ≢ i)). (r, y.0, follows_refl same_port on r)) (set_entry rs i now place r here);
      }
