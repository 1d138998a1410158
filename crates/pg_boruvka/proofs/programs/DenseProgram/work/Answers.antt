use Rattle.std.proofs.Common.{◌≡◌, ℕ, ◌+◌, List, refl, sym, ap, ◌∙◌, subst, inr, arith}
use Rattle.pg_base.specs.declared.TheConstants.{MAX_VERTICES}
use Rattle.pg_group.specs.declared.messages.Body.{Body}
use Rattle.pg_group.specs.declared.messages.Body.TheVariants.{Item}
use Rattle.pg_group.specs.Ranked.{IsOther, append_at}
use Rattle.pg_boruvka.specs.declared.messages.Message.{Message}
use Rattle.pg_boruvka.specs.Parts.{Part}
use Rattle.pg_boruvka.specs.Known.{View, view_of, passed_to}
use Rattle.pg_boruvka.specs.Shown.{HasChosen}
use Rattle.pg_boruvka.proofs.Passing.{further_keeps, sent_keeps, unpassed_before, at_before}
use Rattle.pg_boruvka.proofs.Regular.{regular_of}
use Rattle.pg_boruvka.proofs.programs.DenseProgram.work.Goals as goal

pub returns-in_default-clause-kept : goal.returns-in_default-clause-kept
returns-in_default-clause-kept g c = λ start handled kept.
    let said = c.seek.ensures in
    record {
      part = ap (λ (v : View). v.part) said.further.same ∙ kept.part;
      chosen = further_keeps MAX_VERTICES handled (g.O.Outbox.sent c.args.out.now) (view_of c.args.self.now) kept.chosen (view_of c.seek.new.self) said.further;
    }

pub returns-in-Ok-clause-kept : goal.returns-in-Ok-clause-kept
returns-in-Ok-clause-kept g c = λ start handled kept.
    let said = c.in-Some.ensures in
    let v = view_of c.args.self.now in
    let w = view_of c.seek.new.self in
    let sent = g.O.Outbox.sent c.args.out.now in
    let part : w.part ≡ v.part = ap (λ (x : View). x.part) said.further.same in
    record {
      part = part ∙ kept.part;
      chosen = subst (λ (lists : List (List (Body Message))). HasChosen MAX_VERTICES handled lists (passed_to w w.to (w.at + 1))) (sym c.in-Ok.ensures.ok)
          (subst (λ (r : ℕ). HasChosen MAX_VERTICES handled (append_at sent c.in-Some.to.0 (Item c.in-Some.message)) (passed_to w r (w.at + 1))) (sym said.receiver)
          (sent_keeps MAX_VERTICES handled sent w (further_keeps MAX_VERTICES handled sent v kept.chosen w said.further) (regular_of c.seek.new.self)
          (ap (λ (x : View). x.cast) said.further.same ∙ c.requires.uncast) c.in-Some.to.0 c.in-Some.message
          (subst (λ (p : Part). IsOther p.rank p.ranks c.in-Some.to.0) (sym part) said.other) said.receiver said.found));
    }

pub returns-in-Ok-clause-more : goal.returns-in-Ok-clause-more
returns-in-Ok-clause-more g c =
    let said = c.in-Some.ensures in
    let v = view_of c.args.self.now in
    let w = view_of c.seek.new.self in
    record {
      to = c.in-Some.to.0;
      number = w.at;
      message = c.in-Some.message;
      other = said.other;
      unpassed = unpassed_before v w c.in-Some.to.0 c.in-Some.message said.further said.other said.receiver (at_before v w c.in-Some.to.0 w.at c.in-Some.message said.further.same said.found);
      is = at_before v w c.in-Some.to.0 w.at c.in-Some.message said.further.same said.found;
      passed = inr (sym said.receiver, omega arith);
      grew = c.in-Ok.ensures.ok;
      rest = ap (λ (x : View). passed_to x w.to (w.at + 1)) said.further.same;
    }

pub returns-in-Err-clause-kept : goal.returns-in-Err-clause-kept
returns-in-Err-clause-kept g c = λ start handled kept.
    let said = c.in-Some.ensures in
    record {
      part = ap (λ (v : View). v.part) said.further.same ∙ kept.part;
      chosen = subst (λ (lists : List (List (Body Message))). HasChosen MAX_VERTICES handled lists (view_of c.seek.new.self)) (sym c.in-Err.ensures.stays)
          (further_keeps MAX_VERTICES handled (g.O.Outbox.sent c.args.out.now) (view_of c.args.self.now) kept.chosen (view_of c.seek.new.self) said.further);
    }
