use Rattle.std.proofs.Common.{◌∙◌, ◌≡◌, ℕ, ◌∷◌, [], sym, ap, subst, arith, length, length-append}
use Rattle.pg_group.specs.Entries.{Each}
use Rattle.pg_agenda.specs.declared.shares.Share.{Share}
use Rattle.pg_relax.specs.Shown.{IsNewRelax, label_in, part_in, state_of}
use Rattle.pg_run.proofs.Seating.{taken_over, each_reverse}
use Rattle.pg_top.proofs.relaxing.programs_of.Goals as goal

pub loop-part-preserved : goal.loop-part-preserved
loop-part-preserved g c =
    let inv = c.loop-part.invariant in
    let last = c.in-Some.ensures.items in
    let r = c.in_ok-new.field-0 in
    let said = c.in_ok-new.ensures in
    let pushed = c.push_reserved.ensures.items in
    let before = c.loop-part.programs.items in
    let one = ap length last ∙ length-append c.pop.new.self.items (c.in-Some.part ∷ []) in
    let two = ap length pushed ∙ length-append before (r ∷ []) in
    record {
      parts = taken_over part_in c.args.parts.items c.loop-part.parts.items c.pop.new.self.items c.in-Some.part before c.push_reserved.new.self.items r inv.parts last pushed said.part;
      fit = omega (arith, inv.fit, one, two, c.push_reserved.ensures.capacity);
      new = each_reverse (λ p. IsNewRelax p) before c.push_reserved.new.self.items r pushed said.new inv.new;
      labels = each_reverse (λ p. label_in p ≡ c.args.label) before c.push_reserved.new.self.items r pushed said.label inv.labels;
      shares = each_reverse (λ p. (share : Share) (w : ℕ) → (state_of p).takes share w ≡ g.M.Agendas.takes c.args.agendas.now share w) before c.push_reserved.new.self.items r pushed (λ share w. said.takes share w ∙ c.in_ok-agenda.ensures.takes share w) inv.shares;
    }

pub returns-clause-new : goal.returns-clause-new
returns-clause-new g c = subst (λ l. Each (λ rank p. IsNewRelax p) l) (sym c.reverse.ensures.items) c.loop-part.invariant.new

pub returns-clause-labels : goal.returns-clause-labels
returns-clause-labels g c = subst (λ l. Each (λ rank p. label_in p ≡ c.args.label) l) (sym c.reverse.ensures.items) c.loop-part.invariant.labels

pub returns-clause-shares : goal.returns-clause-shares
returns-clause-shares g c = subst (λ l. Each (λ rank p. (share : Share) (w : ℕ) → (state_of p).takes share w ≡ g.M.Agendas.takes c.args.agendas.now share w) l) (sym c.reverse.ensures.items) c.loop-part.invariant.shares
