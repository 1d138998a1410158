use Rattle.std.proofs.Common.{◌≡◌, ◌<◌, ◌∙◌, ℕ, Bool, true, false, List, Option, None, All, length, replicate, inr, sym, ap, subst}
use Rattle.pg_adj.specs.Portions.{Portion}
use Rattle.pg_cells.specs.Shown.{state_of}
use Rattle.pg_cells.specs.States.{CellState, refreshes_of}
use Rattle.pg_cells.specs.declared.phases.Phase.TheVariants.{Refreshing}
use Rattle.pg_colour.specs.Rounds.{count_of}
use Rattle.pg_colour.proofs.WorkLemmas.{closing_done, next_refreshes, refreshing_next, unsent_all}
use Rattle.pg_colour.proofs.colouring.Colouring.begin_refresh.Goals as goal

pub end_round-requires-after_bounds : goal.end_round-requires-after_bounds
end_round-requires-after_bounds c κs =
    inr (closing_done (λ old new. new) (λ v. c.args.self.now.cells.resolver.start) (state_of c.args.self.now.cells) (state_of c.close.new.self) c.close.ensures.step c.args.self.now.not_owed c.args.self.now.not_noted)

abbrev refreshed : CellState → CellState
refreshed s = record s { phase = Refreshing; unsent = replicate (length (refreshes_of s.part)) true }

-- The cells as the round that refreshes begins.
after : (c : goal.After-count) → state_of c.end_round.new.self ≡ refreshed (state_of c.args.self.now.cells)
after c =
    refreshing_next (λ old new. new) (λ v. c.close.new.self.resolver.start) (λ v. c.args.self.now.cells.resolver.start) (state_of c.args.self.now.cells) (state_of c.close.new.self) (state_of c.end_round.new.self)
    c.close.ensures.step c.end_round.ensures.step c.args.self.now.backward

pub invariant_of-self-clause-phase : goal.invariant_of-self-clause-phase
invariant_of-self-clause-phase c =
    ap (λ (s : CellState). s.phase) (after c) ∙ sym (next_refreshes (count_of c.args.self.now.rounds) (count_of c.count.new.self) c.count.ensures c.requires.pass)

pub invariant_of-self-clause-not_owed : goal.invariant_of-self-clause-not_owed
invariant_of-self-clause-not_owed c = subst (λ (owed : List (Option ℕ)). All (λ o. o ≡ None) owed) (sym (ap (λ (s : CellState). s.owed) (after c))) c.args.self.now.not_owed

pub invariant_of-self-clause-not_noted : goal.invariant_of-self-clause-not_noted
invariant_of-self-clause-not_noted c = subst (λ (noted : List Bool). All (λ o. o ≡ false) noted) (sym (ap (λ (s : CellState). s.noted) (after c))) c.args.self.now.not_noted

pub invariant_of-self-clause-small : goal.invariant_of-self-clause-small
invariant_of-self-clause-small c =
    subst (λ (xs : List ℕ). All (λ colour. (colour ≡ 18446744073709551615 → ⊥) → colour < 4294967296) xs) (sym (ap (λ (s : CellState). s.own) (after c))) c.args.self.now.small

pub invariant_of-self-clause-unsent : goal.invariant_of-self-clause-unsent
invariant_of-self-clause-unsent c = λ refreshing.
    ap (λ (s : CellState). s.unsent) (after c) ∙ (ap (λ (p : Portion). replicate (length (refreshes_of p)) true) c.args.self.now.same_part ∙ unsent_all (length (refreshes_of c.args.self.now.part)))
