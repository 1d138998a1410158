use Rattle.std.proofs.Common.{◌≡◌, ◌≤◌, ℕ, List, All, sym, subst, arith}
use Rattle.std.specs.Bool.{⊤}
use Rattle.std.proofs.lemmas.Option.{MatchOption-at_some}
use Rattle.pg_adj.specs.Portions.{Portion}
use Rattle.pg_group.proofs.Popped.{flag_clear, stands_at}
use Rattle.pg_cells_tests.proofs.tests.sites.Goals as goal

pub seated-requires-clause-few : goal.seated-requires-clause-few
seated-requires-clause-few g c =
    let few = MatchOption-at_some ⊤ (λ m. (m ≡ c.args.count) × (1 ≤ c.args.count) × (c.args.count ≤ 32)) c.in_ok-ranks.ranks c.in_ok-ranks.ensures.ok_part c.new.ensures.value in
    omega (arith, few.0, few.2, c.in_ok-group.ensures.count)

pub seated-requires-clause-own : goal.seated-requires-clause-own
seated-requires-clause-own g c =
    let made = c.in_ok-group.ensures in
    λ _ _ rank m at. (stands_at c.in_ok-group.group.items _ c.in_ok-ranks.ranks rank m made.group made.count at).0

pub seated-requires-clause-size : goal.seated-requires-clause-size
seated-requires-clause-size g c =
    let made = c.in_ok-group.ensures in
    λ _ _ rank m at.
    let size : m.ranks ≡ c.in_ok-ranks.ranks = (stands_at c.in_ok-group.group.items _ c.in_ok-ranks.ranks rank m made.group made.count at).1 in
    subst (λ (n : ℕ). All (λ (p : Portion). p.ranks ≡ n) c.deref.result.now) (sym size)
    (subst (λ (ps : List Portion). All (λ (p : Portion). p.ranks ≡ c.in_ok-ranks.ranks) ps) (sym c.deref.ensures.value) c.in_ok-parts.ensures)

pub seated-requires-clause-unmarked : goal.seated-requires-clause-unmarked
seated-requires-clause-unmarked g c = λ _ _ place m at rank. flag_clear _ c.in_ok-ranks.ranks rank (c.in_ok-group.ensures.marks_sent place m at)
