use Rattle.std.proofs.Common.{[], ◌∷◌, ◌++◌, ap, ◌∙◌}
use Rattle.pg_group.proofs.groups.connect_both.Goals as goal

pub returns-clause-there : goal.returns-clause-there
returns-clause-there g c =
    let x = c.in_ok-out.out in
    let y = c.in_ok-out.theirs in
    let said = c.in_ok-out.ensures in (
      x,
      y,
      c.push_reserved-3.ensures.items ∙ ap (λ l. l ++ x ∷ []) c.reserve.ensures.items,
      c.push_reserved-2.ensures.items ∙ ap (λ l. l ++ y ∷ []) c.reserve-else-is_err-3.ensures.items,
      (said.lane, said.capacity, said.sent, said.marked, said.taken, said.closed),
    )

pub returns-clause-back : goal.returns-clause-back
returns-clause-back g c =
    let x = c.in_ok-back.back in
    let y = c.in_ok-back.mine in
    let said = c.in_ok-back.ensures in (
      x,
      y,
      c.push_reserved.ensures.items ∙ ap (λ l. l ++ x ∷ []) c.reserve-2.ensures.items,
      c.push_reserved-4.ensures.items ∙ ap (λ l. l ++ y ∷ []) c.reserve-else-is_err.ensures.items,
      (said.lane, said.capacity, said.sent, said.marked, said.taken, said.closed),
    )
