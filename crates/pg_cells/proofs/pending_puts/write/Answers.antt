use Rattle.std.proofs.Common.{refl, sym, length, ⊎_elim, arith}
use Rattle.std.proofs.lemmas.Bool.{cases_lt, false≢true}
use Rattle.std.proofs.lemmas.List.{set_past}
use Rattle.pg_cells.proofs.pending_puts.write.Goals as goal

pub returns-in-Some : goal.returns-in-Some
returns-in-Some g c = refl

pub returns-in_default : goal.returns-in_default
returns-in_default g c =
    let items = c.args.items.now in
    ⊎_elim (λ lt. absurd (false≢true (c.in_default.ensures.variant.1 (omega (arith, items.ok.0)))))
    (λ ge. sym (set_past items.items c.args.place c.args.value ge)) (cases_lt c.args.place (length items.items))
