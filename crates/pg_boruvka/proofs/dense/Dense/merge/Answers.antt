use Rattle.std.proofs.Common.{ℕ, ◌+◌, ◌≡◌, List, ap, sym, subst, ◌∙◌, arith}
use Rattle.pg_boruvka.specs.declared.messages.Message.TheVariants.{Piece as Keys}
use Rattle.pg_boruvka.specs.Lowered.{AreLowered}
use Rattle.pg_boruvka.specs.Known.{view_of, Known}
use Rattle.pg_boruvka.proofs.Merging.{merged_down}
use Rattle.pg_boruvka.proofs.dense.Dense.merge.Goals as goal

pub returns-in-Down-clause-merged : goal.returns-in-Down-clause-merged
returns-in-Down-clause-merged c =
    let d = c.args.self.now in
    merged_down (view_of d) c.args.piece.now c.own_labels-first.result.0 c.own_labels-first.result.1
    c.lower-in-Down.new.self.winners.items c.lower-in-Down-2.new.self.winners.items c.in-Down.is c.own_labels-first.ensures.first c.own_labels-first.ensures.past
    c.own_labels-first.ensures.least c.own_labels-first.ensures.order (omega (arith, c.own_labels-first.ensures.within, d.is_count))
    c.lower-in-Down.ensures.lowered
    (subst (λ (x : ℕ). AreLowered (Keys c.args.piece.now) c.own_labels-first.result.1 (x + 1) c.lower-in-Down.new.self.winners.items c.lower-in-Down-2.new.self.winners.items) (sym d.is_count) c.lower-in-Down-2.ensures.lowered)
