use Rattle.std.proofs.Common.{arith, ◌≡◌, ℕ, ◌+◌, ◌-◌, length, List, ap, sym, ◌∙◌, subst}
use Rattle.std.specs.Prelude.{min}
use borrow.Rule.Slice.PartMut.{put_mid}
use Rattle.pg_boruvka.specs.declared.messages.Message.TheVariants.{Piece as Keys}
use Rattle.pg_boruvka.specs.Lowered.{AreLowered}
use Rattle.pg_boruvka.proofs.Lowering.{covered_by, are_lowered}
use Rattle.pg_boruvka.proofs.winners.lower.Goals as goal

pub returns-then-from-to-clause-lowered : goal.returns-then-from-to-clause-lowered
returns-then-from-to-clause-lowered c =
    let piece = c.args.piece.now in
    let from = c.max-from.result in
    let to = c.min-to.result in
    let eight : length piece.keys ≡ 8 = omega (arith, c.type_inv.piece) in
    let end : to ≡ min (piece.base + length piece.keys) c.args.past = c.min-to.ensures ∙ ap (λ (x : ℕ). min (piece.base + x) c.args.past) (sym eight) in
    let covered = covered_by piece.base (length piece.keys) c.args.first c.args.past from to c.if-from-to.true c.max-from.ensures end in
    subst (λ (into : List ℕ). AreLowered (Keys piece) c.args.first c.args.past c.args.winners.now (put_mid from (to - from) c.args.winners.now into)) (sym c.min_into.ensures)
    (are_lowered piece.base piece.keys c.args.winners.now c.args.first c.args.past from to covered c.requires (λ i. omega (arith, rw c.min_into.ensures at (c.type_inv.winners i))))
