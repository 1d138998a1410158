use Rattle.std.proofs.Common.{arith, ◌<◌, ◌≡◌, ◌≤◌, ℕ, ◌+◌, ◌*◌, ⊎_elim, sym, subst}
use Rattle.std.specs.Prelude.{slice_index}
use Rattle.std.proofs.lemmas.Bool.{cases_eq, cases_lt}
use Rattle.pg_boruvka.specs.declared.TheConstants.{NO_KEY}
use Rattle.pg_boruvka.specs.declared.messages.Message.TheVariants.{Piece as Keys}
use Rattle.pg_boruvka.proofs.CutPieces.{piece_by_no, no_piece_by_no, no_piece_past}
use Rattle.pg_boruvka.proofs.cutting.next_piece.Goals as goal

pub returns-in-Some-clause-found : goal.returns-in-Some-clause-found
returns-in-Some-clause-found c =
    let used = c.in-Some.ensures.used in
    piece_by_no (slice_index c.args.keys.now) c.args.first c.args.past c.requires.order c.loop-number.number used.0 (Keys c.in-Some.piece) used.1 used.2 used.3 used.4 c.in-Some.ensures.is

pub loop-number-preserved : goal.loop-number-preserved
loop-number-preserved c number m from before =
    let none = c.in_default.ensures.none in
    ⊎_elim
    (λ same. no_piece_by_no (slice_index c.args.keys.now) c.args.first c.args.past c.requires.order number m (subst (λ (k : ℕ). (l : ℕ) → c.args.first + k * 8 ≤ l → l < c.args.first + k * 8 + 8 → l < c.args.past → slice_index c.args.keys.now l ≡ NO_KEY) (sym same) none))
    (λ other. c.loop-number.invariant number m from (omega arith))
    (cases_eq number c.loop-number.number)

pub returns-clause-none : goal.returns-clause-none
returns-clause-none c number m from =
    let pieces = c.div_ceil-pieces.ensures in
    ⊎_elim
    (λ passed. c.loop-number.invariant number m from passed)
    (λ beyond. no_piece_past (slice_index c.args.keys.now) c.args.first c.args.past c.requires.order number m (omega arith))
    (cases_lt number c.loop-number.number)
