use Rattle.std.proofs.Common.{rules, tests, ◌≡◌, ◌≢◌, ℕ, ◌-◌, ◌++◌, length, List, take, drop, ap, ◌∙◌}
use Rattle.std.proofs.lemmas.Bool.{MatchBool-at_true, MatchBool-at_false}
use Rattle.std.proofs.lemmas.Iterator.{cases_from_all, YieldsList-from_slice}
use Rattle.pg_boruvka.specs.declared.TheConstants.{NO_KEY}
use Rattle.pg_boruvka.specs.declared.messages.Message.TheVariants.{Piece as Keys}
use Rattle.pg_boruvka.proofs.CutPieces.{blank, piece_is, none_in_piece, key_in_piece}
use Rattle.pg_boruvka.proofs.cutting.piece_from.Goals as goal

pub returns-then-all-clause-none : goal.returns-then-all-clause-none
returns-then-all-clause-none c =
    let given = take (c.min-end.result - c.args.base) (drop c.args.base c.args.keys.now) in
    let cases = cases_from_all _ _ _ (λ x. x ≡ NO_KEY) (λ x. x ≢ NO_KEY) c.all.ensures.ran (YieldsList-from_slice given cc) (λ x q k. search (rules, tests)) (λ x q k. search (rules, tests)) in
    none_in_piece c.args.keys.now c.args.past c.args.base c.min-end.result c.min-end.ensures c.requires.within c.requires.some (MatchBool-at_true _ _ c.if-all.true cases)

pub returns-clause-is : goal.returns-clause-is
returns-clause-is c =
    let given : List ℕ = take (c.min-end.result - c.args.base) (drop c.args.base c.args.keys.now) in
    ap (λ (part : List ℕ). Keys (record { base = c.args.base; keys = part ++ drop (length given) blank })) c.copy_from_slice.ensures.after
    ∙ piece_is c.args.keys.now c.args.past c.args.base c.min-end.result c.min-end.ensures c.requires.within c.requires.some

pub returns-clause-used : goal.returns-clause-used
returns-clause-used c =
    let given = take (c.min-end.result - c.args.base) (drop c.args.base c.args.keys.now) in
    let cases = cases_from_all _ _ _ (λ x. x ≡ NO_KEY) (λ x. x ≢ NO_KEY) c.all.ensures.ran (YieldsList-from_slice given cc) (λ x q k. search (rules, tests)) (λ x q k. search (rules, tests)) in
    key_in_piece c.args.keys.now c.args.past c.args.base c.min-end.result c.min-end.ensures c.requires.within c.requires.some (MatchBool-at_false _ _ c.if-all.false cases)
