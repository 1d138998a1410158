use Rattle.std.proofs.Common.{◌<◌, All, subst, sym}
use Rattle.pg_base.specs.declared.TheConstants.{MAX_VERTICES}
use Rattle.pg_boruvka.proofs.PointerMoves.{moved_along}
use Rattle.pg_boruvka.proofs.pointers.move_to_ends.Goals as goal

pub returns-clause-moved : goal.returns-clause-moved
returns-clause-moved c =
    moved_along MAX_VERTICES c.args.targets.now c.point.new.targets c.shorten.new.pointers c.args.labels.now c.move_labels.new.labels
    c.point.ensures.points c.point.ensures.within c.shorten.ensures.shortened
    (subst (λ n. All (λ l. l < n) c.args.labels.now) (sym c.point.ensures.same_count) c.requires.labels)
    c.move_labels.ensures.moved
