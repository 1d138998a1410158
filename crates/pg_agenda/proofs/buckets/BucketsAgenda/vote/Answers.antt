use Rattle.std.proofs.Common.{refl, arith}
use Rattle.pg_agenda.specs.declared.shares.Share.TheVariants.{Light, Heavy, All}
use Rattle.pg_agenda.proofs.BucketSteps.{none_of_not, none_pending, none_set}
use Rattle.pg_agenda.proofs.buckets.BucketsAgenda.vote.Goals as goal
use Rattle.pg_agenda.proofs.buckets.BucketsAgenda.vote.Goals.{then-is_empty, else-is_empty}

pub returns-clause-none : goal.returns-clause-none
returns-clause-none c none small Light place = none_pending c.args.self.now.light.buckets.items c.least_bucket.result place c.least_bucket.ensures.lowest none
returns-clause-none c none small Heavy place =
    let flags = c.args.self.now.heavy.members.items in
    none_set flags (elim c.if-is_empty.branch [
      | then-is_empty w ↦ none_of_not _ _ c.is_empty.ensures w.if-is_empty.true
      | else-is_empty w ↦ absurd (omega (arith, w.heavy-is, small))
    ]) place
returns-clause-none c none small All place = refl
