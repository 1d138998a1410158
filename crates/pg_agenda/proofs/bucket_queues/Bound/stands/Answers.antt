use Rattle.std.proofs.Common.{◌∙◌, arith}
use Rattle.std.proofs.lemmas.List.{get_or_default}
use Rattle.std.proofs.lemmas.Bool.{eqb-true}
use Rattle.pg_agenda.specs.Shares.{NONE}
use Rattle.pg_agenda.proofs.bucket_queues.Bound.stands.Goals as goal

pub returns-then-place-buckets : goal.returns-then-place-buckets
returns-then-place-buckets c e =
    let buckets = c.args.buckets.now in
    let place = c.args.self.now.place in
    (place, get_or_default buckets place NONE 0 (omega arith) ∙ eqb-true _ _ e)
