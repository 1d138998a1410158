use Rattle.pg_outside.proofs.FilesByPlace.{found_at}
use Rattle.pg_outside.proofs.named_files.place_of.Goals as goal

pub returns-then-eq-clause-found : goal.returns-then-eq-clause-found
returns-then-eq-clause-found c =
    found_at c.args.name.now c.args.files.now c.loop-place.place c.index-files-place.result c.loop-place-test.true c.index-files-place.is c.loop-place.invariant cc
