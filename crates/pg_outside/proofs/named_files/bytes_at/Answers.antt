use Rattle.std.proofs.Common.{◌∙◌}
use Rattle.pg_outside.proofs.FilesByPlace.{bytes_at-get_or}
use Rattle.pg_outside.proofs.named_files.bytes_at.Goals as goal

pub returns : goal.returns
returns c =
    c.as_slice.ensures.value ∙ bytes_at-get_or c.args.files.now c.args.place c.index-files-place.result c.requires
