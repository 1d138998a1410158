use Rattle.std.proofs.Common.{refl}
use Rattle.pg_colour.proofs.HandleLemmas.{put_kept, refresh_kept}
use Rattle.pg_colour.proofs.programs.ColouringProgram.handle.Goals as goal

pub returns-in-Refresh-clause-kept : goal.returns-in-Refresh-clause-kept
returns-in-Refresh-clause-kept c = λ start handled sent kept. record {
  part = kept.part;
  coloured = refresh_kept c.args.self.now c.handle.new.self _ handled sent c.args.from.0 c.in-Refresh.slot c.in-Refresh.value c.args.body c.requires c.in-Refresh.is c.handle.ensures.step refl refl refl refl refl refl refl kept.coloured;
}

pub returns-in_default-clause-kept : goal.returns-in_default-clause-kept
returns-in_default-clause-kept c = λ start handled sent kept. record {
  part = kept.part;
  coloured = put_kept c.args.self.now handled sent c.args.from.0 c.in_default.field-0 c.in_default.field-1 c.args.body c.requires c.in_default.is kept.coloured;
}
