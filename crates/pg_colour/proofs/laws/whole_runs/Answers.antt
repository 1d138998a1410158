use Rattle.pg_colour.proofs.Ending.{whole_ends_together, whole_is_sound, whole_is_fresh, whole_sees_owners, whole_is_run, whole_is_coloured, whole_is_proper, one_rank_fits_first}
use Rattle.pg_colour.proofs.laws.whole_runs.Goals as goal

pub returns : goal.returns
returns c = record {
  together = whole_ends_together;
  sound = whole_is_sound;
  fresh = whole_is_fresh;
  seen = whole_sees_owners;
  rules = whole_is_run;
  coloured = whole_is_coloured;
  proper = whole_is_proper;
  first_fit = one_rank_fits_first;
}
