use Rattle.std.proofs.Common.{◌+◌, ◌*◌}
use Rattle.pg_run.proofs.threading.+groups.Given as goal

abbrev pub decreases-drive_groups : goal.decreases-drive_groups
decreases-drive_groups g l = 2 * l.last

abbrev pub decreases-join_mut+arg3 : goal.decreases-join_mut+arg3
decreases-join_mut+arg3 g l = 2 * l.before + 1
