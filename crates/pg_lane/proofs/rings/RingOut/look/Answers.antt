use Rattle.std.proofs.Common.{rules, ap, ◌∙◌}
use Rattle.pg_lane.specs.Ring.{free_slot, spare}
use Rattle.pg_lane.proofs.Writing.{sees_taken}
use Rattle.pg_lane.proofs.rings.RingOut.look.Goals as goal

pub load-taken-requires : goal.load-taken-requires
load-taken-requires g c =
    let me = c.args.self.now in
    let empty = c.requires in
    (search rules, search rules, sees_taken _ _ me.seat.me me.writes me.reads (me.known_room ∙ empty) (me.holds ∙ ap (λ r. free_slot r me.place (spare me.seat.me.1)) empty))
