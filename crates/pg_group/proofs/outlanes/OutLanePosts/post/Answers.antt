use Rattle.std.proofs.Common.{ap}
use Rattle.pg_group.specs.Rounds.{is_mark}
use Rattle.pg_group.specs.declared.messages.Envelope.{Envelope}
use Rattle.pg_group.proofs.Lanes.{ends_after, numbered_after, next_after}
use Rattle.pg_group.proofs.outlanes.OutLanePosts.post.Goals as goal
use Rattle.pg_group.proofs.outlanes.OutLanePosts.post.Goals.{in-Mark, in_default}

pub invariant_of-self : goal.invariant_of-self
invariant_of-self g c =
    let lane = c.args.self.now in
    let es = g.O.OutEnd.sent lane.end in
    let fs = g.O.OutEnd.sent c.push.new.self in
    let e : Envelope g.row.B.Denot = record { number = lane.number; body = c.args.body } in
    let more = c.in-Ok.ensures.ok in
    record {
      numbered = numbered_after es fs e more lane.numbered lane.next;
      next = next_after es fs e more lane.number lane.next;
      mark =
          elim c.match-matches.branch [
            | in-Mark w ↦ λ _. ends_after es fs e more (ap is_mark w.in-Mark.is)
            | in_default w ↦ λ marked. cc
          ];
    }
