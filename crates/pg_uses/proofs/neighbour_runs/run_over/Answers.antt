use Rattle.std.proofs.Common.{◌≡◌, ◌∙◌, ap, length, sym, subst, arith}
use Rattle.pg_group.specs.Book.{IsMarked, IsWhole, KeepsOver}
use Rattle.pg_run.specs.Machines.{machines_of, opening_of}
use Rattle.pg_run.specs.Lanes.{sent_on, taken_on}
use Rattle.pg_adj.specs.Portions.{Portion}
use Rattle.pg_uses.specs.MapRuns.{HasKeptMap}
use Rattle.pg_uses.proofs.Beside.{other_beside, from_openings}
use Rattle.pg_uses.proofs.neighbour_runs.run_over.Goals as goal

pub assemble-requires-clause-new : goal.assemble-requires-clause-new
assemble-requires-clause-new g c κs = λ k p at.
    let made = c.in_ok-programs.ensures in
    let part = other_beside c.args.parts.items c.in_ok-programs.programs.items made.count k p at in
    (made.each k p at part.0 part.1).new

pub assemble-requires-clause-ranks : goal.assemble-requires-clause-ranks
assemble-requires-clause-ranks g c κs = λ k p at.
    let made = c.in_ok-programs.ensures in
    let part = other_beside c.args.parts.items c.in_ok-programs.programs.items made.count k p at in
    ap (λ (q : Portion). q.rank) (made.each k p at part.0 part.1).same_part ∙ (c.requires.order k part.0 part.1).0

pub assemble-requires-clause-sizes : goal.assemble-requires-clause-sizes
assemble-requires-clause-sizes g c κs = λ k p at.
    let made = c.in_ok-programs.ensures in
    let part = other_beside c.args.parts.items c.in_ok-programs.programs.items made.count k p at in
    ap (λ (q : Portion). q.ranks) (made.each k p at part.0 part.1).same_part ∙ ((c.requires.order k part.0 part.1).1 ∙ sym made.count)

pub returns : goal.returns
returns g c =
    let made = c.in_ok-programs.ensures in
    let group = c.in_ok-group.ensures in
    let ran = c.run.ensures in
    let machines = machines_of c.in_ok-group.group in
    let openings = c.in_ok-programs.programs.items in
    let lanes = c.run.result.lanes.items in
    let long : length machines ≡ length c.args.parts.items = omega (arith, group.count, made.count) in
    record {
      count = omega (arith, ran.programs, long);
      book = subst (λ n. IsWhole n (sent_on n lanes) (taken_on n lanes)) long ran.book;
      marks = subst (λ n. IsMarked n (sent_on n lanes)) long ran.marks;
      kept = λ rank p at part there.
          let start = other_beside openings c.run.result.programs.items (omega (arith, ran.programs, group.count)) rank p at in
          let k = from_openings opening_of machines openings group.openings (λ r was now. KeepsOver _ (length machines) r (sent_on (length machines) lanes) (taken_on (length machines) lanes) was now)
          c.run.result.programs.items ran.keeps rank p start.0 at start.1 in
          subst (λ n. HasKeptMap n rank (sent_on n lanes) (taken_on n lanes) part p) long (record {
            start = start.0;
            is_map = made.each rank start.0 start.1 part there;
            heard = k.handled;
            told = k.promised;
            keeps = k.keeps;
            ended = ran.ended rank p at;
            own_heard = k.own_handled;
            own_told = k.own_sent;
            heard_is = k.handled_is;
            told_is = k.sent_is;
          });
    }
