use Rattle.std.proofs.Common.{◌+◌, length, sym, ap, ◌∙◌, length-append}
use Rattle.pg_group.proofs.Growing.{each_push}
use Rattle.pg_run_tests.proofs.tests.rolls.Goals as goal

pub loop-rank-preserved : goal.loop-rank-preserved
loop-rank-preserved c =
    let inv = c.loop-rank.invariant in
    let grown = c.in-Ok.ensures.items in
    let before = c.loop-rank.rolls.items in
    let made = c.new-roll.ensures in
    record {
      count = ap length grown ∙ length-append before _ ∙ ap (λ n. n + 1) inv.count;
      new = each_push _ before c.push.new.self.items _ grown inv.new made.new;
      own = each_push _ before c.push.new.self.items _ grown inv.own (made.own ∙ sym inv.count);
      size = each_push _ before c.push.new.self.items _ grown inv.size made.size;
    }
