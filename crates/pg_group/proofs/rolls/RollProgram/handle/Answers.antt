use Rattle.std.proofs.Common.{◌∙◌, arith}
use Rattle.pg_group.specs.declared.messages.Body.TheVariants.{Item}
use Rattle.pg_group.specs.Rolls.{items_in}
use Rattle.pg_group.proofs.RollLemmas.{length-append_at, items_in-append, counted-more}
use Rattle.pg_group.proofs.rolls.RollProgram.handle.Goals as goal

pub returns-clause-kept : goal.returns-clause-kept
returns-clause-kept c = λ start handled sent kept. record {
  same_rank = kept.same_rank;
  same_ranks = kept.same_ranks;
  same_rounds = kept.same_rounds;
  from_each = length-append_at handled c.args._from.0 (Item c.args._body) ∙ kept.from_each;
  to_each = kept.to_each;
  rolled = kept.rolled;
  counted = counted-more _ (items_in handled) _ kept.counted (items_in-append handled c.args._from.0 c.args._body (omega (arith, kept.from_each, c.requires.0)));
  last = kept.last;
}
