use Rattle.std.proofs.Common.{refl, ap, ◌∙◌}
use Rattle.pg_colour.specs.Items.{items_in}
use Rattle.pg_colour.specs.Shown.{state_of}
use Rattle.pg_colour.proofs.KeepLemmas.{vote_cast, vote_says}
use Rattle.pg_colour.proofs.Stepping.{voting_keeps}
use Rattle.pg_colour.proofs.programs.ColouringProgram.vote.Goals as goal

pub returns-clause-says : goal.returns-clause-says
returns-clause-says c =
    let self = c.args.self.now in
    vote_says self.part (state_of self) (record { a = c.amount.result; b = 0; c = 0; d = 0 }) (self.rests c.requires.idle ∙ ap (items_in self.part self.list.items) self.phase)
    c.amount.ensures.pass c.amount.ensures.refresh refl refl refl

pub returns-clause-voted : goal.returns-clause-voted
returns-clause-voted c = let self = c.args.self.now in vote_cast self.part (state_of self) _ (record { a = c.amount.result; b = 0; c = 0; d = 0 }) c.requires.uncast refl

pub returns-clause-kept : goal.returns-clause-kept
returns-clause-kept c = λ start handled sent kept.
    let self = c.args.self.now in
    record {
      part = kept.part;
      coloured = voting_keeps self.part handled sent (state_of self) _ (record { a = c.amount.result; b = 0; c = 0; d = 0 }) (returns-clause-says c) (returns-clause-voted c) kept.coloured;
    }
