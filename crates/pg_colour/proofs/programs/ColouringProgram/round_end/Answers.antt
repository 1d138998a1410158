use Rattle.std.proofs.Common.{◌<◌, refl, ap, subst}
use Rattle.std.specs.Prelude.{is_some, Option}
use Rattle.pg_group.specs.declared.messages.Vote.{Vote}
use Rattle.pg_colour.specs.Shown.{state_of}
use Rattle.pg_colour.proofs.KeepLemmas.{goes_on_kept, kept_by, own_vote, pass_goes_on, pass_stops, refresh_goes_on, stop_kept}
use Rattle.pg_colour.proofs.programs.ColouringProgram.round_end.Goals as goal

pub begin_pass-requires-clause-idle : goal.begin_pass-requires-clause-idle
begin_pass-requires-clause-idle c =
    let self = c.args.self.now in
    let within = subst (λ r. r < self.part.ranks) c.rank-rank.ensures.value c.rank-rank.ensures.below in
    let cast = own_vote c.args.votes.now self.part.rank self.part.ranks self.cast c.requires.each within c.requires.mine in
    self.voted (ap (λ (v : Option Vote). is_some v) cast.1)

pub returns-then-refreshes-clause-goes_on : goal.returns-then-refreshes-clause-goes_on
returns-then-refreshes-clause-goes_on c =
    let self = c.args.self.now in
    let said = c.begin_pass.ensures in
    refresh_goes_on self.part (state_of self) (state_of c.begin_pass.new.self) c.args.votes.now c.requires.running c.requires.each c.requires.mine
    (c.refreshes.ensures.refreshes c.if-refreshes.true) said.turns said.list

pub returns-then-refreshes-clause-kept : goal.returns-then-refreshes-clause-kept
returns-then-refreshes-clause-kept c = λ start handled sent kept.
    let self = c.args.self.now in
    let within = subst (λ r. r < self.part.ranks) c.rank-rank.ensures.value c.rank-rank.ensures.below in
    kept_by start self c.begin_pass.new.self _ sent c.begin_pass.ensures.part kept.part
    (goes_on_kept self.part (state_of self) (state_of c.begin_pass.new.self) c.args.votes.now handled sent c.requires.running c.requires.each c.requires.mine within
    (returns-then-refreshes-clause-goes_on c) kept.coloured)

pub returns-then-are_nothing-clause-stops : goal.returns-then-are_nothing-clause-stops
returns-then-are_nothing-clause-stops c =
    let self = c.args.self.now in
    pass_stops self.part (state_of self) _ c.args.votes.now c.requires.running c.requires.each c.requires.mine
    (c.refreshes.ensures.fills c.if-refreshes.false) (c.are_nothing.ensures.nothing c.if-are_nothing.true) refl

pub returns-then-are_nothing-clause-kept : goal.returns-then-are_nothing-clause-kept
returns-then-are_nothing-clause-kept c = λ start handled sent kept.
    let self = c.args.self.now in
    let within = subst (λ r. r < self.part.ranks) c.rank-rank.ensures.value c.rank-rank.ensures.below in
    record {
      part = kept.part;
      coloured = stop_kept self.part (state_of self) _ c.args.votes.now handled sent c.requires.running c.requires.each c.requires.mine within
          (returns-then-are_nothing-clause-stops c) kept.coloured;
    }

pub returns-clause-goes_on : goal.returns-clause-goes_on
returns-clause-goes_on c =
    let self = c.args.self.now in
    let said = c.begin_refresh.ensures in
    pass_goes_on self.part (state_of self) (state_of c.begin_refresh.new.self) c.args.votes.now c.requires.running c.requires.each c.requires.mine
    (c.refreshes.ensures.fills c.if-refreshes.false) (c.are_nothing.ensures.not c.if-are_nothing.false) said.turns

pub returns-clause-kept : goal.returns-clause-kept
returns-clause-kept c = λ start handled sent kept.
    let self = c.args.self.now in
    let within = subst (λ r. r < self.part.ranks) c.rank-rank.ensures.value c.rank-rank.ensures.below in
    kept_by start self c.begin_refresh.new.self _ sent c.begin_refresh.ensures.part kept.part
    (goes_on_kept self.part (state_of self) (state_of c.begin_refresh.new.self) c.args.votes.now handled sent c.requires.running c.requires.each c.requires.mine within
    (returns-clause-goes_on c) kept.coloured)
