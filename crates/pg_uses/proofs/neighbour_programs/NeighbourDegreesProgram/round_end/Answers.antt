use Rattle.std.proofs.Common.{◌≡◌, ◌∙◌, inr, refl, sym, ap, true, false}
use Rattle.std.specs.Prelude.{Option, is_some}
use Rattle.pg_group.specs.declared.messages.Vote.{Vote}
use Rattle.pg_cells.specs.Shown.{state_of}
use Rattle.pg_cells.specs.Steps.{synchronizes}
use Rattle.pg_cells.specs.declared.flags.Flags.{Flags}
use Rattle.pg_uses.specs.DegreeMaps.{is_filling}
use Rattle.pg_uses.proofs.Keeping.{again_kept, cast_vote, same_flags, stop_kept, stop_phase, stop_sent}
use Rattle.pg_uses.proofs.neighbour_programs.NeighbourDegreesProgram.round_end.Goals as goal

pub end_round-self-requires-after_bounds : goal.end_round-self-requires-after_bounds
end_round-self-requires-after_bounds c κs =
    let p = c.args.self.now in
    let cast = cast_vote c.args._votes.now p.part.rank p.part.ranks c.rank-rank.result.0 p.cast c.requires.each c.rank-rank.ensures.value c.rank-rank.ensures.below c.requires.mine in
    inr (p.all_sent (p.voted (ap (λ (v : Option Vote). is_some v) cast.1)))

pub returns-then-self-clause-kept : goal.returns-then-self-clause-kept
returns-then-self-clause-kept c = λ start handled sent kept.
    let said = c.end_round-self.ensures in
    stop_kept start c.args.self.now _ handled sent c.args._votes.now refl c.requires.each c.requires.running refl said.step (sym said.synchronized ∙ c.if-self.true) said.refreshes said.joins kept

pub returns-clause-kept : goal.returns-clause-kept
returns-clause-kept c = λ start handled sent kept.
    let p = c.args.self.now in
    let said = c.end_round-self.ensures in
    let cast = cast_vote c.args._votes.now p.part.rank p.part.ranks c.rank-rank.result.0 p.cast c.requires.each c.rank-rank.ensures.value c.rank-rank.ensures.below c.requires.mine in
    again_kept start p _ handled sent c.args._votes.now cast.0 refl c.requires.each c.requires.running cast.1 refl said.step (sym said.synchronized ∙ c.if-self.false) said.refreshes said.joins kept

pub invariant_of-self : goal.invariant_of-self
invariant_of-self c =
    let p = c.args.self.now in
    let said = c.end_round-self.ensures in
    let s = state_of p.cells in
    let t = state_of c.end_round-self.new.self in
    let cast = cast_vote c.args._votes.now p.part.rank p.part.ranks c.rank-rank.result.0 p.cast c.requires.each c.rank-rank.ensures.value c.rank-rank.ensures.below c.requires.mine in
    let busy : is_filling s.phase ≡ false = sym p.over ∙ c.requires.running in
    let over : synchronizes s ≡ true = sym said.synchronized ∙ c.if-self.true in
    record {
      same_part = ap (λ (v : _). v.value) said.part ∙ p.same_part;
      backward = ap (λ (f : Flags). f.backward) (same_flags s t said.step p.backward) ∙ p.backward;
      all_sent = λ idle. stop_sent s t said.step p.backward busy over (p.all_sent idle);
      voted = p.voted;
      last = λ ended. ap (λ (v : Option Vote). is_some v) cast.1;
      over = c.if-self.true ∙ sym (stop_phase s t said.step p.backward busy over);
    }
