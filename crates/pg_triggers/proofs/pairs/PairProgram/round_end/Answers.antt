use Rattle.std.proofs.Common.{◌≡◌, ◌&&◌, true, false, length, map, take, refl, sym, subst, ap, ◌∙◌, arith}
use Rattle.std.specs.Prelude.{None}
use Rattle.pg_group.specs.Supersteps.{append_marks}
use Rattle.pg_triggers.specs.Mine.{first_vote, second_vote}
use Rattle.pg_triggers.specs.Paired.{is_cast}
use Rattle.pg_triggers.proofs.PairLemmas.{Promise, both_along, both_end, same_marks, cast_at, not_both}
use Rattle.pg_triggers.proofs.pairs.PairProgram.round_end.Goals.{else-self-via-then-self+else-self-2, else-self-via-else-self}
use Rattle.pg_triggers.proofs.pairs.PairProgram.round_end.Goals as goal

pub invariant_of-self : goal.invariant_of-self
invariant_of-self g c =
    let p = c.args.self.now in
    let first = c.end_on-self in
    let second = c.end_on-self-2 in
    let cast : is_cast p.vote ≡ true = cast_at c.args.votes.now (g.A.Program.own p.first) p.vote (omega (arith, c.rank-own.ensures.within, c.requires.each)) c.requires.mine in
    let both : (first.result && second.result) ≡ true = ap (λ e. e && second.result) c.if-self.true ∙ c.if-self-2.true in
    record {
      same_rank = second.ensures.same_own ∙ p.same_rank ∙ sym first.ensures.same_own;
      same_size = second.ensures.same_size ∙ p.same_size ∙ sym first.ensures.same_size;
      first_ends = first.ensures.ended;
      second_ends = second.ensures.ended;
      first_casts = λ runs. absurd (cc (runs, c.if-self.true));
      second_casts = λ runs. absurd (cc (runs, c.if-self-2.true));
      first_runs = λ runs. absurd (cc (runs, c.if-self.true));
      second_runs = λ runs. absurd (cc (runs, c.if-self-2.true));
      first_rests = λ going. absurd (not_both _ both going);
      second_rests = λ going. absurd (not_both _ both going);
      goes_on = λ none. absurd (cc (cast, ap is_cast none));
    }

pub returns-then-self-2-clause-kept : goal.returns-then-self-2-clause-kept
returns-then-self-2-clause-kept g c = λ start handled sent kept.
    let p = c.args.self.now in
    let first = c.end_on-self in
    let second = c.end_on-self-2 in
    let q = first.new.self in
    let r = second.new.self in
    let own = g.A.Program.own p.first in
    let size = g.A.Program.size p.first in
    let votes = c.args.votes.now in
    let KA : Promise g.row.A-Body.Denot = λ h s. g.A.Program.Keeps start.first h s p.first in
    let KA' : Promise g.row.A-Body.Denot = λ h s. g.A.Program.Keeps start.first h s q in
    let KB : Promise g.row.B-Body.Denot = λ h s. g.B.Program.Keeps start.second h s p.second in
    let KB' : Promise g.row.B-Body.Denot = λ h s. g.B.Program.Keeps start.second h s r in
    let cast : is_cast p.vote ≡ true = cast_at votes own p.vote (omega (arith, c.rank-own.ensures.within, c.requires.each)) c.requires.mine in
    let all : c.count-ranks.result ≡ length votes = c.count-ranks.ensures.value ∙ c.ranks.ensures ∙ sym c.requires.each in
    let ends : (first.result && second.result) ≡ true = ap (λ e. e && second.result) c.if-self.true ∙ c.if-self-2.true in
    both_along KA' KB' own (g.A.Program.own q) size (g.A.Program.size q) (g.A.Program.round q) (g.A.Program.round q) (g.B.Program.round r) (g.B.Program.round r)
    first.result second.result p.vote (append_marks own votes handled) sent first.ensures.same_own first.ensures.same_size refl refl
    (both_end KA KA' KB KB' own size (g.A.Program.round p.first) (g.B.Program.round p.second) p.first_ended p.second_ended p.vote handled sent kept
    (g.A.Program.round q) (g.B.Program.round r) first.result second.result p.vote votes c.requires.each cast c.requires.running (cast ∙ sym ends) p.first_runs p.second_runs
    first.ensures.stays first.ensures.again first.ensures.last_round second.ensures.stays second.ensures.again second.ensures.last_round
    (λ ended h s k. subst (λ x. g.A.Program.Keeps start.first h s x) (sym (first.ensures.rests ended)) k)
    (λ ended h s k. subst (λ x. g.B.Program.Keeps start.second h s x) (sym (second.ensures.rests ended)) k)
    (λ runs h s k. same_marks KA' own own (take c.count-ranks.result c.first_votes-firsts.result) (map first_vote votes) h s refl
    (ap (λ n. take n c.first_votes-firsts.result) all ∙ c.first_votes-firsts.ensures) (first.ensures.kept runs start.first h s k))
    (λ runs h s k. same_marks KB' own (g.B.Program.own p.second) (take c.count-ranks.result c.second_votes-seconds.result) (map second_vote votes) h s p.same_rank
    (ap (λ n. take n c.second_votes-seconds.result) all ∙ c.second_votes-seconds.ensures) (second.ensures.kept runs start.second h s k)))

pub returns-clause-kept : goal.returns-clause-kept
returns-clause-kept g c = λ start handled sent kept.
    let p = c.args.self.now in
    let first = c.end_on-self in
    let second = c.end_on-self-2 in
    let q = first.new.self in
    let r = second.new.self in
    let own = g.A.Program.own p.first in
    let size = g.A.Program.size p.first in
    let votes = c.args.votes.now in
    let KA : Promise g.row.A-Body.Denot = λ h s. g.A.Program.Keeps start.first h s p.first in
    let KA' : Promise g.row.A-Body.Denot = λ h s. g.A.Program.Keeps start.first h s q in
    let KB : Promise g.row.B-Body.Denot = λ h s. g.B.Program.Keeps start.second h s p.second in
    let KB' : Promise g.row.B-Body.Denot = λ h s. g.B.Program.Keeps start.second h s r in
    let cast : is_cast p.vote ≡ true = cast_at votes own p.vote (omega (arith, c.rank-own.ensures.within, c.requires.each)) c.requires.mine in
    let all : c.count-ranks.result ≡ length votes = c.count-ranks.ensures.value ∙ c.ranks.ensures ∙ sym c.requires.each in
    let ends : (first.result && second.result) ≡ false = elim c.else-self.branch [
      | else-self-via-then-self+else-self-2 w ↦ ap (λ e. e && second.result) w.if-self.true ∙ w.if-self-2.false
      | else-self-via-else-self w ↦ ap (λ e. e && second.result) w.if-self.false
    ] in
    both_along KA' KB' own (g.A.Program.own q) size (g.A.Program.size q) (g.A.Program.round q) (g.A.Program.round q) (g.B.Program.round r) (g.B.Program.round r)
    first.result second.result None (append_marks own votes handled) sent first.ensures.same_own first.ensures.same_size refl refl
    (both_end KA KA' KB KB' own size (g.A.Program.round p.first) (g.B.Program.round p.second) p.first_ended p.second_ended p.vote handled sent kept
    (g.A.Program.round q) (g.B.Program.round r) first.result second.result None votes c.requires.each cast c.requires.running (sym ends) p.first_runs p.second_runs
    first.ensures.stays first.ensures.again first.ensures.last_round second.ensures.stays second.ensures.again second.ensures.last_round
    (λ ended h s k. subst (λ x. g.A.Program.Keeps start.first h s x) (sym (first.ensures.rests ended)) k)
    (λ ended h s k. subst (λ x. g.B.Program.Keeps start.second h s x) (sym (second.ensures.rests ended)) k)
    (λ runs h s k. same_marks KA' own own (take c.count-ranks.result c.first_votes-firsts.result) (map first_vote votes) h s refl
    (ap (λ n. take n c.first_votes-firsts.result) all ∙ c.first_votes-firsts.ensures) (first.ensures.kept runs start.first h s k))
    (λ runs h s k. same_marks KB' own (g.B.Program.own p.second) (take c.count-ranks.result c.second_votes-seconds.result) (map second_vote votes) h s p.same_rank
    (ap (λ n. take n c.second_votes-seconds.result) all ∙ c.second_votes-seconds.ensures) (second.ensures.kept runs start.second h s k)))
