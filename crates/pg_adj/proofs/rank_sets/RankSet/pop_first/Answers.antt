use Rattle.std.proofs.Common.{ℕ, ◌==◌, ap, rules}
use Rattle.pg_adj.proofs.RankSets.{took_out, lowest_set, lowest_member, no_member}
use Rattle.pg_adj.proofs.rank_sets.RankSet.pop_first.Goals as goal

pub returns-clause-lowest : goal.returns-clause-lowest
returns-clause-lowest c =
    let at = lowest_set c.args.self.now.0 c.if-self-eq0.false (search rules) in
    lowest_member c.args.self.now _ _ at.0 (λ r. took_out c.args.self.now.0 _ r at.0 (search rules) (search rules)) (ap (λ (b : ℕ). b == 1) at.1) (λ r l. ap (λ (b : ℕ). b == 1) (at.2 r l))

pub returns-clause-taken : goal.returns-clause-taken
returns-clause-taken c =
    let at = lowest_set c.args.self.now.0 c.if-self-eq0.false (search rules) in
    ap (λ (b : ℕ). b == 1) at.1

pub returns-clause-others : goal.returns-clause-others
returns-clause-others c = λ r.
    let at = lowest_set c.args.self.now.0 c.if-self-eq0.false (search rules) in
    took_out c.args.self.now.0 _ r at.0 (search rules) (search rules)

pub returns-then-self-eq0-clause-no_members : goal.returns-then-self-eq0-clause-no_members
returns-then-self-eq0-clause-no_members c = λ is. no_member c.args.self.now c.if-self-eq0.true
