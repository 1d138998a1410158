use Rattle.std.proofs.Common.{◌∙◌, ap, arith, slice_get}
use Rattle.pg_adj.proofs.FewGhosts.{some_ghost}
use Rattle.pg_relax.proofs.OfferedLemmas.{ghosts_between}
use Rattle.pg_relax.proofs.offered.Offered.new.Goals as goal

pub returns-clause-covers : goal.returns-clause-covers
returns-clause-covers c = λ slot g at.
    let ghosts = c.ghosts-ghosts in
    let between = ghosts_between ghosts.result.now some_ghost ghosts.ensures.ascend slot g (ap (λ gs. slice_get gs slot) ghosts.ensures.value ∙ at) in
    (between.0, omega (arith, between.0, between.1, c.in_ok-vec.ensures.len))
