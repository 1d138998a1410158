use Rattle.std.proofs.Common.{◌≡◌, ℕ, map}
use Rattle.pg_group.specs.Entries.{Each}
use Rattle.pg_agenda.specs.declared.shares.Share.{Share}
use Rattle.pg_agenda.specs.Shares.{takes_all}
use Rattle.pg_dist.specs.Sharing.{Sharing}
use Rattle.pg_relax.specs.Shown.{IsNewRelax, label_in, part_in, state_of}
use Rattle.pg_top.specs.Paired.{AreOpen}
use Rattle.pg_top.proofs.Outcomes.{ok_both}
use Rattle.pg_top.proofs.pairs.relaxations.Goals as goal

pub returns : goal.returns
returns g c =
    let s : Sharing = g.D.Distribution.sharing c.args.dist.now in
    let made = c.programs_of.ensures in
    ok_both c.programs_of.result
    (λ ps. (map part_in ps.items ≡ c.in_ok-parts.parts.items) × Each (λ rank p. IsNewRelax p) ps.items)
    (λ ps. Each (λ rank p. label_in p ≡ c.args.label) ps.items × Each (λ rank p. (share : Share) (w : ℕ) → (state_of p).takes share w ≡ takes_all share w) ps.items)
    (λ ps. AreOpen c.args.label takes_all s c.args.graph.now ps.items)
    (ok_both c.programs_of.result (λ ps. map part_in ps.items ≡ c.in_ok-parts.parts.items) (λ ps. Each (λ rank p. IsNewRelax p) ps.items) _ made.parts made.new (λ ps a b. (a, b)))
    (ok_both c.programs_of.result (λ ps. Each (λ rank p. label_in p ≡ c.args.label) ps.items) (λ ps. Each (λ rank p. (share : Share) (w : ℕ) → (state_of p).takes share w ≡ takes_all share w) ps.items) _
    made.labels made.shares (λ ps a b. (a, b)))
    (λ ps a b. record { parts = c.in_ok-parts.parts.items; divided = c.in_ok-parts.ensures; opened = a.0; new = a.1; labels = b.0; shares = b.1 })
