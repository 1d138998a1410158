use Rattle.std.proofs.Common.{◌≢◌, ◌∙◌, arith}
use Rattle.pg_agenda.proofs.Linked.{head_apart}
use Rattle.pg_agenda.proofs.place_lists.PlaceLists.put.Goals as goal

pub returns-clause-kept : goal.returns-clause-kept
returns-clause-kept c head le other elsewhere =
    let s = c.args.self.now in
    let p = c.args.place in
    let apart : head ≢ p = λ e. omega arith in
    c.link.ensures.kept head apart other ∙ c.unlink.ensures.kept head apart (head_apart s.linked p head (omega (arith, s.within)) le elsewhere)
