use Rattle.std.proofs.Common.{◌≡◌, ◌≢◌, ◌<◌, sym, ap, ◌∙◌, arith}
use Rattle.std.proofs.lemmas.List.{get_or_read}
use Rattle.pg_agenda.specs.Moves.{home}
use Rattle.pg_agenda.specs.PlaceLists.{link_at}
use Rattle.pg_agenda.proofs.Linked.{bare_before, head_apart, last_within, last_home}
use Rattle.pg_agenda.proofs.place_lists.PlaceLists.take_last.Goals as goal

pub returns-then-last-list-clause-none : goal.returns-then-last-list-clause-none
returns-then-last-list-clause-none c place lt =
    let s = c.args.self.now in
    let e = get_or_read s.prev.items c.args.list _ (omega (arith, c.requires.list, s.as_many)) c.index-last.ensures 0 in
    bare_before s.linked s.within c.args.list c.requires.head c.requires.list (sym e ∙ c.if-last-list.true) place lt

pub returns-clause-within : goal.returns-clause-within
returns-clause-within c =
    let s = c.args.self.now in
    let e = get_or_read s.prev.items c.args.list _ (omega (arith, c.requires.list, s.as_many)) c.index-last.ensures 0 in
    let h = last_within s.linked c.args.list c.requires.head c.requires.list (λ f. c.if-last-list.false (e ∙ f)) in
    omega (arith, e, h)

pub returns-clause-some : goal.returns-clause-some
returns-clause-some c =
    let s = c.args.self.now in
    let e = get_or_read s.prev.items c.args.list _ (omega (arith, c.requires.list, s.as_many)) c.index-last.ensures 0 in
    ap (home s.moves) e ∙ last_home s.linked c.args.list c.requires.head c.requires.list

pub returns-clause-kept : goal.returns-clause-kept
returns-clause-kept c head le other =
    let s = c.args.self.now in
    let p = c.index-last.result.now in
    let within : p < s.count = returns-clause-within c in
    let its : home s.moves p ≡ c.args.list = returns-clause-some c in
    let apart : head ≢ link_at s.prev.items p = head_apart s.linked p head (omega (arith, within, s.within)) le (λ f. other (f ∙ its)) in
    c.unlink.ensures.kept head (λ f. omega arith) apart
