use Rattle.std.proofs.Common.{◌≡◌, ◌≢◌, ◌<◌, ◌≤◌, sym, ap, ◌∙◌, arith}
use Rattle.std.proofs.lemmas.List.{get_or_read}
use Rattle.pg_agenda.specs.Moves.{home, stamp}
use Rattle.pg_agenda.specs.PlaceLists.{link_at}
use Rattle.pg_agenda.proofs.Linked.{bare, earlier, first_within, first_home, not_own}
use Rattle.pg_agenda.proofs.place_lists.PlaceLists.take_first.Goals as goal

pub returns-then-first-list-clause-none : goal.returns-then-first-list-clause-none
returns-then-first-list-clause-none c place lt =
    let s = c.args.self.now in
    let e = get_or_read s.next.items c.args.list _ c.requires.list c.index-first.ensures 0 in
    bare s.linked s.within c.args.list c.requires.head (sym e ∙ c.if-first-list.true) place lt

pub returns-clause-within : goal.returns-clause-within
returns-clause-within c =
    let s = c.args.self.now in
    let e = get_or_read s.next.items c.args.list _ c.requires.list c.index-first.ensures 0 in
    let h = first_within s.linked c.args.list c.requires.head c.requires.list (λ f. c.if-first-list.false (e ∙ f)) in
    omega (arith, e, h)

pub returns-clause-some : goal.returns-clause-some
returns-clause-some c =
    let s = c.args.self.now in
    let e = get_or_read s.next.items c.args.list _ c.requires.list c.index-first.ensures 0 in
    ap (home s.moves) e ∙ first_home s.linked c.args.list c.requires.head c.requires.list

pub returns-clause-kept : goal.returns-clause-kept
returns-clause-kept c head le other =
    let s = c.args.self.now in
    let p = c.index-first.result.now in
    let e = get_or_read s.next.items c.args.list p c.requires.list c.index-first.ensures 0 in
    let within : p < s.count = returns-clause-within c in
    let back : link_at s.prev.items p ≡ c.args.list = ap (link_at s.prev.items) e ∙ s.linked.back c.args.list c.requires.list in
    c.unlink.ensures.kept head (λ f. omega arith) (λ f. other (f ∙ back))

pub returns-clause-fewer : goal.returns-clause-fewer
returns-clause-fewer c =
    let s = c.args.self.now in
    let p = c.index-first.result.now in
    let e = get_or_read s.next.items c.args.list p c.requires.list c.index-first.ensures 0 in
    let within : p < s.count = returns-clause-within c in
    let its : home s.moves p ≡ c.args.list = returns-clause-some c in
    let head : s.count ≤ c.args.list = c.requires.head in
    let back : link_at s.prev.items p ≡ c.args.list = ap (link_at s.prev.items) e ∙ s.linked.back c.args.list c.requires.list in
    let after : link_at c.unlink.new.self.next.items c.args.list ≡ link_at s.next.items p =
    ap (link_at c.unlink.new.self.next.items) (sym back) ∙ c.unlink.ensures.closed (λ f. omega (arith, f, back, within, head)) in
    let ne : link_at s.next.items p ≢ p = not_own s.linked p within s.within (omega (arith, its, head)) in
    let less : stamp s.moves (link_at s.next.items p) < stamp s.moves p = earlier s.linked p within s.within (omega (arith, its, head)) in
    omega (arith, less, ap (stamp c.unlink.new.self.moves) after, c.unlink.ensures.older (link_at s.next.items p) ne, ap (stamp s.moves) e)
