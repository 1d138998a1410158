use Rattle.std.proofs.Common.{ℕ, ◌+◌, ◌≤◌, sym, subst, arith}
use Rattle.pg_boruvka.specs.declared.messages.Message.TheVariants.{Piece as Keys}
use Rattle.pg_boruvka.specs.Known.{view_of}
use Rattle.pg_boruvka.specs.Calls.{IsNoneFrom}
use Rattle.pg_boruvka.proofs.Seeking.{if_none, up_next_read, up_none_read, down_next_read, down_none_read}
use Rattle.pg_boruvka.proofs.dense.Dense.next_to.Goals as goal

pub returns-in_err-number-in-Up-clause-none : goal.returns-in_err-number-in-Up-clause-none
returns-in_err-number-in-Up-clause-none c =
    let d = c.args.self.now in
    let said = c.in_err-number-in-Up.ensures in
    if_none c.from_residual.result (IsNoneFrom (view_of d) c.args.to.0 c.args.at)
    (up_none_read (view_of d) c.args.to.0 c.args.at c.labels_of-first.result.0 c.labels_of-first.result.1 c.deref.result.now c.deref.ensures.value c.in-Up.is
    c.labels_of-first.ensures.first c.labels_of-first.ensures.past said.none)

pub returns-in_err-number-in-Down-clause-none : goal.returns-in_err-number-in-Down-clause-none
returns-in_err-number-in-Down-clause-none c =
    let d = c.args.self.now in
    let said = c.in_err-number-in-Down.ensures in
    if_none c.from_residual-in_err-number-in-Down.result (IsNoneFrom (view_of d) c.args.to.0 c.args.at)
    (down_none_read (view_of d) c.args.to.0 c.args.at c.own_labels-first.result.0 c.own_labels-first.result.1 c.deref-in-Down.result.now c.deref-in-Down.ensures.value c.in-Down.is
    c.own_labels-first.ensures.first c.own_labels-first.ensures.past said.none)

pub returns-in_ok-number-in-Up-clause-next : goal.returns-in_ok-number-in-Up-clause-next
returns-in_ok-number-in-Up-clause-next c =
    let d = c.args.self.now in
    let said = c.in_ok-number-in-Up.ensures in
    up_next_read (view_of d) c.args.to.0 c.args.at c.labels_of-first.result.0 c.labels_of-first.result.1 c.deref.result.now c.deref.ensures.value c.in-Up.is
    c.labels_of-first.ensures.first c.labels_of-first.ensures.past c.labels_of-first.ensures.least (subst (λ (n : ℕ). c.labels_of-first.result.1 ≤ n + 1) (sym d.is_count) c.labels_of-first.ensures.within)
    c.in_ok-number-in-Up.number (Keys c.in_ok-number-in-Up.piece) said.from said.found said.next

pub returns-in_ok-number-in-Down-clause-next : goal.returns-in_ok-number-in-Down-clause-next
returns-in_ok-number-in-Down-clause-next c =
    let d = c.args.self.now in
    let said = c.in_ok-number-in-Down.ensures in
    down_next_read (view_of d) c.args.to.0 c.args.at c.own_labels-first.result.0 c.own_labels-first.result.1 c.deref-in-Down.result.now c.deref-in-Down.ensures.value c.in-Down.is
    c.own_labels-first.ensures.first c.own_labels-first.ensures.past c.own_labels-first.ensures.least (subst (λ (n : ℕ). c.own_labels-first.result.1 ≤ n + 1) (sym d.is_count) c.own_labels-first.ensures.within)
    c.in_ok-number-in-Down.number (Keys c.in_ok-number-in-Down.piece) said.from said.found said.next
