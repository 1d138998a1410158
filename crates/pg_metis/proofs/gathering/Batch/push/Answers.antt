use Rattle.std.proofs.Common.{◌≡◌, ◌∙◌, ap, refl, length}
use Rattle.pg_metis.proofs.GatherLemmas.{lines-pushed}
use Rattle.pg_metis.proofs.gathering.Batch.push.Goals as goal

pub returns-clause-lines : goal.returns-clause-lines
returns-clause-lines c =
    let old = c.args.self.now in
    let new = c.extend_from_slice.new.self in
    let bytes = c.in_ok-extend_from_slice.ensures.items in
    let begin : c.len-begin.result ≡ length old.bytes.items = c.len-begin.ensures ∙ old.bytes.ok.0 in
    let end : c.len-end.result ≡ length new.items = c.len-end.ensures ∙ new.ok.0 in
    rw (bytes, c.in_ok-push.ensures.items) (lines-pushed old.bytes.items c.args.line.now old.lines.items c.args.number _ _ c.requires.within begin (end ∙ ap length bytes) (record { number = c.args.number; begin = c.len-begin.result; end = c.len-end.result }) refl refl refl)
