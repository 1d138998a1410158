use Rattle.std.proofs.Common.{◌≡◌, ◌+◌, ◌<◌, ℕ, All, subst, ◌∙◌, arith}
use Rattle.std.proofs.lemmas.Result.{err_from_is_err_and}
use Rattle.pg_metis.specs.Headers.{header_in}
use Rattle.pg_metis.proofs.ParsedLines.{arcs-more, fault-here, fault-more}
use Rattle.pg_metis.proofs.parsing.take_rows.Goals as goal

pub returns-in_err-take_line-clause-refused : goal.returns-in_err-take_line-clause-refused
returns-in_err-take_line-clause-refused c =
    let p = err_from_is_err_and c.from_residual.result c.from_residual.ensures.1 in
    let refused = c.in_err-take_line.ensures.refused in
    rw (p.1, p.2) (fault-here (header_in c.args.header) c.args.first c.args.bytes.now c.args.lines.now c.loop-k.k _ c.loop-k-test.true _ _ refused.0 (omega (arith, c.requires.last, c.loop-k-test.true)) c.loop-k.invariant.faultless refused.1)

pub loop-k-preserved : goal.loop-k-preserved
loop-k-preserved c =
    let header = header_in c.args.header in
    let k = c.loop-k.k in
    let took = c.in_ok-take_line.ensures in
    let here : c.args.first + k + 1 ≡ c.args.first + (k + 1) = omega arith in
    record {
      faultless = fault-more header c.args.first c.args.bytes.now c.args.lines.now k _ c.loop-k-test.true (omega (arith, c.requires.last, c.loop-k-test.true)) c.loop-k.invariant.faultless took.faultless;
      adds = arcs-more header c.args.first c.args.bytes.now c.args.lines.now k _ c.loop-k-test.true c.args.arcs.now c.loop-k.arcs c.take_line.new.arcs c.loop-k.invariant.adds took.arcs;
      size = c.take_line.auto.stamps ∙ c.loop-k.invariant.size;
      stamps = subst (λ (n : ℕ). All (λ stamp. stamp < n) c.take_line.new.stamps) here took.stamps;
    }
