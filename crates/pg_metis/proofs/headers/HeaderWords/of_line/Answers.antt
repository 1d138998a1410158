use Rattle.std.proofs.Common.{◌∙◌, sym, refl}
use Rattle.pg_metis.proofs.HeaderLemmas.{no-word, one-word, past-four, at-most-four}
use Rattle.pg_metis.proofs.headers.HeaderWords.of_line.Goals as goal

pub returns-in_err-n-clause-none : goal.returns-in_err-n-clause-none
returns-in_err-n-clause-none c = λ none. no-word _ (sym c.words-left.ensures ∙ c.in_err-n.ensures.steps.0)

pub returns-in_err-m-clause-none : goal.returns-in_err-m-clause-none
returns-in_err-m-clause-none c = λ none. one-word _ c.in_ok-n.n.now _ (sym c.words-left.ensures ∙ c.in_ok-n.ensures.steps) c.in_err-m.ensures.steps.0

pub returns-then-is_some-clause-none : goal.returns-then-is_some-clause-none
returns-then-is_some-clause-none c = λ none. past-four _ _ _ _ _ _ c.in_ok-n.n.now c.in_ok-m.m.now c.next-3.result c.next-4.result c.next-5.result (sym c.words-left.ensures ∙ c.in_ok-n.ensures.steps) c.in_ok-m.ensures.steps c.next-3.ensures.steps c.next-4.ensures.steps c.next-5.ensures.steps c.if-is_some.ensures

pub returns-clause-some : goal.returns-clause-some
returns-clause-some c =
    rw (c.unwrap_or-digits.ensures, c.unwrap_or-ncon.ensures)
    (at-most-four _ _ _ _ _ _ c.in_ok-n.n.now c.in_ok-m.m.now c.next-3.result c.next-4.result c.next-5.result _ _ (sym c.words-left.ensures ∙ c.in_ok-n.ensures.steps) c.in_ok-m.ensures.steps c.next-3.ensures.steps c.next-4.ensures.steps c.next-5.ensures.steps c.if-is_some.ensures refl refl)
