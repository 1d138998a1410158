use Rattle.std.proofs.Common.{◌≡◌, false, ◌∙◌, sym, drop}
use Rattle.std.specs.List.{list_all}
use Rattle.pg_text.specs.Text.{is_digit}
use Rattle.pg_text.proofs.NumberLemmas.{no_value, value-at_end, not_digits-at}
use Rattle.pg_text.proofs.scanning.digits_value.Goals as goal

pub returns-then-not-is_ascii_digit : goal.returns-then-not-is_ascii_digit
returns-then-not-is_ascii_digit c =
    let none : list_all is_digit (drop c.loop-digit.digit-index c.args.digits.now) ≡ false = not_digits-at c.args.digits.now c.loop-digit.digit-index c.loop-digit-test.true (sym c.is_ascii_digit.ensures.value ∙ c.if-not-is_ascii_digit.true) in
    no_value c.args.digits.now (c.loop-digit.invariant.digits ∙ none)

pub returns : goal.returns
returns c = value-at_end c.args.digits.now c.loop-digit.value c.loop-digit.digit-index c.loop-digit-test.false c.loop-digit.invariant.worth c.loop-digit.invariant.digits
