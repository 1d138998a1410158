use Rattle.std.proofs.Common.{◌≡◌, ◌<◌, ◌^◌, drop, fold, ◌+◌, ◌*◌, ◌-◌}
use Rattle.std.specs.List.{list_all}
use Rattle.pg_text.specs.Text.{is_digit, decimal_value}
use Rattle.pg_text.proofs.scanning.digits_value.Given as goal

-- The digits so far, and those that follow, are worth what all are worth.
abbrev pub invariant-loop-digit : goal.invariant-loop-digit
invariant-loop-digit l = record {
  worth : decimal_value l.digits ≡ fold (λ value digit. 10 * value + (digit - 48)) l.value (drop l.digit-index l.digits);
  digits : list_all is_digit l.digits ≡ list_all is_digit (drop l.digit-index l.digits);
  small : l.value < 10 ^ l.digit-index;
}
