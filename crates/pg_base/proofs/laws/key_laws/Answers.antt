use Rattle.pg_base.proofs.KeyLemmas.{keys_are_strict, keys_carry_over, keys_tell_apart, numbers_order_keys}
use Rattle.pg_base.proofs.laws.key_laws.Goals as goal

pub returns : goal.returns
returns c = record {
  strict = keys_are_strict;
  carry_over = keys_carry_over;
  tell_apart = keys_tell_apart;
  numbers = numbers_order_keys;
}
