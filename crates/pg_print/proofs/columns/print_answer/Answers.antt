use Rattle.std.proofs.Common.{arith}
use Rattle.std.proofs.lemmas.Fmt.{length-decimal-le}
use Rattle.pg_print.proofs.columns.print_answer.Goals as goal

pub write_digits-start-requires : goal.write_digits-start-requires
write_digits-start-requires g c = (length-decimal-le 20 c.in-Some.number (omega arith) (omega arith) (omega arith), omega arith)
