use Rattle.std.proofs.Common.{arith, rules}
use Rattle.std.proofs.lemmas.Fmt.{decimal_digit, length-decimal-le}
use Rattle.smil_report.proofs.backwards.put_number_before.Goals as goal

pub write_digits-requires : goal.write_digits-requires
write_digits-requires c = (omega (arith, length-decimal-le 10 c.from.result (omega arith) (omega arith) (omega arith)), search rules)

pub returns-then-number-lt10-clause-place : goal.returns-then-number-lt10-clause-place
returns-then-number-lt10-clause-place c = search (rules, decimal_digit)

pub returns-then-number-lt10-clause-written : goal.returns-then-number-lt10-clause-written
returns-then-number-lt10-clause-written c = search (rules, decimal_digit)

pub returns-else-number-lt10-clause-short : goal.returns-else-number-lt10-clause-short
returns-else-number-lt10-clause-short c = omega (arith, length-decimal-le 10 c.from.result (omega arith) (omega arith) (omega arith))
