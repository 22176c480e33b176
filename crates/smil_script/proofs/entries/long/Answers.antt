use Rattle.std.proofs.Common.{◌≡◌, ◌≤◌, ◌+◌, ◌*◌, ◌∙◌, sym, ap, get_or, drop, true, arith}
use Rattle.smil_grammar.specs.Numbers.{number_after}
use Rattle.smil_lexis.proofs.DigitSteps.{digit_below}
use Rattle.smil_script.proofs.SerialNumbers.{goes_on, one_more, below}
use Rattle.std.specs.Char.{is_ascii_digit}
use Rattle.smil_script.proofs.entries.long.Goals as goal
use Rattle.smil_script.proofs.entries.long.Goals.{After-from}

-- the byte is a digit
digit : (c : After-from) → is_ascii_digit (get_or c.args.digits.now c.loop-digit.digit-index 0) ≡ true
digit c = sym c.is_ascii_digit.ensures.value ∙ c.if-not-is_ascii_digit.false

small : (c : After-from) → c.from.result ≤ 9
small c = let most = digit_below (get_or c.args.digits.now c.loop-digit.digit-index 0) (digit c) in omega (arith, most, c.from.ensures)

pub loop-digit-preserved : goal.loop-digit-preserved
loop-digit-preserved c = record {
  so_far = ap (λ d. number_after (c.loop-digit.number * 10 + d) (drop (c.loop-digit.digit-index + 1) c.args.digits.now)) c.from.ensures
      ∙ goes_on c.loop-digit.number c.loop-digit.digit-index c.args.digits.now _ c.loop-digit-test.true (digit c) c.loop-digit.invariant.so_far;
  bound = one_more c.loop-digit.number c.loop-digit.digit-index c.from.result c.loop-digit.invariant.bound (small c);
}

pub overflow_mul-number : goal.overflow_mul-number
overflow_mul-number c = let few = below c.loop-digit.number c.loop-digit.digit-index 17 c.loop-digit.invariant.bound (omega arith) in omega (arith, few)

pub overflow_add-number : goal.overflow_add-number
overflow_add-number c =
    let few = below c.loop-digit.number c.loop-digit.digit-index 17 c.loop-digit.invariant.bound (omega arith) in
    let most = small c in
    omega (arith, few, most)

pub returns-clause-bound : goal.returns-clause-bound
returns-clause-bound c = below c.loop-digit.number c.loop-digit.digit-index 18 c.loop-digit.invariant.bound (omega arith)
