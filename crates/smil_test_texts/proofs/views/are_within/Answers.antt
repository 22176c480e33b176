use Rattle.std.proofs.Common.{arith, rules}
use Rattle.std.proofs.lemmas.Grind.{common_steps}
use Rattle.smil_test_texts.proofs.views.are_within.Goals as goal

pub returns-then-is_pair_within : goal.returns-then-is_pair_within
returns-then-is_pair_within c =
    λ within. record {
      deferred = c.is_maybe_within.ensures c.if-not-is_maybe_within.false;
      interval = c.is_interval_within.ensures c.if-not-is_interval_within.false;
      begun = c.is_maybe_within-2.ensures c.if-not-is_maybe_within-2.false;
      last = c.is_pair_within.ensures c.if-is_pair_within.true;
      shift = first_of (search (rules, c.is_within.ensures within), grind (arith, common_steps, c.is_within.ensures within));
    }
