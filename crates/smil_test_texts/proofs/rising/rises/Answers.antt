use Rattle.std.proofs.Common.{rules}
use Rattle.std.proofs.lemmas.List.Sorted.{answers_always}
use Rattle.std.specs.Prelude.{int_le}
use Rattle.smil_test_texts.proofs.RisingTests.{numbers_rise}
use Rattle.smil_test_texts.proofs.rising.rises.Goals as goal

pub returns : goal.returns
returns c = numbers_rise _ _ (c.is_sorted_by.ensures.cases int_le (answers_always _ _ _ (λ f a r g called. search rules)))
