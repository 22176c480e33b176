use Rattle.std.proofs.Common.{rules}
use Rattle.std.proofs.lemmas.List.Sorted.{answers_always}
use Rattle.smil_model.specs.Times.{time_le}
use Rattle.smil_test_texts.proofs.RisingTests.{times_rise}
use Rattle.smil_test_texts.proofs.rising.times_rise.Goals as goal

pub returns : goal.returns
returns c = times_rise _ _ (c.is_sorted_by.ensures.cases time_le (answers_always _ _ _ (λ f a r g called. search rules)))
