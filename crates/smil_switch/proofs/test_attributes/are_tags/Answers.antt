use Rattle.std.proofs.Common.{rules, tests}
use Rattle.std.proofs.lemmas.Iterator.Search.{all_from_yields_List}
use Rattle.std.proofs.lemmas.Iterator.Splits.{YieldsList-from_slice_split}
use Rattle.smil_grammar.specs.Texts.{trim}
use Rattle.smil_switch.specs.Preferences.{is_tag}
use Rattle.smil_switch.proofs.test_attributes.are_tags.Goals as goal

pub returns : goal.returns
returns c =
    all_from_yields_List (λ tag. is_tag (trim tag)) _ _ _ c.all.ensures.ran
    (YieldsList-from_slice_split _ _ c.args.text.now c.split.ensures.rest c.split.ensures.done c.split.ensures.closure (λ x b q k. search (rules, tests)))
    (λ x b q k. search (rules, tests))
