use Rattle.std.proofs.Common.{rules, tests}
use Rattle.std.specs.List.{list_any}
use Rattle.std.proofs.lemmas.Iterator.Search.{any_from_yields_List}
use Rattle.std.proofs.lemmas.Iterator.Splits.{YieldsList-from_slice_split}
use Rattle.smil_grammar.specs.Texts.{trim}
use Rattle.smil_switch.specs.Preferences.{comma_pieces, covers}
use Rattle.smil_switch.proofs.test_attributes.speaks.Goals as goal

pub returns : goal.returns
returns c =
    any_from_yields_List (λ wanted. list_any (λ tag. covers wanted (trim tag)) (comma_pieces c.args.text.now)) _ _ _ c.any.ensures.ran
    (YieldsList-from_slice_split _ _ c.args.preferred.now c.split.ensures.rest c.split.ensures.done c.split.ensures.closure (λ x b q k. search (rules, tests)))
    (λ x b q k. search (rules, tests))
