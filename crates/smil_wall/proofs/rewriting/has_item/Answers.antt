use Rattle.std.proofs.Common.{rules, tests}
use Rattle.std.proofs.lemmas.Iterator.Search.{any_from_yields_List}
use Rattle.std.proofs.lemmas.Iterator.Splits.{YieldsList-from_slice_split}
use Rattle.smil_grammar.specs.Texts.{trim}
use Rattle.smil_wall.specs.Rewriting.{is_wall}
use Rattle.smil_wall.proofs.rewriting.has_item.Goals as goal

pub returns : goal.returns
returns c =
    any_from_yields_List (λ item. is_wall (trim item)) _ _ _ c.any.ensures.ran
    (YieldsList-from_slice_split _ _ c.args.text.now c.split.ensures.rest c.split.ensures.done c.split.ensures.closure (λ x b q k. search (rules, tests)))
    (λ x b q k. search (rules, tests))
