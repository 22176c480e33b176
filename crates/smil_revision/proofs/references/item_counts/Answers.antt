use Rattle.std.proofs.Common.{◌≡◌, None, ◌∙◌}
use Rattle.smil_revision.proofs.AgreedMarks.{counted, is_known, none_counted}
use Rattle.smil_revision.specs.ItemCounts.{counts_at}
use Rattle.smil_revision.proofs.references.item_counts.Goals as goal

pub returns-in_err-serial : goal.returns-in_err-serial
returns-in_err-serial c =
    let none : None ≡ counts_at c.args.tree.now.nodes c.args.serial = none_counted c.args.tree.now.nodes c.args.serial c.valid.ensures.numbered.distinct c.in_err-serial.ensures in
    c.from_residual.ensures ∙ none

pub attrs-attrs-requires : goal.attrs-attrs-requires
attrs-attrs-requires c = is_known c.args.tree.now.nodes c.args.serial c.in_ok-serial.serial c.valid.ensures.numbered.distinct c.in_ok-serial.ensures

pub returns : goal.returns
returns c =
    counted c.args.tree.now.nodes c.args.serial c.in_ok-serial.serial c.attrs-attrs.result.now c.count_or.result c.count_or-2.result c.valid.ensures.numbered.distinct c.in_ok-serial.ensures c.attrs-attrs.ensures c.count_or.ensures c.count_or-2.ensures
