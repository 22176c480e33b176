use Rattle.std.proofs.Common.{ap, ◌∙◌, Some}
use Rattle.smil_instances.proofs.EmptyRows.{row_is}
use Rattle.smil_instances.proofs.fresh.fresh_row.Goals as goal

pub returns : goal.returns
returns c = ap Some c.new.ensures ∙ row_is c.args.tree.now.nodes c.args.who c.in_ok-begins.begins.items c.in_ok-ends.ends.items c.in_ok-begins.ensures c.in_ok-ends.ensures
