use Rattle.std.proofs.Common.{arith}
use Rattle.smil_model.specs.document.Document.{node_at}
use Rattle.smil_instances.proofs.NodesFound.{no_parent, some_serial}
use Rattle.smil_instances.proofs.sources.parent_of.Goals as goal

pub time_parent-requires : goal.time_parent-requires
time_parent-requires c = some_serial (node_at c.args.tree.now.nodes c.args.who) _ c.in_ok-find.ensures

pub returns-in_err-find : goal.returns-in_err-find
returns-in_err-find c = let e = no_parent c.args.tree.now.nodes c.args.who c.in_err-find.ensures in grind (arith, e)
