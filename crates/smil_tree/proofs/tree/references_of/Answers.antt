use Rattle.std.proofs.Common.{arith}
use Rattle.smil_tree.proofs.TreeMade.{item_at, references-more_at, references-of_one}
use Rattle.smil_tree.proofs.tree.references_of.Goals as goal

pub loop-node-preserved : goal.loop-node-preserved
loop-node-preserved c =
    let i = c.loop-node.node-index in
    let node = c.node-item.result in
    let at = item_at c.args.doc.now.nodes c.nodes-node-items.result.now i node c.nodes-node-items.ensures c.loop-node-test.true c.node-item.is in
    omega (arith, c.loop-node.invariant, c.references_in-count.ensures, references-more_at c.args.doc.now.nodes i node at)

pub references_in-count-requires : goal.references_in-count-requires
references_in-count-requires c =
    let i = c.loop-node.node-index in
    let node = c.node-item.result in
    let at = item_at c.args.doc.now.nodes c.nodes-node-items.result.now i node c.nodes-node-items.ensures c.loop-node-test.true c.node-item.is in
    omega (arith, c.requires, references-of_one c.args.doc.now.nodes i node at)

pub overflow_add-count : goal.overflow_add-count
overflow_add-count c =
    let i = c.loop-node.node-index in
    let node = c.node-item.result in
    let at = item_at c.args.doc.now.nodes c.nodes-node-items.result.now i node c.nodes-node-items.ensures c.loop-node-test.true c.node-item.is in
    omega (arith, c.requires, c.loop-node.invariant, c.references_in-count.ensures, references-of_one c.args.doc.now.nodes i node at)
