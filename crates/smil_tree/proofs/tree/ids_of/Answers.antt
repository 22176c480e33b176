use Rattle.std.proofs.Common.{sym, ap, ◌∙◌, Some, cond}
use Rattle.smil_tree.specs.TreeFields.{bears}
use Rattle.smil_tree.proofs.TreeMade.{item_at, owner-more_at, once_of}
use Rattle.smil_tree.proofs.tree.ids_of.Goals as goal

pub loop-node-preserved : goal.loop-node-preserved
loop-node-preserved c =
    let i = c.loop-node.node-index in
    let node = c.node-item.result in
    let at = item_at c.args.doc.now.nodes c.nodes-node-items.result.now i node c.nodes-node-items.ensures c.loop-node-test.true c.node-item.is in
    λ q. c.in_ok-note_node.ensures.ok q
    ∙ ap (λ o. cond (bears q node) (Some node.serial) o) (c.loop-node.invariant q)
    ∙ sym (owner-more_at q c.args.doc.now.nodes i node (once_of _ c.requires q) at)
