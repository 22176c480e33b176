use Rattle.std.proofs.Common.{sym, ap, ◌∙◌, arith}
use Rattle.std.specs.Prelude.{find}
use Rattle.smil_model.specs.document.Document.{is_element, serial_of}
use Rattle.smil_tree.proofs.NodeFamilies.{chain_longer, no_chain, none_lent, nearest_here, nearest_above}
use Rattle.smil_tree.proofs.tree.family.element_from.Goals as goal

pub returns-then-is_element : goal.returns-then-is_element
returns-then-is_element c =
    ap serial_of (sym (nearest_here c.args.nodes.now c.requires c.loop-node.at c.in-Some.node.now (sym c.in-Some.ensures) (sym c.is_element.ensures ∙ c.if-is_element.true)) ∙ c.loop-node.invariant)

pub loop-node-smaller : goal.loop-node-smaller
loop-node-smaller c = omega (arith, chain_longer c.args.nodes.now c.requires c.loop-node.at c.in-Some.node.now (sym c.in-Some.ensures))

pub loop-node-preserved : goal.loop-node-preserved
loop-node-preserved c =
    sym (nearest_above c.args.nodes.now c.requires c.loop-node.at c.in-Some.node.now (sym c.in-Some.ensures) (sym c.is_element.ensures ∙ c.if-is_element.false)) ∙ c.loop-node.invariant

pub returns : goal.returns
returns c =
    ap serial_of
    (sym (ap (find is_element) (no_chain c.args.nodes.now c.loop-node.at (sym c.get.ensures ∙ none_lent c.get.result c.in_default.not-Some))) ∙ c.loop-node.invariant)
