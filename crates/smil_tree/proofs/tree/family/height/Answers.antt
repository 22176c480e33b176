use Rattle.std.proofs.Common.{length, sym, ap, arith}
use Rattle.smil_tree.proofs.NodeFamilies.{chain_longer, no_chain}
use Rattle.smil_tree.proofs.tree.family.height.Goals as goal

pub returns-in-None : goal.returns-in-None
returns-in-None c =
    omega (arith, c.loop-height.invariant, c.loop-height-test.true, ap length (no_chain c.args.nodes.now c.loop-height.at (sym c.in-None.ensures)))

pub loop-height-preserved : goal.loop-height-preserved
loop-height-preserved c =
    omega (arith, chain_longer c.args.nodes.now c.requires c.loop-height.at c.in-Some.node.now (sym c.in-Some.ensures), c.loop-height.invariant)
