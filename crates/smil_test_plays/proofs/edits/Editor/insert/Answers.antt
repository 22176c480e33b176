use Rattle.smil_test_plays.proofs.ReadAttributesFit.{may_bear_read}
use Rattle.smil_test_plays.proofs.edits.Editor.insert.Goals as goal

pub insert-requires : goal.insert-requires
insert-requires c =
    may_bear_read c.args.self.now.tree.nodes c.args.parent c.kind.result c.in-Ok-read_node.kind c.slice-line.result.now c.in-Ok-read_node.attrs c.requires c.kind.ensures c.in-Ok-read_node.ensures.node
