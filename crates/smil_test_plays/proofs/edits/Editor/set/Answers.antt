use Rattle.smil_test_plays.proofs.ReadAttributesFit.{may_take_read}
use Rattle.smil_test_plays.proofs.edits.Editor.set.Goals as goal

pub set-requires : goal.set-requires
set-requires c =
    may_take_read c.args.self.now.tree c.args.serial c.kind.result c.in_ok-parent.parent c.slice.result.now c.slice-2.result.now c.in-Ok.attr c.valid.ensures c.requires c.kind.ensures c.in_ok-parent.ensures c.in-Ok.ensures
