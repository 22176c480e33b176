use Rattle.std.proofs.Common.{arith}
use Rattle.smil_live.proofs.AgreedEdits.{new_next}
use Rattle.smil_live.proofs.edits.edited_node.Goals as goal

pub overflow_sub-serial : goal.overflow_sub-serial
overflow_sub-serial c =
    let next = new_next c.args.tree.now c.args.edited.now c.args.site c.in-New.is c.requires in
    let read = c.next-serial.ensures in
    omega (arith, next, read)
