use Rattle.std.proofs.Common.{ap, ◌∙◌, arith, length}
use Rattle.smil_tree.proofs.OutlineRows.{outline_copied}
use Rattle.smil_tree.proofs.outline.Outline.copy.Goals as goal

pub returns : goal.returns
returns c = λ nodes begun.
    outline_copied nodes c.args.self.now (record { rows = c.in_ok-with_room.field-0; children = c.in_ok-with_room-2.field-0; elements = c.in_ok-with_room-3.field-0 })
    (c.in_ok-with_room.ensures.items ∙ c.deref.ensures.value) (c.in_ok-with_room-2.ensures.items ∙ c.deref-2.ensures.value) (c.in_ok-with_room-3.ensures.items ∙ c.deref-3.ensures.value)
    c.len-count.result (omega (arith, c.len-count.ensures, c.deref.ensures.len, ap length c.deref.ensures.value)) (record { rows = c.in_ok-with_room.ensures.room; children = c.in_ok-with_room-2.ensures.room; elements = c.in_ok-with_room-3.ensures.room }) begun
