use Rattle.std.proofs.Common.{◌∙◌, ◌++◌, ◌∷◌, [], ap, List}
use Rattle.smil_instance_rows.specs.declared.cell.Cell.{Cell}
use Rattle.smil_instances.specs.Dependents.{keyed_in}
use Rattle.smil_instances.proofs.KeyCells.{room_more}
use Rattle.smil_instances.proofs.keys.make_room.Goals as goal

pub loop-alloc-preserved : goal.loop-alloc-preserved
loop-alloc-preserved c = λ k.
    ap (λ keys. keyed_in keys k) c.in_ok-push.ensures.items
    ∙ ap (λ (cells : List Cell). keyed_in (c.loop-alloc.keys.items ++ cells ∷ []) k) c.new.ensures
    ∙ room_more c.loop-alloc.keys.items k ∙ c.loop-alloc.invariant k
