use Rattle.std.proofs.Common.{take}
use Rattle.smil_model.specs.document.Closure.{has}
use Rattle.smil_cells.specs.Shown.{ArePut, OnlyMore, StayIn}
use Rattle.smil_cells.proofs.order.put_nodes.Given as goal

abbrev pub invariant-loop-serial : goal.invariant-loop-serial
invariant-loop-serial l = record {
  more : StayIn l.fn.places l.places;
  put : ArePut l.tree.nodes (take l.serial-index l.serial-items) l.places;
  only : OnlyMore l.tree.nodes l.fn.places l.places (has l.serial-items);
}
