use Rattle.std.proofs.Common.{take}
use Rattle.smil_model.specs.document.Document.{time_children}
use Rattle.smil_past.specs.Rows.{AreAfterParent}
use Rattle.smil_past.proofs.plays.Plays.turn_children.Given as goal

-- the first time children are turned
abbrev pub invariant-loop-child : goal.invariant-loop-child
invariant-loop-child l = AreAfterParent (take l.child-index (time_children l.fn.tree.nodes l.fn.who)) l.birth l.initial.self l.self
