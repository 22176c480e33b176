use Rattle.smil_graph.specs.Components.{IsGrouping, StayKnown, work_left}
use Rattle.smil_graph.proofs.components.Components.follow.Given as goal

abbrev pub invariant-loop-position : goal.invariant-loop-position
invariant-loop-position l = record {
  grouping : IsGrouping l.rows l.self;
  known : StayKnown l.fn.self.marks l.self.marks;
}

abbrev pub decreases-loop-position : goal.decreases-loop-position
decreases-loop-position l = work_left l.rows l.self
