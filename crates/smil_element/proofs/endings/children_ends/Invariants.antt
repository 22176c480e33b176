use Rattle.std.proofs.Common.{◌≡◌, take, map}
use Rattle.std.specs.Prelude.{Some}
use Rattle.smil_model.specs.declared.document.Node.{Node}
use Rattle.smil_model.specs.document.Document.{elements, node_at, time_children}
use Rattle.smil_model.specs.interval.Current.{child_end}
use Rattle.smil_past.specs.Past.{history_of}
use Rattle.smil_element.proofs.endings.children_ends.Given as goal

-- the ends of the first children
abbrev pub invariant-loop-child : goal.invariant-loop-child
invariant-loop-child g l = (e : Node) → node_at (elements l.past.document.nodes) l.who ≡ Some e → l.children.items ≡ map (child_end (history_of l.past) (g.J.Intervals.given l.intervals) e) (take l.child-index (time_children l.past.document.nodes l.who))
