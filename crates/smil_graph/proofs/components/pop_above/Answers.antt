use Rattle.std.proofs.Common.{sym, ◌∙◌}
use Rattle.smil_graph.proofs.StackLists.{without_low_top, without_none}
use Rattle.smil_graph.proofs.components.pop_above.Goals as goal

pub returns-then-start-position : goal.returns-then-start-position
returns-then-start-position c = sym (without_low_top c.args.position c.loop-start.starts c.in-Some.start (sym c.top.ensures ∙ c.in-Some.is) c.if-start-position.true) ∙ c.loop-start.invariant

pub returns-in_default : goal.returns-in_default
returns-in_default c = sym (without_none c.args.position c.loop-start.starts (sym c.in_default.ensures)) ∙ c.loop-start.invariant
