use Rattle.std.proofs.Common.{◌∙◌, ap, sym}
use Rattle.std.specs.Ordering.{is_lt}
use Rattle.smil_due.proofs.KeyOrder.{before_is_less}
use Rattle.smil_due.proofs.order.comes_before.Goals as goal

pub returns : goal.returns
returns c = c.is_lt.ensures ∙ ap is_lt c.order_of.ensures ∙ sym (before_is_less c.args.a c.args.b)
