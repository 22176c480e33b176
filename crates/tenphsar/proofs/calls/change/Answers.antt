use Rattle.std.proofs.Common.{ℕ, List, Option, None, Some, refl, inr, pos}
use Rattle.smil_model.specs.declared.order.Order.{Order}
use Rattle.smil_top.specs.declared.held.Held.{Held}
use Rattle.tenphsar.specs.Orders.{Calls}
use Rattle.tenphsar.proofs.calls.change.Goals as goal

-- memory ran out, whatever order was wanted
ran-out : (name : List ℕ) (wanted : Option Order) (held : Held) → Calls (pos 24) name wanted held held
ran-out name None held = inr (refl, refl)
ran-out name (Some order) held = inr (refl, refl)

pub returns : goal.returns
returns g c wanted made = ran-out c.args.name.now wanted c.args.held.now
