use Rattle.std.proofs.Common.{refl}
use Rattle.smil_model.specs.declared.diary.Happening.TheVariants as happening
use Rattle.smil_model.specs.declared.order.Order.TheVariants as order
use Rattle.smil_live.proofs.AnsweredOrders.{answered_as_heard}
use Rattle.smil_live.proofs.presentation.PresentationOver.press.Goals as goal

pub returns : goal.returns
returns g c =
    answered_as_heard g.I.ChangeItem.telling g.T.Table.counts (order.Key c.args.key) (happening.Key c.args.key) c.hear.result c.args.self.now c.hear.new.self c.args.out.now c.hear.new.out c.args.steps.now c.hear.new.steps refl refl refl refl
    c.hear.ensures
