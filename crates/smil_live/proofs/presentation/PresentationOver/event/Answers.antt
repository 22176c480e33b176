use Rattle.std.proofs.Common.{rules, ◌≡◌, refl, ◌∙◌}
use Rattle.smil_model.specs.declared.diary.Happening.TheVariants as happening
use Rattle.smil_model.specs.declared.order.Order.TheVariants as order
use Rattle.smil_model.specs.document.Limits.{limits}
use Rattle.smil_model.specs.shown.Answers.{Refuses}
use Rattle.smil_model.specs.shown.Orders.{outcome, with_logged as logged_within}
use Rattle.smil_grammar.specs.Formats.{formats}
use Rattle.smil_tree.proofs.ResultClauses.{on_err}
use Rattle.smil_live.proofs.AnsweredOrders.{answered_as_heard, refused_at_once}
use Rattle.smil_live.proofs.OrderOutcomes.{event_is, event_refused, may_event}
use Rattle.smil_live.proofs.presentation.PresentationOver.event.Given.{Over}
use Rattle.smil_live.proofs.presentation.PresentationOver.event.Goals as goal
use Rattle.smil_live.proofs.presentation.PresentationOver.event.Goals.{After-hear}

pub hear-requires : goal.hear-requires
hear-requires g c = may_event c.in_ok-serial.serial c.in_ok-name.name c.args.name.now c.in_ok-serial.ensures.serial (c.in_ok-name.ensures ∙ c.slice.ensures) c.requires.1

-- the order comes to the event that is heard
is_heard : (g : Over) (c : After-hear g) → outcome formats c.args.self.now (order.Event c.args.who.now c.args.name.now) ≡ logged_within limits c.args.self.now (happening.Event c.in_ok-serial.serial c.in_ok-name.name)
is_heard g c =
    let h = c.in_ok-serial.ensures.ok in
    event_is c.args.self.now c.args.who.now c.in_ok-serial.serial c.in_ok-name.name c.args.name.now h.0 h.1 h.2 (c.in_ok-name.ensures ∙ c.slice.ensures)

pub returns : goal.returns
returns g c =
    answered_as_heard g.I.ChangeItem.telling g.T.Table.counts (order.Event c.args.who.now c.args.name.now) (happening.Event c.in_ok-serial.serial c.in_ok-name.name) c.hear.result c.args.self.now c.hear.new.self c.args.out.now c.hear.new.out
    c.args.steps.now c.hear.new.steps (is_heard g (goal.at.returns g c).After-hear) refl refl refl c.hear.ensures

pub returns-in_err-serial : goal.returns-in_err-serial
returns-in_err-serial g c =
    let given = c.in_err-serial.field-0.0 in
    refused_at_once g.I.ChangeItem.telling g.T.Table.counts (order.Event c.args.who.now c.args.name.now) c.from_residual.result c.args.self.now c.args.out.now c.args.steps.now c.from_residual.ensures.0
    (on_err (Refuses formats c.args.self.now (order.Event c.args.who.now c.args.name.now)) c.from_residual.result given c.from_residual.ensures.1 (event_refused c.args.self.now c.args.who.now c.args.name.now given c.in_err-serial.ensures.err))

pub returns-in_err-name : goal.returns-in_err-name
returns-in_err-name g c =
    refused_at_once g.I.ChangeItem.telling g.T.Table.counts (order.Event c.args.who.now c.args.name.now) c.from_residual-in_err-name.result c.args.self.now c.args.out.now c.args.steps.now c.from_residual-in_err-name.ensures.0 (search rules)
