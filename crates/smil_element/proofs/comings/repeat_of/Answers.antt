use Rattle.std.proofs.Common.{◌∙◌, ap, sym, true, false, []}
use Rattle.smil_instances.proofs.SensitiveItems.{serial_is}
use Rattle.smil_past.specs.Past.{history_of}
use Rattle.smil_element.specs.Element.{and_coming}
use Rattle.smil_element.proofs.ComingKeys.{repeat_is}
use Rattle.smil_element.proofs.comings.repeat_of.Goals as goal

pub returns-then-may_repeat-clause-repeat : goal.returns-then-may_repeat-clause-repeat
returns-then-may_repeat-clause-repeat c = λ place e at.
    repeat_is (history_of c.args.subject.now.present.past.now) c.args.subject.now.present.who e (serial_is c.args.subject.now.present.past.now.document.nodes c.args.subject.now.present.who e at) c.args.simple c.args.subject.now.present.moment place true _ (sym c.if-may_repeat.true ∙ c.may_repeat.ensures e at)
    (c.repeat_found.ensures.repeat place e at)

pub returns-else-may_repeat-clause-repeat : goal.returns-else-may_repeat-clause-repeat
returns-else-may_repeat-clause-repeat c = λ place e at.
    repeat_is (history_of c.args.subject.now.present.past.now) c.args.subject.now.present.who e (serial_is c.args.subject.now.present.past.now.document.nodes c.args.subject.now.present.who e at) c.args.simple c.args.subject.now.present.moment place false _ (sym c.if-may_repeat.false ∙ c.may_repeat.ensures e at)
    (ap (λ o. and_coming o []) (c.no_repeat.ensures.none place c.args.subject.now.present.who))
