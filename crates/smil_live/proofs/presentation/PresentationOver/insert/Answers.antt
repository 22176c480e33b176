use Rattle.std.proofs.Common.{refl, sym, subst, ◌-◌}
use Rattle.smil_model.specs.declared.order.Order.{Order}
use Rattle.smil_model.specs.declared.order.Order.TheVariants as order
use Rattle.smil_model.specs.declared.order.Who.{Who}
use Rattle.smil_model.specs.shown.Answers.{Refuses}
use Rattle.smil_grammar.specs.Formats.{formats}
use Rattle.smil_tree.proofs.ResultClauses.{on_err}
use Rattle.smil_revision.specs.declared.values.Child.{Child}
use Rattle.smil_live.specs.Sites.{IsMade}
use Rattle.smil_live.specs.declared.edits.Site.{Site}
use Rattle.smil_live.proofs.AgreedCells.{IsAnswered, edit_answered}
use Rattle.smil_live.proofs.AgreedEdits.{edit_made}
use Rattle.smil_live.proofs.CountedOrders.{bounded_at_once}
use Rattle.smil_live.proofs.EditOrders.{edit_refused}
use Rattle.smil_live.proofs.presentation.PresentationOver.insert.Given.{Over}
use Rattle.smil_live.proofs.presentation.PresentationOver.insert.Goals as goal
use Rattle.smil_live.proofs.presentation.PresentationOver.insert.Goals.{After-take_edited}

-- the order
abbrev asked : Who → Child → Order
asked who child = order.Insert who child.place child.line.text.now child.line.column

pub take_edited-requires : goal.take_edited-requires
take_edited-requires g c = subst (λ (x : Site). IsMade c.args.self.now.document x c.in_ok-edited.edited.tree) (sym c.in_ok-edited.ensures.site) (edit_made c.args.self.now (asked c.args.who.now c.args.child) c.in_ok-edited.edited.tree refl c.in_ok-edited.ensures.ok)

answered : (g : Over) (c : After-take_edited g) → IsAnswered g.I.ChangeItem.telling c.take_edited.result g.T.Table.counts c.args.self.now c.take_edited.new.self (asked c.args.who.now c.args.child) c.args.out.now c.take_edited.new.out (c.take_edited.new.steps - c.args.steps.now)
answered g c =
    edit_answered g.I.ChangeItem.telling c.take_edited.result g.T.Table.counts c.args.self.now c.take_edited.new.self (asked c.args.who.now c.args.child) c.in_ok-edited.edited.tree c.in_ok-edited.edited.site c.args.out.now c.take_edited.new.out (c.take_edited.new.steps - c.args.steps.now)
    c.settled.ensures.state.document.numbered refl
    c.in_ok-edited.ensures.ok c.in_ok-edited.ensures.site c.take_edited.ensures.ok c.take_edited.ensures.most c.take_edited.ensures.free c.take_edited.ensures.least c.take_edited.ensures.refused

pub returns-clause-ok : goal.returns-clause-ok
returns-clause-ok g c = (answered g (goal.at.returns-clause-ok g c).After-take_edited).ok

pub returns-clause-appended : goal.returns-clause-appended
returns-clause-appended g c = (answered g (goal.at.returns-clause-appended g c).After-take_edited).appended

pub returns-clause-refused : goal.returns-clause-refused
returns-clause-refused g c = (answered g (goal.at.returns-clause-refused g c).After-take_edited).refused

pub returns-clause-bounded : goal.returns-clause-bounded
returns-clause-bounded g c = (answered g (goal.at.returns-clause-bounded g c).After-take_edited).bounded

pub returns-in_err-edited-clause-refused : goal.returns-in_err-edited-clause-refused
returns-in_err-edited-clause-refused g c =
    on_err (Refuses formats c.args.self.now (asked c.args.who.now c.args.child)) c.from_residual.result c.in_err-edited.field-0.0 c.from_residual.ensures.1
    (edit_refused c.args.self.now (asked c.args.who.now c.args.child) c.in_err-edited.field-0.0 refl c.in_err-edited.ensures.err)

pub returns-in_err-edited-clause-bounded : goal.returns-in_err-edited-clause-bounded
returns-in_err-edited-clause-bounded g c = bounded_at_once c.from_residual.result g.T.Table.counts c.args.self.now (asked c.args.who.now c.args.child) c.args.steps.now c.from_residual.ensures.0
