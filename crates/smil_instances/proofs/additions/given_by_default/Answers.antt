use Rattle.std.proofs.Common.{sym, ◌∙◌, ap, refl}
use Rattle.smil_model.specs.declared.document.Edge.TheVariants.{Begin}
use Rattle.smil_instances.specs.Sources.{source_of}
use Rattle.smil_instances.specs.Contribution.{given_at}
use Rattle.smil_instances.specs.Intake.{default_of, history_of, given_item}
use Rattle.smil_instances.proofs.BeforeEntry.{at_hand}
use Rattle.smil_instances.proofs.EntryGifts.{gift_is, no_more, only_item, source_of_item}
use Rattle.smil_instances.proofs.additions.given_by_default.Goals as goal

pub returns-then-cell-gt0 : goal.returns-then-cell-gt0
returns-then-cell-gt0 c = λ before y q.
    let nodes = c.args.arrival.now.history.tree.now.nodes in
    let past = history_of c.args.arrival.now.history.tree.now c.args.arrival.now.history.log.now before in
    let is = c.requires.cell in
    sym (gift_is nodes c.args.own.cell c.args.own.who c.args.own.source is past y refl
    ∙ ap (given_item past y is.element c.args.own.cell.side) (no_more nodes c.args.own.cell c.args.own.who c.args.own.source is c.requires.side c.requires.absent c.if-cell-gt0.true))

pub returns : goal.returns
returns c = λ before y q.
    let nodes = c.args.arrival.now.history.tree.now.nodes in
    let past = history_of c.args.arrival.now.history.tree.now c.args.arrival.now.history.log.now before in
    let is = c.requires.cell in
    c.given.ensures past y is.element (at_hand c.args.arrival.now.history.tree.now c.args.arrival.now.clocks.now c.args.arrival.now.history.log.now c.args.arrival.now.history.book.now before y c.requires.hand q) is.alone
    ∙ ap (given_at past y is.element Begin) c.default_begin-item.ensures
    ∙ ap (λ side. given_at past y is.element side (default_of c.args.own.source)) (sym c.requires.side)
    ∙ sym (gift_is nodes c.args.own.cell c.args.own.who c.args.own.source is past y refl
    ∙ ap (given_item past y is.element c.args.own.cell.side) (only_item nodes c.args.own.cell c.args.own.who c.args.own.source is c.requires.side c.requires.absent c.if-cell-gt0.false))

pub given-requires-clause-source : goal.given-requires-clause-source
given-requires-clause-source c =
    let nodes = c.args.arrival.now.history.tree.now.nodes in
    let is = c.requires.cell in
    source_of_item nodes c.args.own.cell c.args.own.who c.args.own.source is (default_of c.args.own.source) (only_item nodes c.args.own.cell c.args.own.who c.args.own.source is c.requires.side c.requires.absent c.if-cell-gt0.false)
    ∙ ap (source_of nodes c.args.own.who) (sym c.default_begin-item.ensures)
