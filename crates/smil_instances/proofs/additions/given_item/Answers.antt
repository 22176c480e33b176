use Rattle.std.proofs.Common.{◌≡◌, sym, ◌∙◌, ap, refl, Some}
use Rattle.smil_instances.specs.Intake.{history_of, given_item}
use Rattle.smil_instances.proofs.BeforeEntry.{at_hand}
use Rattle.smil_instances.proofs.EntryGifts.{attrs_of, gift_is, item_here, listed_item}
use Rattle.smil_instances.proofs.additions.given_item.Goals as goal

pub returns-in_ok-item-in-Some : goal.returns-in_ok-item-in-Some
returns-in_ok-item-in-Some c = λ before y q.
    let document = c.args.arrival.now.history.tree.now in
    let nodes = document.nodes in
    let cell = c.args.own.cell in
    let is = c.requires.cell in
    let past = history_of document c.args.arrival.now.history.log.now before in
    let own = attrs_of nodes cell c.args.own.who c.args.own.source is c.attrs.result.now c.attrs.ensures in
    let at : item_here nodes cell c.args.own.who c.args.own.source is ≡ Some c.in_ok-item-in-Some.item.now =
    listed_item nodes cell c.args.own.who c.args.own.source is c.attrs.result.now c.in-Some.items.now own c.in-Some.ensures ∙ sym c.in_ok-item-in-Some.ensures in
    c.given.ensures past y is.element (at_hand document c.args.arrival.now.clocks.now c.args.arrival.now.history.log.now c.args.arrival.now.history.book.now before y c.requires.hand q) is.alone
    ∙ sym (gift_is nodes cell c.args.own.who c.args.own.source is past y refl ∙ ap (given_item past y is.element cell.side) at)
