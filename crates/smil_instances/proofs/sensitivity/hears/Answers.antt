use Rattle.std.proofs.Common.{◌≡◌, refl, sym, ap, ◌∙◌, Some, List}
use Rattle.std.specs.Prelude.{◌&&◌}
use Rattle.smil_model.specs.document.Document.{elements, node_at}
use Rattle.smil_model.specs.declared.document.Node.{Node}
use Rattle.smil_instances.proofs.EarlierHistory.{before_of}
use Rattle.smil_instances.proofs.SensitiveItems.{serial_is}
use Rattle.smil_instances.proofs.EventsHeard.{heard, sensitive_is, sensitive_to}
use Rattle.smil_instances.proofs.sensitivity.hears.Goals as goal

pub returns-then-is_awake : goal.returns-then-is_awake
returns-then-is_awake c = λ h y e of at.
    let before = before_of h y c.args.arrival.now.history.tree.now c.args.arrival.now.clocks.now h.log c.args.arrival.now.history.book.now of in
    let own = serial_is h.nodes c.args.own.now.who e at in
    let there : node_at (elements c.args.arrival.now.history.tree.now.nodes) c.args.own.now.who ≡ Some e = ap (λ (ns : List Node). node_at (elements ns) c.args.own.now.who) (sym of.same_nodes) ∙ at in
    ap (λ t. t && c.is_sensitive.result) (sym c.if-is_awake.true)
    ∙ heard h e c.args.own.now.side c.args.own.now.item.now c.args.own.now.who c.is_awake.result c.is_sensitive.result own
    (c.is_awake.ensures h y of.same_nodes before of.known)
    (sensitive_is h e c.args.own.now.side c.args.own.now.item.now c.args.arrival.now.history.tree.now.nodes c.args.own.now.who c.was_active.result c.is_sensitive.result of.same_nodes own (c.was_active.ensures h y before) (c.is_sensitive.ensures e there))

pub returns-else-is_awake : goal.returns-else-is_awake
returns-else-is_awake c = λ h y e of at.
    let before = before_of h y c.args.arrival.now.history.tree.now c.args.arrival.now.clocks.now h.log c.args.arrival.now.history.book.now of in
    let own = serial_is h.nodes c.args.own.now.who e at in
    c.if-is_awake.false
    ∙ ap (λ t. t && sensitive_to h e c.args.own.now.side c.args.own.now.item.now) (sym c.if-is_awake.false)
    ∙ heard h e c.args.own.now.side c.args.own.now.item.now c.args.own.now.who c.is_awake.result (sensitive_to h e c.args.own.now.side c.args.own.now.item.now) own (c.is_awake.ensures h y of.same_nodes before of.known) refl
