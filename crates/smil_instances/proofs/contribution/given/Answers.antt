use Rattle.std.proofs.Common.{◌≡◌, ◌∙◌, ap, sym, rules, ℕ, List}
use mir.Syntax.{w64}
use mir.Val.{SFits}
use Rattle.std.proofs.lemmas.Int.{to_z-of_z}
use Rattle.smil_model.specs.declared.document.Item.{Item}
use Rattle.smil_model.specs.declared.document.Node.{Node}
use Rattle.smil_model.specs.document.Document.{time_parent}
use Rattle.smil_instances.specs.declared.source.Source.{Source}
use Rattle.smil_instances.specs.Sources.{source_of}
use Rattle.smil_instances.proofs.GiftsBySource.{means, key_means, start_given, edge_given, event_given, key_given, start_read, edge_read}
use Rattle.smil_instances.proofs.LastEntry.{clocks_read}
use Rattle.smil_instances.proofs.IdTargets.{known_node}
use Rattle.smil_instances.proofs.contribution.given.Goals as goal
use Rattle.smil_instances.proofs.SensitiveItems.{serial_is}

-- the source of the item by the nodes of the history
source_read : (nodes ns : List Node) (who s : ℕ) (item : Item) (source kind : Source) → nodes ≡ ns → s ≡ who → source ≡ source_of ns who item → source ≡ kind → source_of nodes s item ≡ kind
source_read nodes ns who s item source kind is own q r =
    ap (λ k. source_of nodes k item) own ∙ ap (λ l. source_of l who item) is ∙ sym q ∙ r

pub time_parent-parent-requires : goal.time_parent-parent-requires
time_parent-parent-requires c = known_node c.args.arrival.now.history.tree.now.nodes c.args.own.now.who c.requires.element

pub returns-in-Start : goal.returns-in-Start
returns-in-Start c = λ h y e is at.
    let own = serial_is h.nodes c.args.own.now.who e at in
    let same = c.last_entry-entry.ensures.value h.diary y is.same_diary in
    let fits : SFits w64 c.offset_of-offset.result = search rules in
    c.start_time.ensures h (time_parent c.args.arrival.now.history.tree.now.nodes c.args.own.now.who) (clocks_read _ _ _ _ h y is c.last_entry-entry.result same) (sym c.time_parent-parent.ensures)
    ∙ start_read h y e c.args.own.now.side c.args.own.now.who own c.last_entry-entry.result same c.args.arrival.now.history.tree.now.nodes _ _ is.same_nodes (to_z-of_z w64 c.offset_of-offset.result fits ∙ c.offset_of-offset.ensures)
    ∙ sym (start_given h y e c.args.own.now.side c.args.own.now.item.now (source_read h.nodes c.args.arrival.now.history.tree.now.nodes c.args.own.now.who e.serial c.args.own.now.item.now c.args.source _ is.same_nodes own c.requires.source c.in-Start.is))

pub returns-in-Syncbase : goal.returns-in-Syncbase
returns-in-Syncbase c = λ h y e is at.
    let own = serial_is h.nodes c.args.own.now.who e at in
    let same = c.last_entry-entry.ensures.value h.diary y is.same_diary in
    let fits : SFits w64 c.offset_of-offset.result = search rules in
    c.at_place.ensures
    ∙ edge_read h y e c.args.own.now.side c.args.own.now.who own c.last_entry-entry.result same c.in-Syncbase.of c.in-Syncbase.edge _ _ _ c.edge_time-time.result
    (c.edge_time-time.ensures h (clocks_read _ _ _ _ h y is c.last_entry-entry.result same))
    (to_z-of_z w64 c.offset_of-offset.result fits ∙ c.offset_of-offset.ensures)
    (c.place.ensures h y is)
    ∙ sym (edge_given h y e c.args.own.now.side c.args.own.now.item.now c.in-Syncbase.of c.in-Syncbase.edge (source_read h.nodes c.args.arrival.now.history.tree.now.nodes c.args.own.now.who e.serial c.args.own.now.item.now c.args.source _ is.same_nodes own c.requires.source c.in-Syncbase.is))

pub heard-requires-clause-means : goal.heard-requires-clause-means
heard-requires-clause-means c =
    sym (means c.args.arrival.now.history.tree.now.nodes c.args.own.now.who c.args.own.now.item.now c.in-Eventbase.of (sym c.requires.source ∙ c.in-Eventbase.is))

pub heard-requires-in-Key-clause-means : goal.heard-requires-in-Key-clause-means
heard-requires-in-Key-clause-means c =
    key_means c.args.arrival.now.history.tree.now.nodes c.args.own.now.who c.args.own.now.item.now c.in-Key.key (sym c.requires.source ∙ c.in-Key.is)

pub returns-in-Eventbase : goal.returns-in-Eventbase
returns-in-Eventbase c = λ h y e is at.
    c.heard.ensures h y e is at
    ∙ sym
    (event_given h y e c.args.own.now.side c.args.own.now.item.now c.in-Eventbase.of
    (source_read h.nodes c.args.arrival.now.history.tree.now.nodes c.args.own.now.who e.serial c.args.own.now.item.now c.args.source _ is.same_nodes (serial_is h.nodes c.args.own.now.who e at) c.requires.source c.in-Eventbase.is))

pub returns-in-Key : goal.returns-in-Key
returns-in-Key c = λ h y e is at.
    c.heard-in-Key.ensures h y e is at
    ∙ sym
    (key_given h y e c.args.own.now.side c.args.own.now.item.now c.in-Key.key
    (source_read h.nodes c.args.arrival.now.history.tree.now.nodes c.args.own.now.who e.serial c.args.own.now.item.now c.args.source _ is.same_nodes (serial_is h.nodes c.args.own.now.who e at) c.requires.source c.in-Key.is))
