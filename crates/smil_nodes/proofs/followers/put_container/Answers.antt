use Rattle.std.proofs.Common.{sym, ap}
use Rattle.std.specs.Prelude.{◌&&◌, ℕ}
use Rattle.std.proofs.lemmas.Result.{on_ok_weaker}
use Rattle.smil_model.specs.document.Document.{time_parent}
use Rattle.smil_cells.specs.Evaluated.{is_container}
use Rattle.smil_nodes.proofs.RanksListed.{none_noted, noted_by}
use Rattle.smil_nodes.proofs.followers.put_container.Goals as goal

pub returns-then-changes : goal.returns-then-changes
returns-then-changes c =
    let graph = c.args.graph.now in
    on_ok_weaker c.note_container.result
    (noted_by graph.order (is_container (time_parent graph.nodes c.args.who)) (λ (s : ℕ). c.args.changes && is_container (time_parent graph.nodes c.args.who) s) c.args.agenda.now c.note_container.new.agenda
    (λ s r at. ap (λ t. t && is_container (time_parent graph.nodes c.args.who) s) (sym c.if-changes.true)))
    c.note_container.ensures

pub returns-else-changes : goal.returns-else-changes
returns-else-changes c =
    let graph = c.args.graph.now in
    none_noted graph.order (λ (s : ℕ). c.args.changes && is_container (time_parent graph.nodes c.args.who) s) c.args.agenda.now
    (λ s r at. ap (λ t. t && is_container (time_parent graph.nodes c.args.who) s) c.if-changes.false)
