use Rattle.std.proofs.Common.{sym, subst}
use Rattle.std.proofs.lemmas.Result.{on_ok_weaker}
use Rattle.smil_model.specs.declared.diary.Happening.{Happening}
use Rattle.smil_nodes.specs.Noted.{AreNoted, is_concerned_by_heard}
use Rattle.smil_nodes.proofs.CellsListed.{hearers_noted}
use Rattle.smil_nodes.proofs.RanksListed.{alone_noted}
use Rattle.smil_nodes.proofs.concerned.note_heard.Goals as goal

pub returns-in-Event : goal.returns-in-Event
returns-in-Event c =
    let graph = c.args.graph.now in
    on_ok_weaker c.note_moved.result
    (λ noted.
    subst (λ (w : Happening). AreNoted graph.order (is_concerned_by_heard graph.nodes w) c.args.agenda.now c.note_moved.new.agenda) (sym c.in-Event.is)
    (hearers_noted graph.nodes graph.order c.in-Event.who c.args.step c.args.agenda.now c.note_moved.new.agenda c.requires.step noted))
    c.note_moved.ensures

pub returns-in-Media : goal.returns-in-Media
returns-in-Media c =
    let graph = c.args.graph.now in
    on_ok_weaker c.note.result
    (λ noted.
    subst (λ (w : Happening). AreNoted graph.order (is_concerned_by_heard graph.nodes w) c.args.agenda.now c.note.new.agenda) (sym c.in-Media.is)
    (alone_noted graph.nodes graph.order c.order_is_kept.ensures c.in-Media.who c.args.agenda.now c.note.new.agenda noted))
    c.note.ensures
