use Rattle.std.proofs.Common.{◌∙◌, sym, ap}
use Rattle.std.specs.Prelude.{◌&&◌}
use Rattle.std.proofs.lemmas.Result.{on_ok_weaker}
use Rattle.smil_model.specs.document.Document.{time_parent}
use Rattle.smil_rounds.specs.Current.{interval_in}
use Rattle.smil_cells.specs.Evaluated.{is_container, is_moved_container}
use Rattle.smil_nodes.proofs.RanksListed.{none_noted, noted_by}
use Rattle.smil_nodes.proofs.concerned.note_follower.Goals as goal

pub returns-then-may_end : goal.returns-then-may_end
returns-then-may_end c =
    let graph = c.args.graph.now in
    let before = interval_in c.args.schedule.now in
    on_ok_weaker c.note_container.result
    (noted_by graph.order (is_container (time_parent graph.nodes c.args.who)) (is_moved_container graph.nodes before c.args.step c.args.who) c.args.agenda.now c.note_container.new.agenda
    (λ s r at. sym (ap (λ t. t && is_container (time_parent graph.nodes c.args.who) s) (sym c.may_end.ensures ∙ c.if-may_end.true))))
    c.note_container.ensures

pub returns-else-may_end : goal.returns-else-may_end
returns-else-may_end c =
    let graph = c.args.graph.now in
    let before = interval_in c.args.schedule.now in
    none_noted graph.order (is_moved_container graph.nodes before c.args.step c.args.who) c.args.agenda.now
    (λ s r at. ap (λ t. t && is_container (time_parent graph.nodes c.args.who) s) (sym c.may_end.ensures ∙ c.if-may_end.false))
