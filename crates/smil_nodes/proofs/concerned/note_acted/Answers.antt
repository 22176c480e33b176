use Rattle.std.proofs.Common.{◌≡◌, ◌∙◌, sym, ap, subst, List}
use Rattle.std.specs.Prelude.{is_some}
use Rattle.std.proofs.lemmas.Result.{on_ok_weaker}
use Rattle.smil_model.specs.declared.document.Node.{Node}
use Rattle.smil_model.specs.document.Document.{Document, elements, node_at}
use Rattle.smil_model.specs.document.Valid.{IsDistinct}
use Rattle.smil_rounds.specs.Current.{interval_in}
use Rattle.smil_nodes.proofs.RanksListed.{all_acted, known, none_acted}
use Rattle.smil_nodes.proofs.concerned.note_acted.Goals as goal

pub returns-in_default : goal.returns-in_default
returns-in_default c =
    let graph = c.args.graph.now in
    let same : graph.nodes ≡ c.tree-tree.result.now.nodes = c.requires.graph ∙ sym (ap (λ (d : Document). d.nodes) c.tree-tree.ensures) in
    none_acted graph.nodes (subst IsDistinct (sym same) c.valid.ensures.numbered.distinct) graph.order c.order_is_kept.ensures c.args.past.now.log (interval_in c.args.schedule.now) c.args.who c.args.step c.requires.step c.args.agenda.now
    (sym c.place_in_order.ensures ∙ c.in_default.is)

pub note_follower-requires-clause-element : goal.note_follower-requires-clause-element
note_follower-requires-clause-element c =
    let graph = c.args.graph.now in
    ap (λ (d : Document). is_some (node_at (elements d.nodes) c.args.who)) c.tree-tree.ensures
    ∙ ap (λ (ns : List Node). is_some (node_at (elements ns) c.args.who)) (sym c.requires.graph)
    ∙ known graph.nodes graph.order c.order_is_kept.ensures c.args.who c.in-Some.rank (sym c.in-Some.ensures)

pub note_below-requires-clause-element : goal.note_below-requires-clause-element
note_below-requires-clause-element c =
    let graph = c.args.graph.now in
    ap (λ (d : Document). is_some (node_at (elements d.nodes) c.args.who)) c.tree-tree.ensures
    ∙ ap (λ (ns : List Node). is_some (node_at (elements ns) c.args.who)) (sym c.requires.graph)
    ∙ known graph.nodes graph.order c.order_is_kept.ensures c.args.who c.in-Some.rank (sym c.in-Some.ensures)

pub returns : goal.returns
returns c =
    let graph = c.args.graph.now in
    let same : graph.nodes ≡ c.tree-tree.result.now.nodes = c.requires.graph ∙ sym (ap (λ (d : Document). d.nodes) c.tree-tree.ensures) in
    on_ok_weaker c.note_moved.result
    (all_acted graph.nodes (subst IsDistinct (sym same) c.valid.ensures.numbered.distinct) graph.order c.order_is_kept.ensures c.args.past.now.log (interval_in c.args.schedule.now) c.args.who c.args.step c.requires.step c.in-Some.rank c.args.agenda.now c.put.new.self c.note_follower.new.agenda c.note_below.new.agenda c.note_moved.new.agenda
    (sym c.in-Some.ensures) c.in_ok-put.ensures.ok c.in_ok-note_follower.ensures c.in_ok-note_below.ensures)
    c.note_moved.ensures
