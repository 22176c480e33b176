use Rattle.std.proofs.Common.{◌∙◌, refl, sym, ap}
use Rattle.std.proofs.lemmas.Result.{on_ok_weaker}
use Rattle.smil_graph.specs.Graph.{is_reader_rank, readers_of}
use Rattle.smil_nodes.proofs.RanksListed.{at_rank, below, element_noted, element_passed, ranks_noted}
use Rattle.smil_nodes.proofs.concerned.note_element.Goals as goal

pub returns-in_default : goal.returns-in_default
returns-in_default c = element_passed c.args.graph.now.nodes c.args.graph.now.order c.order_is_kept.ensures c.args.serial c.args.agenda.now
    (sym c.place_in_order.ensures ∙ c.in_default.is)

pub reader_ranks-requires : goal.reader_ranks-requires
reader_ranks-requires c = below c.args.graph.now.order c.args.serial c.in-Some.rank (sym c.in-Some.ensures)

pub returns : goal.returns
returns c =
    let graph = c.args.graph.now in
    on_ok_weaker c.put_ranks.result
    (λ told. element_noted graph.nodes graph.order c.order_is_kept.ensures c.args.serial c.in-Some.rank (readers_of graph.nodes c.args.serial) c.args.agenda.now c.put.new.self c.put_ranks.new.agenda (sym c.in-Some.ensures) refl c.in_ok-put.ensures.ok
    (ranks_noted graph.order (readers_of graph.nodes c.args.serial) c.reader_ranks.result.now c.put.new.self c.put_ranks.new.agenda
    (λ r. c.reader_ranks.ensures r ∙ ap (λ s. is_reader_rank graph.nodes graph.order s r) (at_rank graph.order c.args.serial c.in-Some.rank (sym c.in-Some.ensures))) told))
    c.put_ranks.ensures
