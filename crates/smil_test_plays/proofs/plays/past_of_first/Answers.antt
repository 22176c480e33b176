use Rattle.std.proofs.Common.{◌∙◌}
use Rattle.smil_graph.specs.Graph.{document_of}
use Rattle.smil_test_plays.proofs.PlaysLawful.{possible_first}
use Rattle.smil_test_plays.proofs.plays.past_of_first.Goals as goal

pub revised-requires : goal.revised-requires
revised-requires c =
    possible_first c.args.past.now (document_of c.in_ok-graph.graph) c.in_ok-log.log c.entries.result.now c.args.len c.possible.ensures (c.in_ok-graph.ensures ∙ c.in_ok-copy.ensures ∙ c.tree.ensures) (c.in_ok-log.ensures ∙ c.log.ensures) (c.entries.ensures ∙ c.book.ensures)
