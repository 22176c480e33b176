use Rattle.std.proofs.Common.{sym, ◌∙◌, ap}
use Rattle.smil_model.specs.document.Document.{Document}
use Rattle.smil_graph.specs.Reduced.{all_reduced}
use Rattle.smil_past.proofs.past.Past.revised.Goals as goal

pub revised_by-requires-clause-alike : goal.revised_by-requires-clause-alike
revised_by-requires-clause-alike c = λ alike.
    ap (λ (d : Document). all_reduced d.nodes) (sym c.tree.ensures)
    ∙ c.are_alike-alike.ensures.0 alike
    ∙ ap (λ (d : Document). all_reduced d.nodes) c.tree-2.ensures
