use Rattle.std.proofs.Common.{ap, length, arith, ◌∙◌}
use Rattle.std.proofs.lemmas.List.{take_all}
use Rattle.smil_model.specs.document.Document.{elements, serials}
use Rattle.smil_tree.proofs.tree.Tree.elements.Goals as goal

pub returns : goal.returns
returns c =
    c.elements.ensures ∙ c.self.invariant.outline_is.elements
    ∙ ap (λ ns. serials (elements ns)) (take_all (length c.self.inside.nodes) c.self.inside.nodes (omega arith))
    ∙ ap (λ d. serials (elements d.nodes)) c.self.view_is
