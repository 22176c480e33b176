use Rattle.std.proofs.Common.{◌∙◌, ap, None, arith}
use Rattle.std.proofs.lemmas.List.{get_or_default}
use Rattle.smil_nodes.specs.Slots.{least_number}
use Rattle.smil_nodes.proofs.DueTrees.{first_is_least}
use Rattle.smil_nodes.proofs.due_tree.DueTree.least.Goals as goal

pub returns : goal.returns
returns c =
    let tree = c.self.inside in
    c.number.ensures
    ∙ c.index.ensures
    ∙ get_or_default tree.places.items 0 c.index.result.now None (omega (arith, c.self.invariant.full.full))
    ∙ first_is_least tree.places.items tree.first c.self.invariant
    ∙ ap least_number c.self.view_is
