use Rattle.std.proofs.Common.{◌∙◌, ◌+◌, ◌*◌}
use Rattle.smil_nodes.specs.Slots.{earlier_of}
use Rattle.smil_nodes.proofs.DueTrees.{least_eight}
use Rattle.smil_nodes.proofs.due_tree.least_below.Goals as goal

pub returns : goal.returns
returns c =
    c.with.ensures
    ∙ (λ j. earlier_of (c.least_of_four-front.ensures j) (c.least_of_four-rest.ensures j))
    ∙ least_eight c.args.places.now (8 * c.args.place + 1)
