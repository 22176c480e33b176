use Rattle.std.proofs.Common.{◌∙◌}
use Rattle.std.specs.FinMap.{get}
use Rattle.smil_model.specs.declared.document.Node.{Node}
use Rattle.smil_model.specs.document.Document.{elements}
use Rattle.smil_instances.proofs.SharedPlaces.{first_is, position_by}
use Rattle.smil_past.proofs.past.Past.index_of.Goals as goal

pub returns : goal.returns
returns c =
    let nodes = c.args.self.now.document.nodes in
    c.element_place.ensures
    ∙ first_is nodes (get c.places.result.now.value) c.possible.ensures.valid.numbered.distinct (c.places.ensures nodes c.syncs.ensures) c.args.who
    ∙ position_by (λ (n : Node). n.serial) (elements nodes) c.args.who
