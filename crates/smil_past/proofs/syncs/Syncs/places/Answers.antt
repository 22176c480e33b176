use Rattle.std.proofs.Common.{◌∙◌}
use Rattle.std.specs.FinMap.{get}
use Rattle.smil_past.proofs.ItemReferences.{elements_indexed}
use Rattle.smil_past.proofs.syncs.Syncs.places.Goals as goal

pub returns : goal.returns
returns c = λ nodes same.
    elements_indexed nodes c.self.inside.rows.items (get c.self.inside.places.value) (c.self.view_is ∙ same) c.self.invariant
