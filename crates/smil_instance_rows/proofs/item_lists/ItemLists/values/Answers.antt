use Rattle.std.proofs.Common.{sym, ap, ◌∙◌}
use Rattle.smil_instance_rows.specs.Values.{merged}
use Rattle.smil_instance_rows.proofs.IdleItems.{merged_idle}
use Rattle.smil_instance_rows.proofs.item_lists.ItemLists.values.Goals as goal

pub returns : goal.returns
returns g c = c.as_slice.ensures ∙ c.self.invariant ∙ sym (merged_idle g.T.Instant.at_most g.T.Instant.choose c.self.inside.idle c.self.inside.items.items) ∙ ap (merged g.T.Instant.at_most g.T.Instant.choose) c.self.view_is
