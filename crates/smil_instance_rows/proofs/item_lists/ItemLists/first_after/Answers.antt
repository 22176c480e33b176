use Rattle.std.proofs.Common.{sym, ap, ◌∙◌}
use Rattle.std.specs.Prelude.{find, not}
use Rattle.smil_instance_rows.specs.Values.{merged}
use Rattle.smil_instance_rows.proofs.IdleItems.{merged_idle}
use Rattle.smil_instance_rows.proofs.item_lists.ItemLists.first_after.Goals as goal

pub returns : goal.returns
returns g c = c.first_after.ensures ∙ ap (find (λ other. not (g.T.Instant.at_most other c.args.value))) (c.self.invariant ∙ sym (merged_idle g.T.Instant.at_most g.T.Instant.choose c.self.inside.idle c.self.inside.items.items) ∙ ap (merged g.T.Instant.at_most g.T.Instant.choose) c.self.view_is)
