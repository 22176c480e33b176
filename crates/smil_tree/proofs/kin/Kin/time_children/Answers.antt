use Rattle.std.proofs.Common.{sym, ap, ◌∙◌}
use Rattle.smil_model.specs.ListTables.{list_in}
use Rattle.smil_tree.proofs.KinTables.{list-rows}
use Rattle.smil_tree.proofs.kin.Kin.time_children.Goals as goal

pub returns : goal.returns
returns c = c.list_at.ensures ∙ sym (list-rows c.self.inside.time_children.entries c.args.serial) ∙ ap (λ f. list_in f.time_children c.args.serial) c.self.view_is
