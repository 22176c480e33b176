use Rattle.std.proofs.Common.{sym, ap, ◌∙◌}
use Rattle.std.specs.Prelude.{option_map}
use Rattle.smil_model.specs.document.Document.{time_parent, serial_of}
use Rattle.smil_laws.proofs.RoundsRest.{find-serial}
use Rattle.smil_tree.specs.declared.outline.Placed.{Placed}
use Rattle.smil_tree.proofs.OutlineRows.{parent_serial}
use Rattle.smil_tree.proofs.tree.Tree.time_parent.Goals as goal

pub returns-in-Some : goal.returns-in-Some
returns-in-Some c =
    ap (option_map (λ (x : Placed). x.serial)) (sym c.in-Some.is)
    ∙ parent_serial c.args.self.now.nodes (time_parent c.args.self.now.nodes c.row.ensures.0.serial) _ c.row.ensures.2.parent
    ∙ ap (λ s. serial_of (time_parent c.args.self.now.nodes s)) (find-serial c.args.serial c.args.self.now.nodes c.row.ensures.0 c.row.ensures.1)

pub returns-in-None : goal.returns-in-None
returns-in-None c =
    ap (option_map (λ (x : Placed). x.serial)) (sym c.in-None.is)
    ∙ parent_serial c.args.self.now.nodes (time_parent c.args.self.now.nodes c.row.ensures.0.serial) _ c.row.ensures.2.parent
    ∙ ap (λ s. serial_of (time_parent c.args.self.now.nodes s)) (find-serial c.args.serial c.args.self.now.nodes c.row.ensures.0 c.row.ensures.1)
