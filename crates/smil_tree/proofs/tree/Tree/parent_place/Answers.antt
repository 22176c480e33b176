use Rattle.std.proofs.Common.{sym, ap, ◌∙◌}
use Rattle.std.specs.Prelude.{option_map}
use Rattle.smil_laws.proofs.RoundsRest.{find-serial}
use Rattle.smil_tree.specs.Outline.{parent_place}
use Rattle.smil_tree.specs.declared.outline.Placed.{Placed}
use Rattle.smil_tree.proofs.OutlineRows.{parent_placed}
use Rattle.smil_tree.proofs.tree.Tree.parent_place.Goals as goal

pub returns-in-Some : goal.returns-in-Some
returns-in-Some c =
    ap (option_map (λ (x : Placed). x.place)) (sym c.in-Some.is)
    ∙ parent_placed c.args.self.now.nodes c.args.self.now.next c.valid.ensures.numbered c.row.ensures.0.serial _ c.row.ensures.2.parent
    ∙ ap (parent_place c.args.self.now.nodes) (find-serial c.args.serial c.args.self.now.nodes c.row.ensures.0 c.row.ensures.1)

pub returns-in-None : goal.returns-in-None
returns-in-None c =
    ap (option_map (λ (x : Placed). x.place)) (sym c.in-None.is)
    ∙ parent_placed c.args.self.now.nodes c.args.self.now.next c.valid.ensures.numbered c.row.ensures.0.serial _ c.row.ensures.2.parent
    ∙ ap (parent_place c.args.self.now.nodes) (find-serial c.args.serial c.args.self.now.nodes c.row.ensures.0 c.row.ensures.1)
