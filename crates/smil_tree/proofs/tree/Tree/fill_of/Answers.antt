use Rattle.std.proofs.Common.{Some, sym, ap, ◌∙◌}
use Rattle.std.specs.Prelude.{option_map}
use Rattle.smil_model.specs.document.Defaults.{fill_of}
use Rattle.smil_tree.proofs.OutlineRows.{fill_never}
use Rattle.smil_tree.proofs.tree.Tree.fill_of.Goals as goal

pub returns-clause-fill : goal.returns-clause-fill
returns-clause-fill c =
    ap Some c.row.ensures.2.fill ∙ sym (ap (option_map (fill_of c.args.self.now.nodes)) c.row.ensures.1)

pub returns-clause-stated : goal.returns-clause-stated
returns-clause-stated c = λ q. fill_never c.args.self.now.nodes c.row.ensures.0 (sym c.row.ensures.2.fill ∙ q)
