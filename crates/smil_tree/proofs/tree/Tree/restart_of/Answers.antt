use Rattle.std.proofs.Common.{Some, sym, ap, ◌∙◌}
use Rattle.std.specs.Prelude.{option_map}
use Rattle.smil_model.specs.document.Defaults.{restart_of}
use Rattle.smil_tree.proofs.OutlineRows.{restart_never}
use Rattle.smil_tree.proofs.tree.Tree.restart_of.Goals as goal

pub returns-clause-restart : goal.returns-clause-restart
returns-clause-restart c =
    ap Some c.row.ensures.2.restart ∙ sym (ap (option_map (restart_of c.args.self.now.nodes)) c.row.ensures.1)

pub returns-clause-stated : goal.returns-clause-stated
returns-clause-stated c = λ q. restart_never c.args.self.now.nodes c.row.ensures.0 (sym c.row.ensures.2.restart ∙ q)
