use Rattle.std.proofs.Common.{Some, sym, ap, ◌∙◌}
use Rattle.smil_model.specs.document.Valid.{kind_of}
use Rattle.smil_tree.proofs.tree.Tree.kind.Goals as goal

pub returns : goal.returns
returns c = ap Some c.row.ensures.2.kind ∙ sym (ap kind_of c.row.ensures.1)
