use Rattle.std.proofs.Common.{sym, ◌∙◌, ap}
use Rattle.smil_model.specs.shown.Lines.{name_by}
use Rattle.smil_shown.proofs.LinesTold.{name_there}
use Rattle.smil_shown.proofs.lines.name_of.Goals as goal

pub returns-in-None : goal.returns-in-None
returns-in-None c =
    sym (name_there c.args.tree.now.nodes c.args.serial c.attrs.result.now c.requires c.attrs.ensures ∙ ap (name_by c.args.serial) c.in-None.is)
