use Rattle.std.proofs.Common.{ap, ◌∙◌, length}
use Rattle.std.proofs.lemmas.List.{length-map}
use Rattle.smil_model.specs.declared.document.Node.{Node}
use Rattle.smil_model.specs.document.Document.{time_children}
use Rattle.smil_past.proofs.queues.lines.time_children_of.Goals as goal

pub returns : goal.returns
returns c = ap length c.time_children.ensures ∙ length-map (time_children c.args.tree.now.nodes c.args.serial) (λ (n : Node). n.serial)
