use Rattle.std.proofs.Common.{ap, ◌∙◌}
use Rattle.std.specs.Prelude.{is_some}
use Rattle.smil_model.specs.document.Document.{time_parent}
use Rattle.smil_model.specs.document.Valid.{kind_of}
use Rattle.smil_instances.proofs.NodesFound.{parent_found, some_serial}
use Rattle.smil_instances.proofs.sources.kind_above.Goals as goal

pub kind-requires : goal.kind-requires
kind-requires c =
    ap is_some (parent_found c.args.tree.now c.valid.ensures.numbered c.args.who c.in_ok-parent.parent c.in_ok-parent.ensures)
    ∙ some_serial (time_parent c.args.tree.now.nodes c.args.who) c.in_ok-parent.parent c.in_ok-parent.ensures

pub returns : goal.returns
returns c = c.kind.ensures ∙ ap kind_of (parent_found c.args.tree.now c.valid.ensures.numbered c.args.who c.in_ok-parent.parent c.in_ok-parent.ensures)
