use Rattle.std.proofs.Common.{ap, ◌∙◌}
use Rattle.smil_model.specs.document.Valid.{kind_of}
use Rattle.smil_tree.proofs.ParentNodes.{parent_there}
use Rattle.smil_test_plays.proofs.edits.parent_kind.Goals as goal

pub returns-in-Some : goal.returns-in-Some
returns-in-Some c = λ n at.
    c.kind.ensures ∙ ap kind_of (parent_there c.args.tree.now.nodes c.args.serial c.in-Some.parent n at c.in-Some.ensures)
