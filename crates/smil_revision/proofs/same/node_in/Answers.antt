use Rattle.std.proofs.Common.{sym, ap, ◌∙◌}
use Rattle.std.specs.Option.{option_copied}
use Rattle.smil_tree.proofs.Listed.{at_place, node_placed}
use Rattle.smil_revision.proofs.same.node_in.Goals as goal

pub returns-in_err-place : goal.returns-in_err-place
returns-in_err-place c =
    ap option_copied c.from_residual.ensures ∙ ap (at_place c.args.tree.now.nodes) (sym c.in_err-place.was ∙ c.position.ensures)
    ∙ sym (node_placed c.args.serial c.args.tree.now.nodes)

pub returns : goal.returns
returns c =
    c.at.ensures ∙ ap (at_place c.args.tree.now.nodes) (sym c.in_ok-place.was ∙ c.position.ensures)
    ∙ sym (node_placed c.args.serial c.args.tree.now.nodes)
