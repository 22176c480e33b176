use Rattle.std.proofs.Common.{sym, ap, subst, ◌∙◌}
use Rattle.std.specs.Option.{option_copied}
use Rattle.smil_tree.specs.Outline.{IsAbove, IsRowOf}
use Rattle.smil_tree.proofs.OutlineRows.{no_parent, parent_told, there, lent_there}
use Rattle.smil_tree.proofs.outline.Outline.above.Goals as goal

pub returns-in_err-place : goal.returns-in_err-place
returns-in_err-place c =
    subst (IsAbove c.args.nodes.now c.args.node.now.parent) (sym c.from_residual.ensures)
    (no_parent c.args.nodes.now c.requires.valid.0 c.requires.valid.1 c.args.node.now c.position.result c.position.ensures c.in_err-place.was)

pub unwrap-row-requires : goal.unwrap-row-requires
unwrap-row-requires c =
    let parent = parent_told c.args.nodes.now c.requires.valid.0 c.requires.valid.1 _ c.in_ok-place.place c.args.node.now c.requires.here (sym c.position.ensures ∙ c.in_ok-place.was) in
    let row = there c.args.self.now.rows.items c.in_ok-place.place parent.before in
    lent_there c.row.result row.0 (c.row.ensures ∙ row.1)

pub returns : goal.returns
returns c =
    let parent = parent_told c.args.nodes.now c.requires.valid.0 c.requires.valid.1 _ c.in_ok-place.place c.args.node.now c.requires.here (sym c.position.ensures ∙ c.in_ok-place.was) in
    let row = c.requires.begun.rows c.in_ok-place.place parent.node c.unwrap-row.result.now parent.there (sym c.row.ensures ∙ ap option_copied c.unwrap-row.ensures) in (
      parent.node,
      parent.known,
      c.small.ensures ∙ parent.place,
      subst (λ k. IsRowOf c.args.nodes.now k parent.node c.unwrap-row.result.now) (sym c.small.ensures) row.0,
    )
