use Rattle.std.proofs.Common.{refl, sym, ap, ◌∙◌, ◌+◌, length, take, arith}
use Rattle.smil_laws.proofs.DependencyRanks.{serials_length}
use Rattle.std.specs.Prelude.{is_some, unwrap_or}
use Rattle.smil_model.specs.document.Document.{elements}
use Rattle.smil_tree.specs.Inherited.{own_restart, own_fill}
use Rattle.smil_tree.proofs.DefaultsInherited.{restart_inherits, fill_inherits}
use Rattle.smil_tree.proofs.OutlineRows.{known_at, few_past, few_before, few_at, children_more, parent_is, default_restart_is, default_fill_is}
use Rattle.smil_tree.proofs.outline.Outline.row_of.Goals as goal

pub end_of-requires-clause-known : goal.end_of-requires-clause-known
end_of-requires-clause-known c = ap is_some (known_at c.args.nodes.now c.requires.valid.0 c.requires.valid.1 _ c.args.node.now c.requires.here)

pub small-requires : goal.small-requires
small-requires c = omega (arith, c.end_of.ensures, few_past c.args.nodes.now c.requires.valid.0 c.requires.valid.1 _ c.args.node.now c.requires.here)

pub small-requires-2 : goal.small-requires-2
small-requires-2 c = omega (arith, c.len-children_start.ensures, c.requires.begun.children, few_before c.args.nodes.now c.requires.valid.0 c.requires.valid.1 (length c.args.self.now.rows.items))

pub small-requires-3 : goal.small-requires-3
small-requires-3 c =
    let kin = ap length (c.time_children.ensures ∙ c.requires.kin.time_children c.args.node.now.serial) in
    omega (
      arith,
      kin,
      c.len-children_start.ensures,
      c.requires.begun.children,
      children_more c.args.nodes.now (length c.args.self.now.rows.items) c.args.node.now c.requires.here,
      few_before c.args.nodes.now c.requires.valid.0 c.requires.valid.1 (length c.args.self.now.rows.items + 1),
    )

pub small-requires-4 : goal.small-requires-4
small-requires-4 c =
    omega (
      arith,
      c.len.ensures,
      ap length c.requires.begun.elements,
      few_at c.args.nodes.now c.requires.valid.0 c.requires.valid.1 (length c.args.self.now.rows.items) c.args.node.now c.requires.here,
    )

pub returns-clause-row : goal.returns-clause-row
returns-clause-row c =
    let at = known_at c.args.nodes.now c.requires.valid.0 c.requires.valid.1 _ c.args.node.now c.requires.here in
    let default_restart = c.default_restart-default_restart.ensures ∙ default_restart_is c.args.nodes.now c.requires.valid.0 c.requires.valid.1 c.args.node.now c.above-above.result at c.above-above.ensures in
    let default_fill = c.default_fill-default_fill.ensures ∙ default_fill_is c.args.nodes.now c.requires.valid.0 c.requires.valid.1 c.args.node.now c.above-above.result at c.above-above.ensures in
    record {
      kind = refl;
      parent = c.time_parent.ensures ∙ parent_is c.args.nodes.now c.requires.valid.0 c.requires.valid.1 c.args.node.now c.above-above.result at c.above-above.ensures;
      past = c.small.ensures ∙ c.end_of.ensures;
      index = c.small-4.ensures ∙ omega (arith, c.len.ensures, ap length c.requires.begun.elements, serials_length (elements (take (length c.args.self.now.rows.items) c.args.nodes.now)));
      restart =
          c.unwrap_or.ensures
          ∙ ap (λ r. unwrap_or r c.default_restart-default_restart.result) c.own_restart.ensures
          ∙ ap (unwrap_or (own_restart c.args.node.now.attrs.restart)) default_restart
          ∙ sym (restart_inherits.split c.args.nodes.now c.args.node.now);
      fill =
          c.unwrap_or-2.ensures
          ∙ ap (λ r. unwrap_or r c.default_fill-default_fill.result) c.own_fill.ensures
          ∙ ap (unwrap_or (own_fill c.args.node.now.attrs.fill)) default_fill
          ∙ sym (fill_inherits.split c.args.nodes.now c.args.node.now);
      default_restart = default_restart;
      default_fill = default_fill;
    }
