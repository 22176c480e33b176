use Rattle.std.proofs.Common.{◌≡◌, ◌<◌, sym, ap, subst, ◌∙◌, Some, length}
use Rattle.std.specs.Prelude.{slice_get}
use Rattle.std.specs.Option.{option_copied}
use Rattle.smil_model.specs.declared.document.Node.{Node}
use Rattle.smil_model.specs.document.Document.{Document, serials, time_children}
use Rattle.smil_tree.proofs.OutlineRows.{there}
use Rattle.smil_tree.proofs.tree.Tree.time_children_at.Goals as goal

pub time_children-requires-clause-in_order : goal.time_children-requires-clause-in_order
time_children-requires-clause-in_order c =
    let node = there c.self.inside.nodes c.args.place (subst (λ (d : Document). c.args.place < length d.nodes) (sym c.self.view_is) c.requires) in
    (c.self.invariant.outline_is.rows c.args.place node.0 c.unwrap.result.now node.1 (sym c.row.ensures ∙ ap option_copied c.unwrap.ensures)).1.in_order

pub time_children-requires-clause-within : goal.time_children-requires-clause-within
time_children-requires-clause-within c =
    let node = there c.self.inside.nodes c.args.place (subst (λ (d : Document). c.args.place < length d.nodes) (sym c.self.view_is) c.requires) in
    (c.self.invariant.outline_is.rows c.args.place node.0 c.unwrap.result.now node.1 (sym c.row.ensures ∙ ap option_copied c.unwrap.ensures)).1.within

pub returns : goal.returns
returns c =
    let node = there c.self.inside.nodes c.args.place (subst (λ (d : Document). c.args.place < length d.nodes) (sym c.self.view_is) c.requires) in
    let has = (c.self.invariant.outline_is.rows c.args.place node.0 c.unwrap.result.now node.1 (sym c.row.ensures ∙ ap option_copied c.unwrap.ensures)).1 in
    subst (λ (d : Document). (n : Node) × (slice_get d.nodes c.args.place ≡ Some n) × (c.time_children.result.now ≡ serials (time_children d.nodes n.serial))) c.self.view_is
    (node.0, node.1, c.time_children.ensures ∙ has.listed)
