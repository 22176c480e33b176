use Rattle.std.proofs.Common.{◌≡◌, sym, ap, subst, ◌∙◌, Some}
use Rattle.std.specs.Option.{option_copied}
use Rattle.smil_model.specs.declared.document.Node.{Node}
use Rattle.smil_model.specs.document.Document.{is_time_child}
use Rattle.smil_tree.specs.Places.{cut}
use Rattle.smil_tree.specs.Kin.{Separates}
use Rattle.smil_tree.proofs.KinTables.{is_child, kin_of, lists_of}
use Rattle.smil_tree.proofs.KinTrees.{children_apart, time_apart, cut_lists}
use Rattle.smil_tree.proofs.kin.Kin.shrink.Goals as goal

pub leave-requires-clause-lists : goal.leave-requires-clause-lists
leave-requires-clause-lists c =
    (is_child, (lists_of c.self.inside.children.entries c.self.inside.time_children.entries c.args.self.now c.args.nodes.now c.self.view_is c.requires.kin).0)

pub leave-requires-2-clause-lists : goal.leave-requires-2-clause-lists
leave-requires-2-clause-lists c = (
  is_time_child c.args.nodes.now,
  (lists_of c.self.inside.children.entries c.self.inside.time_children.entries c.args.self.now c.args.nodes.now c.self.view_is c.requires.kin).1,
)

pub returns : goal.returns
returns c =
    let n = c.requires.subtree.0 in
    let sub = c.requires.subtree.1 in
    let same : Some c.unwrap-node.result.now ≡ Some n = sym (sym c.at.ensures ∙ ap option_copied c.unwrap-node.ensures) ∙ sub.first in
    let one : c.unwrap-node.result.now ≡ n = cc in
    let lists = lists_of c.self.inside.children.entries c.self.inside.time_children.entries c.args.self.now c.args.nodes.now c.self.view_is c.requires.kin in
    kin_of c.leave.new.lists.entries c.leave-2.new.lists.entries (cut c.args.start c.args.end c.args.nodes.now)
    (c.leave.ensures is_child lists.0
    (subst (λ (m : Node). Separates is_child (Some m.parent) c.args.start c.args.end c.args.nodes.now) (sym one)
    (children_apart c.args.nodes.now c.requires.ordered c.args.start c.args.end c.requires.in_order n sub)))
    (cut_lists c.args.nodes.now c.requires.ordered c.args.start c.args.end c.requires.in_order n sub c.leave-2.new.lists.entries
    (c.leave-2.ensures (is_time_child c.args.nodes.now) lists.1
    (time_apart c.args.nodes.now c.requires.ordered c.args.start c.args.end c.requires.in_order n sub c.args.time_parent c.requires.subtree.2)))
