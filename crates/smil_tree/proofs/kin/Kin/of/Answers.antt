use Rattle.std.proofs.Common.{sym, ap, subst, ◌∙◌, Some}
use Rattle.std.specs.Prelude.{find}
use Rattle.smil_model.specs.document.Document.{is_element, is_time_child, serial_of}
use Rattle.smil_laws.proofs.LineageParents.{same_eqb}
use Rattle.smil_model.specs.ListTables.{list_of}
use Rattle.smil_tree.specs.Kin.{AreListsOf}
use Rattle.smil_tree.proofs.KinTables.{appended, is_child, kin_of}
use Rattle.smil_tree.proofs.KinTrees.{grown_own}
use Rattle.smil_tree.proofs.NodeFamilies.{above_of}
use Rattle.smil_tree.proofs.NodeWalks.{is_found, walk_begun, walk_on, walk_over}
use Rattle.smil_tree.proofs.kin.Kin.of.Goals as goal

pub loop-node-init : goal.loop-node-init
loop-node-init c = record {
  walk = walk_begun _ _ (c.into_iter-node-iterator.ensures.into_iter_gives ∙ c.iter-node-items.ensures);
  children = λ s. ap (λ es. list_of es s) c.new-children.ensures.empty;
  time_children = λ s. ap (λ es. list_of es s) c.new-time_children.ensures.empty;
}

pub loop-node-preserved : goal.loop-node-preserved
loop-node-preserved c =
    let nodes = c.args.nodes.now in
    let at = c.loop-node.invariant in
    let node = c.in-Some.node.now in
    let known = is_found nodes c.loop-node.node-iterator node c.next.new.self at.walk c.in-Some.ensures.steps c.requires.distinct in
    record {
      walk = walk_on nodes c.loop-node.node-iterator node c.next.new.self at.walk c.in-Some.ensures.steps;
      children = appended c.loop-node.children.entries c.append.new.lists.entries (Some node.parent) at.walk.past node is_child at.children (λ s. same_eqb node.parent s) c.in_ok-append.ensures;
      time_children =
          appended c.loop-node.time_children.entries c.append-in-loop-node.new.lists.entries c.if_element-time_parent.result at.walk.past node (is_time_child nodes) at.time_children
          (grown_own nodes node c.element_from.result c.if_element-time_parent.result
          (c.element_from.ensures ∙ ap (λ l. serial_of (find is_element l)) (sym (above_of nodes c.requires node.serial node known)))
          c.if_element-time_parent.ensures)
          c.in_ok-append-2.ensures;
    }

pub returns : goal.returns
returns c =
    let nodes = c.args.nodes.now in
    let at = c.loop-node.invariant in
    let whole = walk_over nodes c.loop-node.node-iterator at.walk c.in-None.ensures.steps.0 in
    kin_of c.loop-node.children.entries c.loop-node.time_children.entries nodes
    (subst (AreListsOf is_child c.loop-node.children.entries) whole at.children)
    (subst (AreListsOf (is_time_child nodes) c.loop-node.time_children.entries) whole at.time_children)
