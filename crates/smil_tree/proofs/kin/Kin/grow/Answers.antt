use Rattle.std.proofs.Common.{sym, ap, ◌+◌, ◌∙◌, ◌≡◌, Some}
use Rattle.std.specs.Option.{option_copied}
use Rattle.smil_model.specs.declared.document.Node.{Node}
use Rattle.smil_model.specs.document.Document.{is_time_child, time_parent, serial_of}
use Rattle.smil_laws.proofs.LineageParents.{same_eqb}
use Rattle.smil_tree.specs.Places.{cut}
use Rattle.smil_tree.proofs.KinTables.{is_child, in_err, same_lists, kin_of, lists_of}
use Rattle.smil_tree.proofs.KinTrees.{grown_lists, grown_own}
use Rattle.smil_tree.proofs.kin.Kin.grow.Goals as goal

pub returns-in_err-make_room-clause-err : goal.returns-in_err-make_room-clause-err
returns-in_err-make_room-clause-err c =
    let others = cut c.args.at (c.args.at + 1) c.args.nodes.now in
    let lists = lists_of c.self.inside.children.entries c.self.inside.time_children.entries c.args.self.now others c.self.view_is c.requires.kin in
    in_err c.from_residual.result
    (kin_of c.make_room.new.lists.entries c.self.inside.time_children.entries others
    (same_lists c.self.inside.children.entries c.make_room.new.lists.entries others is_child lists.0 c.make_room.ensures.same)
    lists.1)

pub returns-in_err-make_room-2-clause-err : goal.returns-in_err-make_room-2-clause-err
returns-in_err-make_room-2-clause-err c =
    let others = cut c.args.at (c.args.at + 1) c.args.nodes.now in
    let lists = lists_of c.self.inside.children.entries c.self.inside.time_children.entries c.args.self.now others c.self.view_is c.requires.kin in
    in_err c.from_residual-in_err-make_room-2.result
    (kin_of c.make_room.new.lists.entries c.make_room-2.new.lists.entries others
    (same_lists c.self.inside.children.entries c.make_room.new.lists.entries others is_child lists.0 c.make_room.ensures.same)
    (same_lists c.self.inside.time_children.entries c.make_room-2.new.lists.entries others (is_time_child others) lists.1 c.make_room-2.ensures.same))

pub join-requires-clause-there : goal.join-requires-clause-there
join-requires-clause-there c = sym c.at.ensures ∙ ap option_copied c.unwrap-node.ensures

pub returns-clause-ok : goal.returns-clause-ok
returns-clause-ok c =
    let nodes = c.args.nodes.now in
    let others = cut c.args.at (c.args.at + 1) nodes in
    let lists = lists_of c.self.inside.children.entries c.self.inside.time_children.entries c.args.self.now others c.self.view_is c.requires.kin in
    let n = c.requires.leaf.0 in
    let same : Some c.unwrap-node.result.now ≡ Some n = sym (sym c.at.ensures ∙ ap option_copied c.unwrap-node.ensures) ∙ c.requires.leaf.1 in
    let one : c.unwrap-node.result.now ≡ n = cc in
    kin_of c.join.new.lists.entries c.join-2.new.lists.entries nodes
    (c.join.ensures is_child (same_lists c.self.inside.children.entries c.make_room.new.lists.entries others is_child lists.0 c.make_room.ensures.same) (λ s. same_eqb c.unwrap-node.result.now.parent s))
    (c.join-2.ensures (is_time_child nodes)
    (grown_lists nodes c.args.at n c.make_room-2.new.lists.entries c.requires.ordered c.requires.leaf.1 c.requires.leaf.2
    (same_lists c.self.inside.time_children.entries c.make_room-2.new.lists.entries others (is_time_child others) lists.1 c.make_room-2.ensures.same))
    (grown_own nodes c.unwrap-node.result.now c.args.time_parent c.if_element-time_parent.result
    (c.requires.leaf.3 ∙ ap (λ (m : Node). serial_of (time_parent nodes m.serial)) (sym one))
    c.if_element-time_parent.ensures))
