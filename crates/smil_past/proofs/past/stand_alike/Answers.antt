use Rattle.std.proofs.Common.{rules, ◌≡◌, ap}
use Rattle.std.specs.Prelude.{is_some}
use Rattle.smil_tree.specs.Outline.{parent_place}
use Rattle.smil_tree.proofs.NodeWalks.{is_found, walk_on}
use Rattle.smil_past.proofs.ClocksAlike.{alike_on, same_clock}
use Rattle.smil_past.proofs.past.stand_alike.Goals as goal

pub parent_place-requires : goal.parent_place-requires
parent_place-requires c =
    ap is_some (is_found c.args.before.now.nodes c.loop-node.node-iterator c.in-Some.node.now c.next.new.self c.loop-node.invariant.walk c.in-Some.ensures.steps c.valid.ensures.numbered.distinct)

pub parent_place-requires-in-loop-node : goal.parent_place-requires-in-loop-node
parent_place-requires-in-loop-node c =
    ap is_some (is_found c.args.after.now.nodes c.loop-node.left c.in-Some-next.other.now c.next-in-loop-node.new.self c.loop-node.invariant.other c.in-Some-next.ensures.steps c.valid-2.ensures.numbered.distinct)

pub loop-node-preserved : goal.loop-node-preserved
loop-node-preserved c =
    let before = c.args.before.now.nodes in
    let after = c.args.after.now.nodes in
    let n = c.in-Some.node.now in
    let m = c.in-Some-next.other.now in
    let serial : n.serial ≡ m.serial = search rules in
    let parent : parent_place before n.serial ≡ parent_place after m.serial = search rules in
    record {
      walk = walk_on before c.loop-node.node-iterator n c.next.new.self c.loop-node.invariant.walk c.in-Some.ensures.steps;
      other = walk_on after c.loop-node.left m c.next-in-loop-node.new.self c.loop-node.invariant.other c.in-Some-next.ensures.steps;
      alike = λ rest.
          c.loop-node.invariant.alike
          (alike_on before after c.loop-node.node-iterator c.loop-node.left c.next.new.self c.next-in-loop-node.new.self n m c.in-Some.ensures.steps c.in-Some-next.ensures.steps (same_clock before after n m serial parent) rest);
    }
