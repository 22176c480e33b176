use Rattle.std.proofs.Common.{refl, sym, ◌∙◌, ap, ◌++◌, append-nil}
use Rattle.std.specs.Prelude.{is_some}
use Rattle.smil_report.proofs.Growing.{begins_by, begins_same}
use Rattle.smil_tree.proofs.NodeWalks.{is_found, walk_begun, walk_on, walk_over}
use Rattle.smil_shown.specs.Told.{told_gone}
use Rattle.smil_shown.proofs.LinesTold.{gone_more}
use Rattle.smil_shown.proofs.lines.put_all_gone.Goals as goal

pub put_where_gone-requires : goal.put_where_gone-requires
put_where_gone-requires g c = ap is_some (is_found c.args.scene.tree.now.nodes c.loop-node.node-iterator c.in-Some.node.now c.next.new.self c.loop-node.invariant.walk c.in-Some.ensures.steps c.valid.ensures.numbered.distinct)

pub loop-node-init : goal.loop-node-init
loop-node-init g c = record {
  walk = walk_begun _ _ (c.into_iter-node-iterator.ensures.into_iter_gives ∙ c.nodes-node-items.ensures);
  told = sym (append-nil c.args.out.now);
  begins = begins_same c.args.out.now c.args.out.now refl;
}

pub loop-node-preserved : goal.loop-node-preserved
loop-node-preserved g c =
    let nodes = c.args.scene.tree.now.nodes in
    let walk = c.loop-node.invariant.walk in
    let node = c.in-Some.node.now in
    let there = is_found nodes c.loop-node.node-iterator node c.next.new.self walk c.in-Some.ensures.steps c.valid.ensures.numbered.distinct in
    record {
      walk = walk_on nodes c.loop-node.node-iterator node c.next.new.self walk c.in-Some.ensures.steps;
      told = gone_more g.I.ChangeItem.telling c.args.after.now.nodes c.args.scene.moment walk.past node c.args.out.now c.loop-node.out _ c.loop-node.invariant.told (c.in_ok-put_where_gone.ensures.ok node there);
      begins = begins_by c.args.out.now c.loop-node.out _ c.loop-node.invariant.begins c.in_ok-put_where_gone.ensures.begins;
    }

pub returns-clause-ok : goal.returns-clause-ok
returns-clause-ok g c =
    c.loop-node.invariant.told
    ∙ ap (λ ns. c.args.out.now ++ told_gone g.I.ChangeItem.telling c.args.after.now.nodes c.args.scene.moment ns) (walk_over c.args.scene.tree.now.nodes c.loop-node.node-iterator c.loop-node.invariant.walk c.in-None.ensures.steps.0)
