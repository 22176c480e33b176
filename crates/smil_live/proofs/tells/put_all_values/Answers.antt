use Rattle.std.proofs.Common.{refl, sym, ◌∙◌, ap, ◌++◌, append-nil}
use Rattle.std.specs.Prelude.{flat_map, is_some}
use Rattle.std.proofs.lemmas.List.{flat_map_more}
use Rattle.smil_model.specs.shown.Answers.{values_on}
use Rattle.smil_model.proofs.GrowingTexts.{begins_by}
use Rattle.smil_tree.proofs.NodeWalks.{is_found, walk_begun, walk_on, walk_over}
use Rattle.smil_shown.proofs.LineTexts.{begins_same}
use Rattle.smil_live.proofs.tells.put_all_values.Goals as goal

pub put_values_on-requires-clause-target : goal.put_values_on-requires-clause-target
put_values_on-requires-clause-target c = ap is_some (is_found c.args.document.tree.now.nodes c.loop-node.node-iterator c.in-Some.node.now c.next.new.self c.loop-node.invariant.walk c.in-Some.ensures.steps c.valid.ensures.numbered.distinct)

pub loop-node-init : goal.loop-node-init
loop-node-init c = record {
  walk = walk_begun _ _ (c.into_iter-node-iterator.ensures.into_iter_gives ∙ c.nodes-node-items.ensures);
  text = λ all are. sym (append-nil c.args.out.now);
  begins = begins_same c.args.out.now c.args.out.now refl;
}

pub loop-node-preserved : goal.loop-node-preserved
loop-node-preserved c =
    let nodes = c.args.document.tree.now.nodes in
    let walk = c.loop-node.invariant.walk in
    let node = c.in-Some.node.now in
    record {
      walk = walk_on nodes c.loop-node.node-iterator node c.next.new.self walk c.in-Some.ensures.steps;
      text = λ all are.
          c.in_ok-put_values_on.ensures.told node all refl are
          ∙ ap (λ t. t ++ values_on nodes all node) (c.loop-node.invariant.text all are)
          ∙ flat_map_more (values_on nodes all) c.args.out.now walk.past node;
      begins = begins_by c.args.out.now c.loop-node.out c.put_values_on.new.out c.loop-node.invariant.begins c.put_values_on.ensures.begins;
    }

pub returns-clause-told : goal.returns-clause-told
returns-clause-told c = λ all are.
    let nodes = c.args.document.tree.now.nodes in
    c.loop-node.invariant.text all are
    ∙ ap (λ ns. c.args.out.now ++ flat_map (values_on nodes all) ns) (walk_over nodes c.loop-node.node-iterator c.loop-node.invariant.walk c.in-None.ensures.steps.0)
