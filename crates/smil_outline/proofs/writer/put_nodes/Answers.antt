use Rattle.std.proofs.Common.{rules, ℕ, ◌+◌, ◌≡◌, ◌≤◌, List, [], ◌++◌, drop, take, reverse, length, refl, sym, ap, subst, ◌∙◌, arith, append_assoc}
use Rattle.std.proofs.lemmas.List.{append-nil, drop_all}
use Rattle.smil_model.specs.declared.document.Node.{Node}
use Rattle.smil_model.specs.document.Words.{Begins}
use Rattle.smil_outline.specs.Open.{upwards}
use Rattle.smil_outline.proofs.DepthWalk.{IsWalkedTo, text_behind, text_ends, walk_starts, item_at, walk_goes_on, text_goes_on, is_shallow, can_write_at, begins_more}
use Rattle.smil_model.proofs.GrowingTexts.{begins_by, begins_itself}
use Rattle.smil_outline.proofs.writer.put_nodes.Goals as goal

pub put_next-requires-clause-can_write : goal.put_next-requires-clause-can_write
put_next-requires-clause-can_write c =
    let there = item_at c.nodes-node-items.result.now c.args.doc.now.nodes c.loop-node.node-index c.node-item.result c.nodes-node-items.ensures c.loop-node-test.true c.node-item.is in
    can_write_at c.args.doc.now c.loop-node.node-index c.node-item.result c.requires there

pub put_next-requires-clause-shallow : goal.put_next-requires-clause-shallow
put_next-requires-clause-shallow c =
    let there = item_at c.nodes-node-items.result.now c.args.doc.now.nodes c.loop-node.node-index c.node-item.result c.nodes-node-items.ensures c.loop-node-test.true c.node-item.is in
    is_shallow c.args.doc.now c.loop-node.node-index (upwards c.loop-node.branch) c.node-item.result c.requires there c.loop-node.invariant.walked

pub loop-node-init : goal.loop-node-init
loop-node-init c = record {
  walked = subst (IsWalkedTo c.args.doc.now.nodes 0) (sym (ap upwards c.new-branch.ensures)) (walk_starts c.args.doc.now c.requires);
  text = refl;
  begins = begins_itself c.args.out.now;
}

pub loop-node-preserved : goal.loop-node-preserved
loop-node-preserved c =
    let nodes : List Node = c.args.doc.now.nodes in
    let i = c.loop-node.node-index in
    let node = c.node-item.result in
    let opened : List ℕ = upwards c.loop-node.branch in
    let there = item_at c.nodes-node-items.result.now nodes i node c.nodes-node-items.ensures c.loop-node-test.true c.node-item.is in
    record {
      walked = subst (IsWalkedTo nodes (i + 1)) (sym c.in_ok-put_next.ensures.branch) (walk_goes_on nodes i opened node there c.loop-node.invariant.walked);
      text = text_goes_on c.args.saved nodes i opened node c.loop-node.out c.put_next.new.out _ there c.loop-node.invariant.walked c.loop-node.invariant.text c.in_ok-put_next.ensures.ok;
      begins = begins_more c.args.out.now c.loop-node.out c.put_next.new.out _ c.loop-node.invariant.begins (c.in_ok-put_next.ensures.ok ∙ append_assoc c.loop-node.out _ _);
    }

pub returns-in_err-put_next-clause-err : goal.returns-in_err-put_next-clause-err
returns-in_err-put_next-clause-err c =
    let begins : Begins c.args.out.now c.put_next.new.out = begins_by c.args.out.now c.loop-node.out c.put_next.new.out c.loop-node.invariant.begins c.in_err-put_next.ensures.err in
    search rules

pub returns-clause-ok : goal.returns-clause-ok
returns-clause-ok c =
    let i = c.loop-node.node-index in
    let all : length c.args.doc.now.nodes ≤ i = subst (λ (ns : List Node). length ns ≤ i) c.nodes-node-items.ensures (omega arith) in
    let none : drop i c.args.doc.now.nodes ≡ [] = drop_all i c.args.doc.now.nodes all in
    let front : List Node = reverse (take i c.args.doc.now.nodes) in
    sym (append-nil c.loop-node.out) ∙ ap (λ (text : List ℕ). c.loop-node.out ++ text) (sym (text_ends c.args.saved front)) ∙ ap (λ (rest : List Node). c.loop-node.out ++ text_behind c.args.saved front rest) (sym none) ∙ c.loop-node.invariant.text
