use Rattle.std.proofs.Common.{rules, ℕ, ◌+◌, ◌≡◌, ◌≤◌, List, [], ◌∷◌, ◌++◌, drop, take, reverse, length, refl, sym, ap, subst, ◌∙◌, arith, append_assoc}
use Rattle.std.specs.Prelude.{slice_get, Some}
use Rattle.std.proofs.lemmas.List.{append-nil, drop_all}
use Rattle.smil_model.specs.declared.document.Node.{Node}
use Rattle.smil_model.specs.document.Words.{Begins}
use Rattle.smil_model.proofs.GrowingTexts.{begins_by, begins_itself}
use Rattle.smil_outline.specs.Open.{upwards}
use Rattle.smil_outline.specs.Written.{nodes_text}
use Rattle.smil_outline.proofs.DepthWalk.{IsWalkedTo, begins_more, can_write_at, is_shallow, text_behind, text_ends, text_goes_on, walk_goes_on, walk_starts}
use Rattle.smil_tree.proofs.NodeWalks.{at_place, walk_begun, walk_on, walk_over}
use Rattle.smil_live.proofs.outlines.put_nodes.Goals as goal
use Rattle.smil_live.proofs.outlines.put_nodes.Goals.{In-Some}

one_more : (ns : List Node) (n : Node) → length (ns ++ n ∷ []) ≡ length ns + 1
one_more [] n = refl
one_more (m ∷ ns) n = let e = one_more ns n in omega (arith, e)

-- the node stands at the place of the walk
here : (c : In-Some) → slice_get c.args.tree.now.nodes (length c.loop-node.invariant.walk.past) ≡ Some c.in-Some.node.now
here c = at_place c.args.tree.now.nodes c.loop-node.node-iterator c.in-Some.node.now c.next.new.self c.loop-node.invariant.walk c.in-Some.ensures.steps

pub put_next-requires-clause-can_write : goal.put_next-requires-clause-can_write
put_next-requires-clause-can_write c =
    can_write_at c.args.tree.now (length c.loop-node.invariant.walk.past) c.in-Some.node.now c.requires (here (goal.at.put_next-requires-clause-can_write c).In-Some)

pub put_next-requires-clause-shallow : goal.put_next-requires-clause-shallow
put_next-requires-clause-shallow c =
    is_shallow c.args.tree.now (length c.loop-node.invariant.walk.past) (upwards c.loop-node.branch) c.in-Some.node.now c.requires (here (goal.at.put_next-requires-clause-shallow c).In-Some) c.loop-node.invariant.walked

pub loop-node-init : goal.loop-node-init
loop-node-init c = record {
  walk = walk_begun _ _ (c.into_iter-node-iterator.ensures.into_iter_gives ∙ c.nodes-node-items.ensures);
  walked = subst (IsWalkedTo c.args.tree.now.nodes 0) (sym (ap upwards c.new-branch.ensures)) (walk_starts c.args.tree.now c.requires);
  text = refl;
  begins = begins_itself c.args.out.now;
}

pub loop-node-preserved : goal.loop-node-preserved
loop-node-preserved c =
    let nodes : List Node = c.args.tree.now.nodes in
    let walk = c.loop-node.invariant.walk in
    let node = c.in-Some.node.now in
    let place = length walk.past in
    let opened : List ℕ = upwards c.loop-node.branch in
    let there = here (goal.at.loop-node-preserved c).In-Some in
    let next : place + 1 ≡ length (walk.past ++ node ∷ []) = sym (one_more walk.past node) in
    let new = c.put_next.new.out in
    record {
      walk = walk_on nodes c.loop-node.node-iterator node c.next.new.self walk c.in-Some.ensures.steps;
      walked = subst (λ (k : ℕ). IsWalkedTo nodes k (upwards c.put_next.new.branch)) next (subst (IsWalkedTo nodes (place + 1)) (sym c.in_ok-put_next.ensures.branch) (walk_goes_on nodes place opened node there c.loop-node.invariant.walked));
      text =
          subst (λ (k : ℕ). new ++ text_behind c.args.saved (reverse (take k nodes)) (drop k nodes) ≡ c.args.out.now ++ nodes_text c.args.saved nodes) next
          (text_goes_on c.args.saved nodes place opened node c.loop-node.out new (c.args.out.now ++ nodes_text c.args.saved nodes) there c.loop-node.invariant.walked c.loop-node.invariant.text c.in_ok-put_next.ensures.ok);
      begins = begins_more c.args.out.now c.loop-node.out new _ c.loop-node.invariant.begins (c.in_ok-put_next.ensures.ok ∙ append_assoc c.loop-node.out _ _);
    }

pub returns-in_err-put_next-clause-err : goal.returns-in_err-put_next-clause-err
returns-in_err-put_next-clause-err c =
    let begins : Begins c.args.out.now c.put_next.new.out = begins_by c.args.out.now c.loop-node.out c.put_next.new.out c.loop-node.invariant.begins c.in_err-put_next.ensures.err in
    search rules

pub returns-clause-ok : goal.returns-clause-ok
returns-clause-ok c =
    let nodes : List Node = c.args.tree.now.nodes in
    let walk = c.loop-node.invariant.walk in
    let i = length walk.past in
    let whole = ap (λ (ns : List Node). length ns) (walk_over nodes c.loop-node.node-iterator walk c.in-None.ensures.steps.0) in
    let all : length nodes ≤ i = omega (arith, whole) in
    let front : List Node = reverse (take i nodes) in
    sym (append-nil c.loop-node.out) ∙ ap (λ (text : List ℕ). c.loop-node.out ++ text) (sym (text_ends c.args.saved front))
    ∙ ap (λ (rest : List Node). c.loop-node.out ++ text_behind c.args.saved front rest) (sym (drop_all i nodes all)) ∙ c.loop-node.invariant.text
