use Rattle.std.proofs.Common.{◌≡◌, ◌∙◌, refl, sym, ap, length, arith}
use Rattle.std.specs.Prelude.{is_some}
use Rattle.std.specs.List.{list_any}
use Rattle.std.proofs.lemmas.List.{length-map, take_all}
use Rattle.smil_model.specs.declared.document.Node.{Node}
use Rattle.smil_model.specs.document.Document.{time_children}
use Rattle.smil_past.specs.Makeups.{freezes}
use Rattle.smil_past.proofs.KeptChildren.{none_more, one_found, time_child}
use Rattle.smil_past.proofs.makeup.any_freezes.Goals as goal

pub freezes-requires : goal.freezes-requires
freezes-requires c =
    ap is_some (time_child c.args.tree.now c.valid.ensures.numbered c.args.who c.loop-child.child-index c.time_children-child-items.result.now c.time_children-child-items.ensures c.loop-child-test.true).known

pub loop-child-init : goal.loop-child-init
loop-child-init c = refl

pub loop-child-preserved : goal.loop-child-preserved
loop-child-preserved c =
    let nodes = c.args.tree.now.nodes in
    let there = time_child c.args.tree.now c.valid.ensures.numbered c.args.who c.loop-child.child-index c.time_children-child-items.result.now c.time_children-child-items.ensures c.loop-child-test.true in
    none_more (freezes nodes) (time_children nodes c.args.who) c.loop-child.child-index there.node there.at c.loop-child.invariant
    (sym (c.freezes.ensures there.node there.known) ∙ c.if-freezes.false)

pub returns-then-freezes : goal.returns-then-freezes
returns-then-freezes c =
    let nodes = c.args.tree.now.nodes in
    let there = time_child c.args.tree.now c.valid.ensures.numbered c.args.who c.loop-child.child-index c.time_children-child-items.result.now c.time_children-child-items.ensures c.loop-child-test.true in
    sym (one_found (freezes nodes) (time_children nodes c.args.who) c.loop-child.child-index there.node there.at (sym (c.freezes.ensures there.node there.known) ∙ c.if-freezes.true))

pub returns : goal.returns
returns c =
    let nodes = c.args.tree.now.nodes in
    let children = time_children nodes c.args.who in
    let many : length c.time_children-child-items.result.now ≡ length children = ap length c.time_children-child-items.ensures ∙ length-map children (λ (n : Node). n.serial) in
    sym (ap (list_any (freezes nodes)) (sym (take_all c.loop-child.child-index children (omega (arith, many, c.loop-child-test.false)))) ∙ c.loop-child.invariant)
