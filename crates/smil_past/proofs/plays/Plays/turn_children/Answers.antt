use Rattle.std.proofs.Common.{◌≡◌, refl, sym, ◌∙◌, ap, subst, length, get_or, arith}
use Rattle.std.proofs.lemmas.List.{length-map, take_all}
use Rattle.std.proofs.lemmas.Option.{slice_get_within}
use Rattle.smil_model.specs.declared.document.Node.{Node}
use Rattle.smil_model.specs.document.Document.{time_children}
use Rattle.smil_instances.proofs.EmptyRows.{at_place}
use Rattle.smil_past.specs.Rows.{AreAfterParent}
use Rattle.smil_past.proofs.ChildRowsTurned.{turned_more}
use Rattle.smil_past.proofs.plays.Plays.turn_children.Goals as goal

pub loop-child-init : goal.loop-child-init
loop-child-init c = record { same_keys = refl; rows = λ s. refl }

pub loop-child-preserved : goal.loop-child-preserved
loop-child-preserved c =
    let children = time_children c.args.tree.now.nodes c.args.who in
    let serials = c.time_children-child-items.result.now in
    let i = c.loop-child.child-index in
    let here = at_place children serials i c.time_children-child-items.ensures c.loop-child-test.true in
    turned_more children i (get_or serials i 0) c.args.birth c.args.self.now c.loop-child.self c.turn.new.self here.node here.at (sym here.serial)
    (slice_get_within children i here.node here.at) c.loop-child.invariant c.turn.ensures

pub returns : goal.returns
returns c =
    let children = time_children c.args.tree.now.nodes c.args.who in
    let many : length c.time_children-child-items.result.now ≡ length children = ap length c.time_children-child-items.ensures ∙ length-map children (λ (n : Node). n.serial) in
    subst (λ ns. AreAfterParent ns c.args.birth c.args.self.now c.loop-child.self) (take_all c.loop-child.child-index children (omega (arith, many, c.loop-child-test.false))) c.loop-child.invariant
