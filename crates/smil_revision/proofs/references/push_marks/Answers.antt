use Rattle.std.proofs.Common.{◌≡◌, ◌++◌, ◌∷◌, [], sym, ◌∙◌, ap, length, Bool, Some, arith}
use Rattle.smil_model.specs.declared.document.Node.{Node}
use Rattle.smil_model.specs.document.Defaults.{items_of}
use Rattle.smil_revision.proofs.AgreedMarks.{one_more}
use Rattle.smil_revision.proofs.references.push_marks.Goals as goal

only : (n e : Node) → Some n ≡ Some e → n ≡ e
only n e q = cc

pub loop-item-preserved : goal.loop-item-preserved
loop-item-preserved c = λ e is.
    let nodes = c.args.side.graph.now.nodes in
    let below = c.loop-item-test.true in
    let same : c.requires.counted.0 ≡ e = only c.requires.counted.0 e (sym c.requires.counted.1 ∙ is) in
    let count : c.args.side.count ≡ length (items_of nodes c.args.side.edge e) = c.requires.counted.2 ∙ ap (λ (n : Node). length (items_of nodes c.args.side.edge n)) same in
    c.in_ok-push.ensures.items
    ∙ (ap (λ (m : Bool). c.loop-item.marks.items ++ m ∷ []) c.looped.ensures
    ∙ one_more nodes c.args.side.serial c.loop-item.item c.args.side.edge e c.loop-item.marks.items c.args.marks.now.items is (omega (arith, below, count)) (c.loop-item.invariant e is))
