use Rattle.std.proofs.Common.{Some, arith, sym, ap, subst, ◌∙◌}
use Rattle.std.specs.Prelude.{IsSome}
use Rattle.std.specs.FinMap.{get as place_of}
use Rattle.std.proofs.lemmas.Option.{slice_get-get_or}
use Rattle.smil_model.specs.declared.document.Node.{Node}
use Rattle.smil_tree.proofs.ResultClauses.{of_ok}
use Rattle.smil_tree.proofs.Counted.{counted_all, counted_has, counted_more}
use Rattle.smil_tree.proofs.nodes.count_from.Goals as goal

pub loop-place-preserved : goal.loop-place-preserved
loop-place-preserved c =
    let places = c.loop-place.places in
    counted_more c.args.nodes.now places c.put.new.self c.loop-place.place c.node.result.now c.requires.apart c.loop-place.invariant
    (slice_get-get_or c.args.nodes.now c.loop-place.place c.index-nodes-place.result c.loop-place-test.true ∙ ap Some (sym c.index-nodes-place.is ∙ sym c.node.ensures))
    (of_ok c.put.result c.put.ensures.ok (c.put.ensures.known (omega (arith, c.requires.few, c.loop-place-test.true))
    (subst (λ (n : Node). IsSome (place_of places n.serial)) (sym c.index-nodes-place.is ∙ sym c.node.ensures) (counted_has c.args.nodes.now places c.loop-place.place c.index-nodes-place.result c.loop-place.invariant c.loop-place-test.true))))

pub returns : goal.returns
returns c = counted_all c.args.nodes.now c.loop-place.places c.loop-place.place c.loop-place.invariant (omega (arith, c.loop-place-test.false))
