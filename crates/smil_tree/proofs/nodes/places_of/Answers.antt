use Rattle.std.proofs.Common.{sym, ap, ◌∙◌, Some, cond}
use Rattle.std.specs.Prelude.{◌==◌}
use Rattle.std.proofs.lemmas.Option.{slice_get-get_or}
use Rattle.smil_tree.proofs.TreeMade.{place-more_at}
use Rattle.smil_tree.proofs.nodes.places_of.Goals as goal

pub loop-place-preserved : goal.loop-place-preserved
loop-place-preserved c =
    let nodes = c.args.nodes.now in
    let k = c.loop-place.place in
    let node = c.node.result.now in
    let at = slice_get-get_or nodes k c.index-nodes-place.result c.loop-place-test.true ∙ ap Some (sym c.index-nodes-place.is ∙ sym c.node.ensures) in
    λ s. c.in_ok-put.ensures.ok s ∙ ap (λ o. cond (node.serial == s) (Some k) o) (c.loop-place.invariant s) ∙ sym (place-more_at nodes k node s c.requires at)
