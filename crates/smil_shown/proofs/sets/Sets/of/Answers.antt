use Rattle.std.proofs.Common.{sym, subst, ℕ, List, take, IsSome, arith}
use Rattle.smil_model.specs.declared.view.Layer.{Layer as AnyLayer}
use Rattle.smil_model.specs.declared.view.View.{View}
use Rattle.smil_model.specs.document.Document.{node_at}
use Rattle.smil_model.specs.shown.Sandwich.{layers}
use Rattle.smil_tree.proofs.KinLists.{each_at}
use Rattle.smil_shown.specs.Sets.{AreSetsOf}
use Rattle.smil_shown.proofs.LayersApart.{views_known}
use Rattle.smil_shown.proofs.SetLayers.{layers_more, next_apart}
use Rattle.smil_shown.proofs.sets.Sets.of.Goals as goal

pub take_in-requires : goal.take_in-requires
take_in-requires c =
    let nodes = c.args.tree.now.nodes in
    each_at (λ (v : View). IsSome (node_at nodes v.serial)) c.args.views.now c.loop-view.view-index _ (views_known nodes c.args.views.now c.requires) (omega arith)

pub loop-view-preserved : goal.loop-view-preserved
loop-view-preserved c =
    let nodes = c.args.tree.now.nodes in
    let vs = c.args.views.now in
    let i = c.loop-view.view-index in
    let P : List (ℕ × AnyLayer) → Type 0 = λ ls. AreSetsOf c.take_in.new.self ls in
    subst P (sym (layers_more nodes vs i _ (omega arith)))
    (c.in_ok-take_in.ensures (layers nodes (take i vs)) c.loop-view.invariant (next_apart nodes vs i _ c.valid.ensures.numbered.distinct c.requires (omega arith)))
