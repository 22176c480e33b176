use Rattle.std.proofs.Common.{◌∙◌, ap}
use Rattle.smil_model.specs.declared.document.Edge.TheVariants.{Begin}
use Rattle.smil_instances.specs.Idle.{with_items}
use Rattle.smil_instances.proofs.StartingRows.{default_kept, on_ok}
use Rattle.smil_instances.proofs.idle.push_default.Goals as goal

pub returns : goal.returns
returns c = λ document log e are here none.
    on_ok c.push_item.result c.push_item.ensures (λ q.
    q
    ∙ ap (with_items c.args.row.now Begin)
    (default_kept document log e c.args.sources.now.dependents.now c.args.sources.now.place are here none c.source-source.result c.time_from_start.result c.source-source.ensures (c.time_from_start.ensures.kept document log e Begin) c.time_from_start.ensures.nothing))
