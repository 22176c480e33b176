use Rattle.std.proofs.Common.{◌∙◌, ap, map, Some, []}
use Rattle.smil_model.specs.declared.document.Edge.TheVariants.{End}
use Rattle.smil_instances.specs.SettledTimes.{instances_of}
use Rattle.smil_instances.specs.Idle.{with_items}
use Rattle.smil_instances.specs.Intake.{history_of}
use Rattle.smil_instances.proofs.StartingRows.{end_items, on_ok}
use Rattle.smil_instances.proofs.idle.push_ends.Goals as goal

pub returns-in-Some : goal.returns-in-Some
returns-in-Some c = λ document log e are here q.
    let same = end_items e (Some c.in-Some.items) (q ∙ c.in-Some.is) in
    on_ok c.push_list.result (c.push_list.ensures document log e are (record { here = here; same = same }))
    (λ made. made ∙ ap (λ is. with_items c.args.row.now End (map (instances_of (history_of document log []) e End) is)) same)
