use Rattle.std.proofs.Common.{◌∙◌, ap, map, []}
use Rattle.smil_model.specs.declared.document.Edge.TheVariants.{Begin}
use Rattle.smil_instances.specs.SettledTimes.{instances_of}
use Rattle.smil_instances.specs.Idle.{with_items}
use Rattle.smil_instances.specs.Intake.{history_of}
use Rattle.smil_instances.proofs.StartingRows.{begin_items, on_ok}
use Rattle.smil_instances.proofs.idle.push_begins.Goals as goal

pub returns-in-Some : goal.returns-in-Some
returns-in-Some c = λ document log e are here q.
    let same = begin_items document.nodes e c.in-Some.items (q ∙ c.in-Some.is) in
    on_ok c.push_list.result (c.push_list.ensures document log e are (record { here = here; same = same }))
    (λ made. made ∙ ap (λ is. with_items c.args.row.now Begin (map (instances_of (history_of document log []) e Begin) is)) same)

pub returns-in-None : goal.returns-in-None
returns-in-None c = λ document log e are here q. c.push_default.ensures document log e are here (q ∙ c.in-None.is)
