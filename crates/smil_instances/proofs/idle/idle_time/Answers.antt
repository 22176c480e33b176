use Rattle.std.proofs.Common.{◌∙◌, ap, sym, rules, [], w64}
use Rattle.std.proofs.lemmas.Int.{to_z-of_z}
use mir.Val.{SFits}
use Rattle.smil_model.specs.declared.document.Item.TheVariants.{Offset}
use Rattle.smil_instances.specs.SettledTimes.{instances_of}
use Rattle.smil_instances.specs.Sources.{source_of}
use Rattle.smil_instances.specs.Intake.{history_of}
use Rattle.smil_instances.proofs.idle.idle_time.Goals as goal

pub returns-in-Offset-default : goal.returns-in-Offset-default
returns-in-Offset-default c = λ document log e q.
    let offset = c.in-Offset-default.offset in
    let fits : SFits w64 offset = search rules in
    let same = c.in-Offset-default.is-0 ∙ ap Offset (sym (to_z-of_z w64 offset fits)) in
    ap (instances_of (history_of document log []) e c.args.side) same
    ∙ c.time_from_start.ensures.kept document log e c.args.side (q ∙ ap (source_of document.nodes e.serial) same)
