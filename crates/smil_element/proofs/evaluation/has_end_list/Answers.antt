use Rattle.std.proofs.Common.{◌∙◌, ap, sym}
use Rattle.smil_past.specs.declared.makeup.Makeup.{Makeup}
use Rattle.smil_past.specs.Syncs.{SyncRow}
use Rattle.smil_element.proofs.EndLists.{is_there, there, there_unless}
use Rattle.smil_element.proofs.evaluation.has_end_list.Goals as goal

pub returns-in-Absent : goal.returns-in-Absent
returns-in-Absent c = λ e at.
    ap is_there (sym c.in-Absent.is ∙ ap (λ (m : Makeup). m.end_list) (c.makeup.ensures ∙ ap (λ (r : SyncRow). r.makeup) (c.requires.row_is e at)))
    ∙ there e.attrs.«end»

pub returns-in_default : goal.returns-in_default
returns-in_default c = λ e at.
    there_unless c.makeup.result.now.end_list c.in_default.not-Absent
    ∙ ap (λ (m : Makeup). is_there m.end_list) (c.makeup.ensures ∙ ap (λ (r : SyncRow). r.makeup) (c.requires.row_is e at))
    ∙ there e.attrs.«end»
