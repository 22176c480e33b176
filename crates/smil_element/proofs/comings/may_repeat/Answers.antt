use Rattle.std.proofs.Common.{◌∙◌, ap}
use Rattle.std.specs.Prelude.{◌||◌, is_some}
use Rattle.smil_model.specs.diary.Clocks.{stands}
use Rattle.smil_past.specs.declared.makeup.Makeup.{Makeup}
use Rattle.smil_past.specs.Past.{history_of}
use Rattle.smil_past.specs.Syncs.{SyncRow}
use Rattle.smil_element.proofs.ComingKeys.{and_told, and_not}
use Rattle.smil_element.proofs.comings.may_repeat.Goals as goal

pub returns-then-repeats : goal.returns-then-repeats
returns-then-repeats c = λ e at.
    and_told (is_some e.attrs.repeat_count || is_some e.attrs.repeat_dur) (stands (history_of c.args.subject.now.present.past.now) c.args.subject.now.present.who) c.repeats.result c.args.subject.now.clocks.own_stands
    (c.repeats.ensures ∙ ap (λ (m : Makeup). is_some m.bounds.count || is_some m.bounds.repeat_dur) (c.makeup.ensures ∙ ap (λ (r : SyncRow). r.makeup) (c.requires.row_is e at)))
    c.requires.own_stands_is c.if-repeats.true

pub returns-else-repeats : goal.returns-else-repeats
returns-else-repeats c = λ e at.
    and_not (is_some e.attrs.repeat_count || is_some e.attrs.repeat_dur) (stands (history_of c.args.subject.now.present.past.now) c.args.subject.now.present.who) c.repeats.result
    (c.repeats.ensures ∙ ap (λ (m : Makeup). is_some m.bounds.count || is_some m.bounds.repeat_dur) (c.makeup.ensures ∙ ap (λ (r : SyncRow). r.makeup) (c.requires.row_is e at))) c.if-repeats.false
