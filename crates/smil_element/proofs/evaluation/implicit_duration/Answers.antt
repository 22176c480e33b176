use Rattle.std.proofs.Common.{◌≡◌, ◌∙◌, sym, ap, subst, ℕ, Option}
use Rattle.std.specs.Result.{IfOk}
use Rattle.smil_model.specs.declared.interval.Interval.{Interval}
use Rattle.smil_model.specs.declared.times.Time.{Time}
use Rattle.smil_model.specs.diary.Diary.{History}
use Rattle.smil_model.specs.interval.Current.{implicit_of}
use Rattle.smil_past.specs.declared.makeup.Makeup.{Makeup}
use Rattle.smil_past.specs.Past.{history_of}
use Rattle.smil_past.specs.Syncs.{SyncRow}
use Rattle.smil_element.proofs.ChildEnds.{container_told}
use Rattle.smil_element.proofs.evaluation.implicit_duration.Goals as goal

pub returns-then-is_container : goal.returns-then-is_container
returns-then-is_container g c = λ e here.
    let h : History = history_of c.args.subject.now.present.past.now in
    let given : ℕ → Option Interval = g.J.Intervals.given c.args.intervals.now in
    subst (λ (t : Time). IfOk c.container_duration.result (λ implicit. implicit ≡ t))
    (container_told h given e c.makeup.result.now.kind (ap (λ (m : Makeup). m.kind) (c.makeup.ensures ∙ ap (λ (r : SyncRow). r.makeup) (c.requires.found.row_is e here))) (sym c.is_container.ensures ∙ c.if-is_container.true))
    (c.container_duration.ensures e here)

pub returns-else-is_container : goal.returns-else-is_container
returns-else-is_container g c = λ e here.
    let h : History = history_of c.args.subject.now.present.past.now in
    let given : ℕ → Option Interval = g.J.Intervals.given c.args.intervals.now in
    c.media_duration.ensures e here given (sym c.is_container.ensures ∙ c.if-is_container.false)
    ∙ ap (implicit_of h given e) (ap (λ (m : Makeup). m.kind) (c.makeup.ensures ∙ ap (λ (r : SyncRow). r.makeup) (c.requires.found.row_is e here)))
