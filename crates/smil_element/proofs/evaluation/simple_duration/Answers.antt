use Rattle.std.proofs.Common.{◌≡◌, ◌∙◌, sym, ap, subst, ℕ}
use Rattle.std.specs.Prelude.{Option}
use Rattle.std.specs.Result.{IfOk}
use Rattle.smil_model.specs.declared.interval.Interval.{Interval}
use Rattle.smil_model.specs.declared.times.Time.{Time}
use Rattle.smil_model.specs.diary.Diary.{History}
use Rattle.smil_model.specs.interval.Current.{implicit_duration}
use Rattle.smil_instances.proofs.IdTargets.{element_of}
use Rattle.smil_past.specs.declared.makeup.Makeup.{Makeup}
use Rattle.smil_past.specs.Past.{history_of}
use Rattle.smil_past.specs.Syncs.{SyncRow}
use Rattle.smil_past.proofs.ElementMakeup.{simple_implicit, simple_stated, takes}
use Rattle.smil_element.proofs.evaluation.simple_duration.Goals as goal

pub implicit_duration-requires-clause-known : goal.implicit_duration-requires-clause-known
implicit_duration-requires-clause-known g c =
    let found = element_of c.args.subject.now.present.past.now.document.nodes c.args.subject.now.present.who c.requires.found.element in
    c.requires.known found.0 found.1
    (takes found.0 (sym c.in-None.is ∙ ap (λ (m : Makeup). m.simple) (c.makeup.ensures ∙ ap (λ (r : SyncRow). r.makeup) (c.requires.found.row_is found.0 found.1))))

pub returns-in-Some : goal.returns-in-Some
returns-in-Some g c = λ e here.
    let h : History = history_of c.args.subject.now.present.past.now in
    let given : ℕ → Option Interval = g.J.Intervals.given c.args.intervals.now in
    simple_stated e (implicit_duration h given e) c.in-Some.simple
    (sym c.in-Some.is ∙ ap (λ (m : Makeup). m.simple) (c.makeup.ensures ∙ ap (λ (r : SyncRow). r.makeup) (c.requires.found.row_is e here)))

pub returns-in-None : goal.returns-in-None
returns-in-None g c = λ e here.
    let h : History = history_of c.args.subject.now.present.past.now in
    let given : ℕ → Option Interval = g.J.Intervals.given c.args.intervals.now in
    subst (λ (t : Time). IfOk c.implicit_duration.result (λ simple. simple ≡ t))
    (simple_implicit e (implicit_duration h given e) (sym c.in-None.is ∙ ap (λ (m : Makeup). m.simple) (c.makeup.ensures ∙ ap (λ (r : SyncRow). r.makeup) (c.requires.found.row_is e here))))
    (c.implicit_duration.ensures e here)
