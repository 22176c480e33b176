use Rattle.std.proofs.Common.{◌≡◌, ◌∙◌, sym, ap, subst, ℕ, rules, FitsSigned}
use Rattle.std.specs.Prelude.{Option, map, is_some}
use Rattle.std.specs.Result.{IfOk}
use Rattle.std.proofs.lemmas.Int.{to_z-of_z}
use mir.Syntax.{w64}
use mir.Val.{to_z, of_z}
use Rattle.smil_model.specs.declared.times.Time.{Time}
use Rattle.smil_model.specs.declared.interval.Interval.{Interval}
use Rattle.smil_model.specs.document.Document.{elements, time_children}
use Rattle.smil_model.specs.document.Defaults.{endsync_of}
use Rattle.smil_model.specs.diary.Diary.{History, is_active}
use Rattle.smil_model.specs.diary.Clocks.{iteration_start}
use Rattle.smil_model.specs.interval.Current.{child_end, container_implicit}
use Rattle.smil_model.specs.interval.Durations.{container_duration}
use Rattle.smil_past.specs.declared.plays.facts.PlayFacts.{PlayFacts}
use Rattle.smil_past.proofs.ItemReferences.{stands}
use Rattle.smil_past.specs.Past.{history_of}
use Rattle.smil_past.proofs.KeptActivity.{begun_is}
use Rattle.smil_element.proofs.ChildEnds.{active_container, idle_container}
use Rattle.smil_element.proofs.evaluation.container_duration.Goals as goal

pub returns-then-is_none : goal.returns-then-is_none
returns-then-is_none g c = λ e here.
    let h : History = history_of c.args.subject.now.present.past.now in
    idle_container h (g.J.Intervals.given c.args.intervals.now) e
    (ap (is_active h.diary) (stands (elements h.nodes) c.args.subject.now.present.who e here).serial
    ∙ sym (begun_is h c.args.subject.now.present.past.now.document.next c.possible.ensures.valid.numbered c.args.subject.now.present.who)
    ∙ sym (ap (λ (p : PlayFacts). is_some p.begun) c.requires.found.played_is)
    ∙ c.if-is_none.ensures)

pub returns : goal.returns
returns g c = λ e here.
    let h : History = history_of c.args.subject.now.present.past.now in
    let given : ℕ → Option Interval = g.J.Intervals.given c.args.intervals.now in
    let start = c.args.subject.now.played.now.start in
    let fits : FitsSigned w64 start = search rules in
    let serial : e.serial ≡ c.args.subject.now.present.who = (stands (elements h.nodes) c.args.subject.now.present.who e here).serial in
    let begun : to_z w64 (of_z w64 start) ≡ iteration_start h e.serial =
    to_z-of_z w64 start fits ∙ ap (λ (p : PlayFacts). p.start) c.requires.found.played_is ∙ ap (iteration_start h) (sym serial) in
    let whole : container_duration e.kind (endsync_of e.attrs) (to_z w64 (of_z w64 start)) (map (child_end h given e) (time_children h.nodes c.args.subject.now.present.who)) ≡ container_implicit h given e =
    (λ i. container_duration e.kind (endsync_of e.attrs) (begun i) (map (child_end h given e) (time_children h.nodes (sym serial i))))
    ∙ active_container h given e
    (ap (is_active h.diary) serial
    ∙ sym (begun_is h c.args.subject.now.present.past.now.document.next c.possible.ensures.valid.numbered c.args.subject.now.present.who)
    ∙ sym (ap (λ (p : PlayFacts). is_some p.begun) c.requires.found.played_is)
    ∙ c.if-is_none.ensures) in
    subst (λ (t : Time). IfOk c.implicit.result (λ made. made ≡ t)) whole (c.implicit.ensures e here)
