use Rattle.std.proofs.Common.{◌≡◌, ◌∙◌, sym, ap, subst, List, Some}
use Rattle.std.specs.Prelude.{slice_get}
use Rattle.std.proofs.lemmas.Result.{on_ok_weaker}
use Rattle.smil_model.specs.declared.diary.LogEntry.{LogEntry}
use Rattle.smil_model.specs.declared.diary.Step.{Step}
use Rattle.smil_rounds.specs.Current.{interval_in}
use Rattle.smil_nodes.specs.Noted.{NotesStep, is_concerned_by_heard}
use Rattle.smil_nodes.proofs.RanksListed.{heard_is, noted_by}
use Rattle.smil_nodes.proofs.concerned.note_step.Goals as goal

pub returns-in-Some : goal.returns-in-Some
returns-in-Some c =
    let graph = c.args.graph.now in
    let log = c.args.past.now.log in
    let entry = c.in-Some.entry.now in
    let here : slice_get log c.in-Logged.place ≡ Some entry =
    ap (λ (l : List LogEntry). slice_get l c.in-Logged.place) (sym c.log.ensures) ∙ sym c.in-Some.ensures in
    on_ok_weaker c.note_heard.result
    (λ noted.
    subst (λ (step : Step). NotesStep graph log (interval_in c.args.schedule.now) step c.args.agenda.now c.note_heard.new.agenda) (sym c.in-Logged.is)
    (noted_by graph.order (is_concerned_by_heard graph.nodes entry.what) _ c.args.agenda.now c.note_heard.new.agenda
    (λ s r at. sym (heard_is graph.nodes log (interval_in c.args.schedule.now) c.in-Logged.place s entry here)) noted))
    c.note_heard.ensures
