use Rattle.std.proofs.Common.{◌≡◌, ◌∙◌, ap, sym, subst, ℤ, Option}
use Rattle.std.proofs.lemmas.Int.{ints}
use Rattle.std.specs.Prelude.{◌&&◌, ◌||◌, is_some}
use Rattle.std.proofs.Common.{arith}
use Rattle.std.specs.Option.{ForSome}
use Rattle.smil_model.specs.Times.{IsCarried}
use mir.Syntax.{w64}
use mir.Val.{to_z, of_z}
use Rattle.smil_model.specs.document.Document.{time_parent}
use Rattle.smil_model.specs.diary.Diary.{lives_under}
use Rattle.smil_model.specs.shown.Views.{is_displaced}
use Rattle.smil_past.specs.declared.plays.facts.PlayFacts.{PlayFacts}
use Rattle.smil_instances.proofs.SensitiveItems.{serial_is}
use Rattle.smil_past.specs.Past.{history_of}
use Rattle.smil_past.proofs.KeptActivity.{begun_is}
use Rattle.smil_element.specs.Shown.{minds}
use Rattle.smil_past.specs.declared.makeup.Makeup.{Makeup}
use Rattle.smil_past.specs.Syncs.{SyncRow}
use Rattle.smil_element.proofs.ViewByFacts.{view_told, last_told, cut_told, interval_within}
use Rattle.smil_element.proofs.PlaysNear.{begun_within, last_within, deferred_within}
use Rattle.smil_element.proofs.view.view_facts.Goals as goal
use Rattle.smil_element.proofs.view.view_facts.Goals.{then-minds, else-minds, then-subject, else-subject}

pub returns-clause-same : goal.returns-clause-same
returns-clause-same c = λ e at.
    let past = c.args.subject.now.present.past.now in
    let who = c.args.subject.now.present.who in
    let h = history_of past in
    let last = ap (λ (r : PlayFacts). r.last_finished) c.requires.found.played_is in
    let shift_is : to_z w64 (of_z w64 c.document_shift.result) ≡ c.document_shift.result = omega (arith, ints) in
    let displaced_is : c.if-minds.result ≡ (minds c.makeup.result.now.fill c.last_shown-last.result && is_displaced h who) =
    elim c.if-minds.branch [
      | then-minds w ↦
          w.result-is ∙ w.is_displaced.ensures
          ∙ ap (λ b. b && is_displaced h who) (sym w.if-minds.true ∙ c.minds.ensures)
      | else-minds w ↦
          w.result-is ∙ w.if-minds.false
          ∙ ap (λ b. b && is_displaced h who) (sym w.if-minds.false ∙ c.minds.ensures)
    ] in
    let shows_is : c.if-subject.result ≡ (lives_under (time_parent past.document.nodes who) past.diary || c.args.above) =
    elim c.if-subject.branch [
      | then-subject w ↦ w.result-is ∙ w.if-subject.true ∙ ap (λ b. b || c.args.above) (sym w.if-subject.true ∙ c.requires.found.alive_is)
      | else-subject w ↦ w.result-is ∙ ap (λ b. b || c.args.above) (sym w.if-subject.false ∙ c.requires.found.alive_is)
    ] in
    view_told h who c.args.subject.now.present.moment c.args.interval (lives_under (time_parent past.document.nodes who) past.diary || c.args.above) c.args.above e (serial_is past.document.nodes who e at)
    c.is_some.result c.args.subject.now.played.now.paused c.was_cut.result c.if-minds.result c.args.subject.now.clocks.outer_stands c.args.subject.now.played.now.shown_deferred c.args.subject.now.played.now.shown_begun
    c.last_shown-last.result c.makeup.result.now.fill c.if-subject.result (to_z w64 (of_z w64 c.document_shift.result)) c.args.subject.now.played.now.iteration c.args.subject.now.played.now.finished
    (c.is_some.ensures ∙ ap (λ (r : PlayFacts). is_some r.begun) c.requires.found.played_is ∙ begun_is h past.document.next c.possible.ensures.valid.numbered who)
    (ap (λ (r : PlayFacts). r.paused) c.requires.found.played_is)
    (ap (λ (r : PlayFacts). r.shown_deferred) c.requires.found.played_is)
    (ap (λ (r : PlayFacts). r.shown_begun) c.requires.found.played_is)
    (c.last_shown-last.ensures ∙ last_told h who c.args.subject.now.played.now.last_finished last)
    (c.was_cut.ensures ∙ cut_told h who c.args.subject.now.played.now.last_finished last)
    (ap (λ (m : Makeup). m.fill) (c.makeup.ensures ∙ ap (λ (r : SyncRow). r.makeup) (c.requires.found.row_is e at)))
    displaced_is
    shows_is
    c.requires.found.outer_stands_is
    (shift_is ∙ c.document_shift.ensures.value)
    (ap (λ (r : PlayFacts). r.iteration) c.requires.found.played_is)
    (ap (λ (r : PlayFacts). r.finished) c.requires.found.played_is)

pub returns-clause-near : goal.returns-clause-near
returns-clause-near c =
    let past = c.args.subject.now.present.past.now in
    let who = c.args.subject.now.present.who in
    let h = history_of past in
    let lawful = c.possible.ensures.lawful in
    let near = c.possible.ensures.near in
    let last = c.last_shown-last.ensures ∙ last_told h who c.args.subject.now.played.now.last_finished (ap (λ (r : PlayFacts). r.last_finished) c.requires.found.played_is) in
    let shift_is : to_z w64 (of_z w64 c.document_shift.result) ≡ c.document_shift.result = omega (arith, ints) in
    record {
      deferred = subst (λ (o : Option ℤ). ForSome o IsCarried) (sym (ap (λ (r : PlayFacts). r.shown_deferred) c.requires.found.played_is)) (deferred_within h who lawful near);
      interval = interval_within c.args.interval c.requires.near;
      begun = subst (λ (o : Option ℤ). ForSome o IsCarried) (sym (ap (λ (r : PlayFacts). r.shown_begun) c.requires.found.played_is)) (begun_within h who lawful near);
      last = subst (λ (o : Option (ℤ × ℤ)). ForSome o (λ (last : ℤ × ℤ). IsCarried last.0 × IsCarried last.1)) (sym last) (last_within h who lawful near);
      shift = subst IsCarried (sym shift_is) c.document_shift.ensures.within;
    }
