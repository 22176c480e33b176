use Rattle.std.proofs.Common.{◌≡◌, ◌∙◌, ap, arith}
use Rattle.std.specs.Prelude.{is_some}
use Rattle.std.proofs.lemmas.Int.{ints}
use mir.Syntax.{w64}
use mir.Val.{to_z, of_z}
use Rattle.smil_model.specs.diary.Clocks.{parent_start}
use Rattle.smil_past.specs.declared.makeup.Makeup.{Makeup}
use Rattle.smil_past.specs.declared.plays.facts.PlayFacts.{PlayFacts}
use Rattle.smil_instances.proofs.SensitiveItems.{serial_is}
use Rattle.smil_past.specs.Past.{history_of}
use Rattle.smil_past.proofs.KeptActivity.{deferred_is}
use Rattle.smil_past.specs.Syncs.{SyncRow}
use Rattle.smil_element.proofs.FactsByParts.{facts_are, last_is}
use Rattle.smil_element.proofs.facts.facts_of.Goals as goal

pub returns : goal.returns
returns c = λ e intervals at simple.
    let past = c.args.subject.now.present.past.now in
    let who = c.args.subject.now.present.who in
    let h = history_of past in
    let makeup = c.makeup-makeup.ensures ∙ ap (λ (r : SyncRow). r.makeup) (c.requires.row_is e at) in
    let start_is : to_z w64 (of_z w64 c.args.subject.now.parent_start) ≡ parent_start h who = omega (arith, ints, c.requires.start_is) in
    facts_are h who c.args.subject.now.present.moment e (serial_is past.document.nodes who e at) intervals _ _ _ _ _ _ _ _ _ _ _ _ _
    c.requires.alive_is
    (c.is_some.ensures ∙ ap (λ (r : PlayFacts). is_some r.shown_deferred) c.requires.played_is ∙ deferred_is h who)
    (c.present_play.ensures e at)
    start_is
    (c.last_interval.ensures ∙ last_is h who c.args.subject.now.played.now.last_finished (ap (λ (r : PlayFacts). r.last_finished) c.requires.played_is))
    (ap (λ (r : PlayFacts). r.passed) c.requires.played_is)
    (ap (λ (m : Makeup). m.end_list) makeup)
    (ap (λ (m : Makeup). m.restart) makeup)
    (ap (λ (m : Makeup). m.bounds.min) makeup)
    (ap (λ (m : Makeup). m.bounds.max) makeup)
    simple
    (ap (λ (m : Makeup). m.bounds.count) makeup)
    (ap (λ (m : Makeup). m.bounds.repeat_dur) makeup)
