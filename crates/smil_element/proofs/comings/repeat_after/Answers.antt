use Rattle.std.proofs.Common.{◌≡◌, ◌∙◌, sym, ap, arith, []}
use Rattle.std.proofs.lemmas.Int.{ints}
use mir.Syntax.{w64}
use mir.Val.{to_z, of_z}
use Rattle.smil_model.specs.diary.Clocks.{run}
use Rattle.smil_instances.proofs.SensitiveItems.{serial_is}
use Rattle.smil_past.specs.declared.makeup.Makeup.{Makeup}
use Rattle.smil_past.specs.Past.{history_of}
use Rattle.smil_past.specs.Syncs.{SyncRow}
use Rattle.smil_model.specs.Times.{IsNear, later_time}
use Rattle.smil_model.specs.diary.Clocks.{iteration_start}
use Rattle.smil_model.specs.happening.Keys.{coming_repeat_at}
use Rattle.std.proofs.Common.{subst}
use Rattle.std.specs.Prelude.{◌+ℤ◌, ◌-ℤ◌}
use Rattle.smil_laws.specs.Near.{IsTimeNear}
use Rattle.smil_laws.proofs.NearIntervals.{later_near}
use Rattle.smil_element.specs.Element.{and_coming}
use Rattle.smil_element.proofs.ComingKeys.{no_number, stops, follows}
use Rattle.smil_element.proofs.comings.repeat_after.Goals as goal

pub returns-in_default-clause-repeat : goal.returns-in_default-clause-repeat
returns-in_default-clause-repeat c = λ place e at.
    let h = history_of c.args.subject.now.present.past.now in
    let start_is : to_z w64 (of_z w64 c.last_play-play.result.start) ≡ iteration_start h c.args.subject.now.present.who = omega (arith, ints, c.last_play-play.ensures.start) in
    ap (λ o. and_coming o []) (c.no_repeat.ensures.none place c.args.subject.now.present.who)
    ∙ no_number h c.args.subject.now.present.moment place e c.args.simple c.later.result c.in_default.not-At
    ∙ ap (coming_repeat_at h c.args.subject.now.present.moment place e c.args.simple) (c.later.ensures ∙ ap (later_time c.args.simple) start_is)

pub returns-then-not-goes_on-clause-repeat : goal.returns-then-not-goes_on-clause-repeat
returns-then-not-goes_on-clause-repeat c = λ place e at.
    let h = history_of c.args.subject.now.present.past.now in
    let over_is : to_z w64 (of_z w64 c.in-At.over) ≡ c.in-At.over = omega (arith, ints) in
    let start_is : to_z w64 (of_z w64 c.last_play-play.result.start) ≡ iteration_start h c.args.subject.now.present.who = omega (arith, ints, c.last_play-play.ensures.start) in
    ap (λ o. and_coming o []) (c.no_repeat-then-not-goes_on.ensures.none place c.args.subject.now.present.who)
    ∙ stops h c.args.subject.now.present.who e (serial_is c.args.subject.now.present.past.now.document.nodes c.args.subject.now.present.who e at) c.args.simple c.makeup.result.now.bounds c.last_play-play.result (ap (λ (m : Makeup). m.bounds) (c.makeup.ensures ∙ ap (λ (r : SyncRow). r.makeup) (c.requires.row_is e at)))
    c.last_play-play.ensures.first c.last_play-play.ensures.start c.last_play-play.ensures.iteration
    c.args.subject.now.present.moment place c.later.result c.goes_on.result (to_z w64 (of_z w64 c.in-At.over)) c.in-At.over c.in-At.is over_is c.goes_on.ensures c.if-not-goes_on.true
    ∙ ap (coming_repeat_at h c.args.subject.now.present.moment place e c.args.simple) (c.later.ensures ∙ ap (later_time c.args.simple) start_is)

pub moment_of-requires-clause-near : goal.moment_of-requires-clause-near
moment_of-requires-clause-near c =
    let over_is : to_z w64 (of_z w64 c.in-At.over) ≡ c.in-At.over = omega (arith, ints) in
    let near : IsNear c.in-At.over = subst IsTimeNear (sym c.later.ensures ∙ c.in-At.is) (later_near c.args.simple (to_z w64 (of_z w64 c.last_play-play.result.start))) in
    subst IsNear (sym over_is) near

pub returns-clause-repeat : goal.returns-clause-repeat
returns-clause-repeat c = λ place e at.
    let past = c.args.subject.now.present.past.now in
    let h = history_of past in
    let over_is : to_z w64 (of_z w64 c.in-At.over) ≡ c.in-At.over = omega (arith, ints) in
    let start_is : to_z w64 (of_z w64 c.last_play-play.result.start) ≡ iteration_start h c.args.subject.now.present.who = omega (arith, ints, c.last_play-play.ensures.start) in
    let value_is : to_z w64 (of_z w64 c.moment_of.result) ≡ c.moment_of.result = omega (arith, ints) in
    follows h c.args.subject.now.present.who e (serial_is past.document.nodes c.args.subject.now.present.who e at) c.args.simple c.makeup.result.now.bounds c.last_play-play.result (ap (λ (m : Makeup). m.bounds) (c.makeup.ensures ∙ ap (λ (r : SyncRow). r.makeup) (c.requires.row_is e at)))
    c.last_play-play.ensures.first c.last_play-play.ensures.start c.last_play-play.ensures.iteration
    c.args.subject.now.present.moment place c.later.result c.goes_on.result (to_z w64 (of_z w64 c.in-At.over)) c.in-At.over (to_z w64 (of_z w64 c.moment_of.result)) c.in-At.is over_is c.goes_on.ensures c.if-not-goes_on.false
    (value_is ∙ c.moment_of.ensures ∙ ap (λ v. c.args.subject.now.present.moment +ℤ (v -ℤ run h c.args.subject.now.present.who c.args.subject.now.present.moment)) over_is)
    ∙ ap (coming_repeat_at h c.args.subject.now.present.moment place e c.args.simple) (c.later.ensures ∙ ap (later_time c.args.simple) start_is)
