use Rattle.std.proofs.Common.{◌∙◌, sym, ap}
use Rattle.smil_model.specs.diary.Diary.{is_active}
use Rattle.smil_model.specs.diary.Clocks.{outer_stands}
use Rattle.smil_model.specs.happening.Keys.{coming_begin, coming_end}
use Rattle.smil_instances.proofs.SensitiveItems.{serial_is}
use Rattle.smil_past.specs.Past.{history_of}
use Rattle.smil_element.specs.Element.{and_coming}
use Rattle.std.specs.Prelude.{is_some}
use Rattle.smil_past.specs.declared.plays.facts.PlayFacts.{PlayFacts}
use Rattle.smil_past.proofs.KeptActivity.{begun_is}
use Rattle.smil_element.proofs.ComingKeys.{no_other, none_moves, none_comes, end_moves, begin_moves}
use Rattle.smil_element.proofs.comings.moved_of.Goals as goal
use Rattle.std.proofs.Common.{[]}

pub returns-in_default-clause-moved : goal.returns-in_default-clause-moved
returns-in_default-clause-moved c = λ place e at.
    ap (λ o. and_coming o []) (c.no_move.ensures.none place c.args.subject.now.present.who)
    ∙ none_comes (history_of c.args.subject.now.present.past.now) c.args.interval c.args.subject.now.present.moment place e (no_other c.args.interval c.in_default.not-Some)

pub returns-then-subject-clause-moved : goal.returns-then-subject-clause-moved
returns-then-subject-clause-moved c = λ place e at.
    let h = history_of c.args.subject.now.present.past.now in
    ap (λ o. and_coming o []) (c.no_move-then-subject.ensures.none place c.args.subject.now.present.who)
    ∙ none_moves h c.args.interval c.args.subject.now.present.moment place e c.args.subject.now.clocks.outer_stands
    (c.requires.found.outer_stands_is ∙ ap (outer_stands h) (sym (serial_is c.args.subject.now.present.past.now.document.nodes c.args.subject.now.present.who e at))) c.if-subject.true

pub returns-then-is_some-clause-moved : goal.returns-then-is_some-clause-moved
returns-then-is_some-clause-moved c = λ place e at.
    let h = history_of c.args.subject.now.present.past.now in
    let same = serial_is c.args.subject.now.present.past.now.document.nodes c.args.subject.now.present.who e at in
    c.end_of.ensures.moved place e at
    ∙ ap (coming_end h c.args.subject.now.present.moment place e) (sym c.in-Some.is)
    ∙ end_moves h c.args.interval c.args.subject.now.present.moment place e c.args.subject.now.clocks.outer_stands c.is_some.result
    (c.requires.found.outer_stands_is ∙ ap (outer_stands h) (sym same)) c.if-subject.false
    (c.is_some.ensures ∙ ap (λ (r : PlayFacts). is_some r.begun) c.requires.found.played_is ∙ begun_is h c.args.subject.now.present.past.now.document.next c.possible.ensures.valid.numbered c.args.subject.now.present.who ∙ ap (is_active h.diary) (sym same)) c.if-is_some.true

pub returns-else-is_some-clause-moved : goal.returns-else-is_some-clause-moved
returns-else-is_some-clause-moved c = λ place e at.
    let h = history_of c.args.subject.now.present.past.now in
    let same = serial_is c.args.subject.now.present.past.now.document.nodes c.args.subject.now.present.who e at in
    c.begin_of.ensures.moved place e at
    ∙ ap (coming_begin h c.args.subject.now.present.moment place e) (sym c.in-Some.is)
    ∙ begin_moves h c.args.interval c.args.subject.now.present.moment place e c.args.subject.now.clocks.outer_stands c.is_some.result
    (c.requires.found.outer_stands_is ∙ ap (outer_stands h) (sym same)) c.if-subject.false
    (c.is_some.ensures ∙ ap (λ (r : PlayFacts). is_some r.begun) c.requires.found.played_is ∙ begun_is h c.args.subject.now.present.past.now.document.next c.possible.ensures.valid.numbered c.args.subject.now.present.who ∙ ap (is_active h.diary) (sym same)) c.if-is_some.false
