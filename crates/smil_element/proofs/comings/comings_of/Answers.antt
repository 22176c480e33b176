use Rattle.std.proofs.Common.{◌≡◌, Bool, ◌∙◌, sym, ap, subst, []}
use Rattle.std.specs.Prelude.{cond, is_some}
use Rattle.smil_model.specs.diary.Diary.{is_active}
use Rattle.smil_model.specs.happening.Keys.{coming_repeat}
use Rattle.smil_instances.proofs.SensitiveItems.{serial_is}
use Rattle.smil_past.specs.Past.{history_of}
use Rattle.smil_element.specs.declared.comings.Repeated.{Repeated}
use Rattle.smil_element.specs.Changes.{ChangesDue}
use Rattle.smil_element.specs.Packed.{IsZeroRepeat, moved_at, repeat_at}
use Rattle.smil_element.specs.Element.{and_coming, both}
use Rattle.smil_past.specs.declared.plays.facts.PlayFacts.{PlayFacts}
use Rattle.smil_past.proofs.KeptActivity.{begun_is}
use Rattle.smil_element.proofs.ComingKeys.{both_are}
use Rattle.smil_element.proofs.comings.comings_of.Goals as goal
use Rattle.smil_element.proofs.comings.comings_of.Goals.{then-is_some, else-is_some}

pub changes_of-requires-clause-repeat : goal.changes_of-requires-clause-repeat
changes_of-requires-clause-repeat c =
    let zero = λ (r : Repeated). IsZeroRepeat r.comes r.moment r.start in
    elim c.if-is_some.branch [
      | then-is_some w ↦ subst zero (sym w.repeat-is) w.repeat_of-repeat.ensures.zero
      | else-is_some w ↦ subst zero (sym w.repeat-is) w.no_repeat-repeat.ensures.zero
    ]

pub returns : goal.returns
returns c = λ e at.
    let h = history_of c.args.subject.now.present.past.now in
    let place = c.args.place in
    let who = c.args.subject.now.present.who in
    let same = serial_is c.args.subject.now.present.past.now.document.nodes who e at in
    let coming = λ (r : Repeated). and_coming (repeat_at place who r) [] in
    let where_active = λ (t : Bool). cond t (coming_repeat h c.args.made.now.simple c.args.subject.now.present.moment place e) [] in
    let again : coming c.if-is_some.repeat ≡ where_active c.is_some.result =
    elim c.if-is_some.branch [
      | then-is_some w ↦
          ap coming w.repeat-is ∙ w.repeat_of-repeat.ensures.repeat place e at ∙ ap where_active (sym w.if-is_some.true)
      | else-is_some w ↦
          ap coming w.repeat-is ∙ ap (λ o. and_coming o []) (w.no_repeat-repeat.ensures.none place who) ∙ ap where_active (sym w.if-is_some.false)
    ] in
    ap (λ (d : ChangesDue). both d.moved d.repeat) c.changes_of.ensures
    ∙ both_are h c.args.made.now.interval c.args.made.now.simple c.args.subject.now.present.moment place e c.is_some.result (moved_at place who c.moved_of-moved.result) (repeat_at place who c.if-is_some.repeat)
    (c.is_some.ensures ∙ ap (λ (r : PlayFacts). is_some r.begun) c.requires.found.played_is ∙ begun_is h c.args.subject.now.present.past.now.document.next c.possible.ensures.valid.numbered who ∙ ap (is_active h.diary) (sym same))
    (c.moved_of-moved.ensures.moved place e at)
    again
