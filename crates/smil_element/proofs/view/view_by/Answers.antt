use Rattle.std.proofs.Common.{◌≡◌, ◌∙◌, ap, sym, Bool, Option}
use Rattle.std.specs.Prelude.{◌||◌}
use Rattle.smil_model.specs.declared.interval.Interval.{Interval}
use Rattle.smil_model.specs.document.Document.{time_parent}
use Rattle.smil_model.specs.diary.Diary.{lives_under}
use Rattle.smil_model.specs.shown.Views.{is_frozen_in, shows_under, time_ancestors, view_by, view_facts}
use Rattle.smil_instances.proofs.SensitiveItems.{serial_is}
use Rattle.smil_past.specs.Past.{history_of}
use Rattle.smil_element.proofs.FrozenAncestors.{frozen_above, shows_above}
use Rattle.smil_element.proofs.view.view_by.Goals as goal

pub returns : goal.returns
returns c = λ e intervals at given.
    let past = c.args.subject.now.present.past.now in
    let who = c.args.subject.now.present.who in
    let now = c.args.subject.now.present.moment in
    let h = history_of past in
    let tree = c.possible.ensures.valid.numbered in
    let same = serial_is past.document.nodes who e at in
    let lives = lives_under (time_parent past.document.nodes who) past.diary in
    let above = c.is_frozen_above.result in
    let frozen = is_frozen_in h (time_ancestors past.document.nodes e.serial) in
    let above_is : above ≡ frozen =
    c.is_frozen_above.ensures ∙ sym (ap (λ k. is_frozen_in h (time_ancestors past.document.nodes k)) same ∙ frozen_above h past.document.next tree who e at) in
    let shows_is : (lives || frozen) ≡ shows_under h frozen (time_ancestors past.document.nodes e.serial) =
    sym (ap (λ k. shows_under h frozen (time_ancestors past.document.nodes k)) same ∙ shows_above h past.document.next tree who e frozen at) in
    c.view.ensures ∙ c.view_facts.ensures.same e at
    ∙ ap (λ (i : Option Interval). view_by (view_facts h now i (lives || above) above e)) (sym given ∙ ap intervals (sym same))
    ∙ ap (λ (f : Bool). view_by (view_facts h now (intervals e.serial) (lives || f) f e)) above_is
    ∙ ap (λ (b : Bool). view_by (view_facts h now (intervals e.serial) b frozen e)) shows_is
