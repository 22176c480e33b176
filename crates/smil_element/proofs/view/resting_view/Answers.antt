use Rattle.std.proofs.Common.{◌∙◌, ap, sym}
use Rattle.std.specs.Prelude.{is_some}
use Rattle.smil_model.specs.shown.Views.{view_facts}
use Rattle.smil_past.specs.declared.plays.facts.PlayFacts.{PlayFacts}
use Rattle.smil_past.specs.Past.{history_of}
use Rattle.smil_element.proofs.ViewByFacts.{begun_told, kept_is, unfinished_told}
use Rattle.smil_element.proofs.view.resting_view.Goals as goal

pub returns : goal.returns
returns c = λ e shows above at.
    let s = c.args.subject.now in
    let past = s.present.past.now in
    let found = c.requires.found in
    c.unplayed_view.ensures (view_facts (history_of past) s.present.moment c.args.interval shows above e)
    (c.current_facts.ensures.current e shows above at)
    (begun_told s found e at past.document.next c.possible.ensures.valid.numbered ∙ c.requires.active)
    (sym (ap (λ (r : PlayFacts). is_some r.shown_deferred) (kept_is s found e at)) ∙ c.requires.deferred)
    (unfinished_told s found e at c.requires.last)
