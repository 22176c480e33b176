use Rattle.std.proofs.Common.{◌∙◌, sym, ap}
use Rattle.smil_model.specs.document.Document.{elements}
use Rattle.smil_model.specs.diary.Diary.{History}
use Rattle.smil_model.specs.interval.Current.{media_length}
use Rattle.smil_past.specs.declared.plays.facts.PlayFacts.{PlayFacts}
use Rattle.smil_past.proofs.ItemReferences.{stands}
use Rattle.smil_past.specs.Past.{history_of}
use Rattle.smil_element.proofs.ChildEnds.{media_told}
use Rattle.smil_element.proofs.evaluation.media_duration.Goals as goal

pub returns-in-None : goal.returns-in-None
returns-in-None c = λ e here intervals container.
    let h : History = history_of c.args.subject.now.present.past.now in
    ap (λ (p : PlayFacts). p.length) c.requires.played_is
    ∙ ap (media_length h) (sym (stands (elements h.nodes) c.args.subject.now.present.who e here).serial)
    ∙ media_told h intervals e c.args.kind container c.in-None.ensures.some
