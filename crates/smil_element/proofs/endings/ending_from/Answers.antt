use Rattle.std.proofs.Common.{◌∙◌, ap}
use Rattle.std.specs.Prelude.{Option, is_some}
use Rattle.std.specs.Option.{option_or}
use Rattle.smil_model.specs.declared.times.Time.{Time}
use Rattle.smil_past.specs.declared.plays.facts.PlayFacts.{PlayFacts}
use Rattle.smil_past.proofs.KeptActivity.{deferred_is}
use Rattle.smil_element.proofs.ChildEnds.{ending_told, unless_deferred}
use Rattle.smil_element.proofs.endings.ending_from.Goals as goal

pub returns : goal.returns
returns c = λ h who kept.
    ending_told h who c.args.played.now kept
    c.args.interval c.coming_end-coming.result c.or.result c.or-2.result c.is_some-deferred.result
    c.coming_end-coming.ensures
    (c.is_some-deferred.ensures ∙ ap (λ (r : PlayFacts). is_some r.shown_deferred) kept ∙ deferred_is h who)
    (c.or.ensures ∙ ap (λ (o : Option Time). option_or o c.coming_end-coming.result) c.finish_of.ensures)
    (c.or-2.ensures ∙ ap (option_or c.coming_end-coming.result) (c.latest_of.ensures ∙ ap (λ (o : Option Time). unless_deferred c.is_some-deferred.result o) c.finish_of-2.ensures))
