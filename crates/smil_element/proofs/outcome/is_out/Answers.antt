use Rattle.std.proofs.Common.{sym, ◌∙◌, ap}
use Rattle.std.specs.Prelude.{is_some, not}
use Rattle.smil_model.specs.diary.Diary.{is_alive, is_deferred}
use Rattle.smil_past.specs.declared.plays.facts.PlayFacts.{PlayFacts}
use Rattle.smil_past.specs.Past.{history_of}
use Rattle.smil_past.specs.Played.{played}
use Rattle.smil_past.proofs.KeptActivity.{begun_is, deferred_is}
use Rattle.smil_element.proofs.IndexedElements.{element_here, plays_within}
use Rattle.smil_element.proofs.OutcomeParts.{first_out, second_out}
use Rattle.smil_element.proofs.outcome.is_out.Goals as goal

pub at-played-requires : goal.at-played-requires
at-played-requires c =
    let present = c.args.present.now in
    let nodes = present.past.now.document.nodes in
    let h = history_of present.past.now in
    let here = element_here nodes c.args.index present.who c.requires.element c.requires.index in
    plays_within h c.plays.result.now c.args.index c.plays.ensures here.within

pub returns-then-is_some-2-clause-idle : goal.returns-then-is_some-2-clause-idle
returns-then-is_some-2-clause-idle c = λ out.
    let present = c.args.present.now in
    let nodes = present.past.now.document.nodes in
    let h = history_of present.past.now in
    let here = element_here nodes c.args.index present.who c.requires.element c.requires.index in
    sym (sym c.if-is_some.false ∙ c.is_some.ensures ∙ ap (λ (r : PlayFacts). is_some r.begun) (c.at-played.ensures h here.node c.plays.ensures here.at ∙ ap (played h) here.serial) ∙ begun_is h present.past.now.document.next c.possible.ensures.valid.numbered present.who)

pub returns-then-is_some-2-clause-out : goal.returns-then-is_some-2-clause-out
returns-then-is_some-2-clause-out c = λ out.
    let present = c.args.present.now in
    let nodes = present.past.now.document.nodes in
    let h = history_of present.past.now in
    let here = element_here nodes c.args.index present.who c.requires.element c.requires.index in
    second_out (is_alive h present.who) (is_deferred h present.who)
    (sym (sym c.if-is_some-2.true ∙ c.is_some-2.ensures ∙ ap (λ (r : PlayFacts). is_some r.shown_deferred) (c.at-played.ensures h here.node c.plays.ensures here.at ∙ ap (played h) here.serial) ∙ deferred_is h present.who))

pub returns-clause-idle : goal.returns-clause-idle
returns-clause-idle c = λ out.
    let present = c.args.present.now in
    let nodes = present.past.now.document.nodes in
    let h = history_of present.past.now in
    let here = element_here nodes c.args.index present.who c.requires.element c.requires.index in
    sym (sym c.if-is_some.false ∙ c.is_some.ensures ∙ ap (λ (r : PlayFacts). is_some r.begun) (c.at-played.ensures h here.node c.plays.ensures here.at ∙ ap (played h) here.serial) ∙ begun_is h present.past.now.document.next c.possible.ensures.valid.numbered present.who)

pub returns-clause-out : goal.returns-clause-out
returns-clause-out c = λ out.
    let present = c.args.present.now in
    let nodes = present.past.now.document.nodes in
    let h = history_of present.past.now in
    let here = element_here nodes c.args.index present.who c.requires.element c.requires.index in
    first_out (is_alive h present.who) (is_deferred h present.who) (ap not (sym c.requires.alive) ∙ out)
