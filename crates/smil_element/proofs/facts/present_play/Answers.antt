use Rattle.std.proofs.Common.{◌≡◌, ◌∙◌, sym, ap, arith, Some}
use Rattle.std.specs.Prelude.{is_some}
use Rattle.std.proofs.lemmas.Int.{ints}
use mir.Syntax.{w64}
use mir.Val.{to_z, of_z}
use Rattle.smil_model.specs.diary.Clocks.{play_start, iteration_start}
use Rattle.smil_past.specs.declared.plays.facts.PlayFacts.{PlayFacts}
use Rattle.smil_instances.proofs.SensitiveItems.{serial_is}
use Rattle.smil_past.specs.Past.{history_of}
use Rattle.smil_past.proofs.KeptActivity.{begun_is}
use Rattle.smil_element.proofs.FactsByParts.{play_unbegun, play_begun}
use Rattle.smil_element.proofs.facts.present_play.Goals as goal

pub returns-in_err-begin : goal.returns-in_err-begin
returns-in_err-begin c = λ e at.
    c.from_residual.ensures
    ∙ play_unbegun (history_of c.args.subject.now.present.past.now) c.args.subject.now.present.who c.args.subject.now.present.moment e (serial_is c.args.subject.now.present.past.now.document.nodes c.args.subject.now.present.who e at) c.args.subject.now.played.now.begun
    (ap (λ (r : PlayFacts). r.begun) c.requires.played_is) c.in_err-begin.was

pub returns : goal.returns
returns c = λ e at.
    let past = c.args.subject.now.present.past.now in
    let h = history_of past in
    let begin_is : to_z w64 (of_z w64 c.in_ok-begin.begin) ≡ c.in_ok-begin.begin = omega (arith, ints) in
    let first_is : to_z w64 (of_z w64 c.args.subject.now.played.now.first) ≡ play_start h c.args.subject.now.present.who = omega (arith, ints, ap (λ (r : PlayFacts). r.first) c.requires.played_is) in
    let start_is : to_z w64 (of_z w64 c.args.subject.now.played.now.start) ≡ iteration_start h c.args.subject.now.present.who = omega (arith, ints, ap (λ (r : PlayFacts). r.start) c.requires.played_is) in
    play_begun h c.args.subject.now.present.who c.args.subject.now.present.moment e (serial_is c.args.subject.now.present.past.now.document.nodes c.args.subject.now.present.who e at) (is_some c.args.subject.now.played.now.begun) c.args.subject.now.played.now.begun
    (to_z w64 (of_z w64 c.in_ok-begin.begin)) (to_z w64 (of_z w64 c.args.subject.now.played.now.first)) (to_z w64 (of_z w64 c.args.subject.now.played.now.start)) c.args.subject.now.played.now.iteration c.shift.result
    (ap (λ (r : PlayFacts). is_some r.begun) c.requires.played_is ∙ begun_is h past.document.next c.possible.ensures.valid.numbered c.args.subject.now.present.who) (ap is_some c.in_ok-begin.was)
    (ap (λ (r : PlayFacts). r.begun) c.requires.played_is) (c.in_ok-begin.was ∙ ap Some (sym begin_is)) first_is start_is
    (ap (λ (r : PlayFacts). r.iteration) c.requires.played_is)
    c.shift.ensures
