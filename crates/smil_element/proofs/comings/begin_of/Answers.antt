use Rattle.std.proofs.Common.{◌≡◌, ◌∙◌, ap, arith, [], ◌∷◌}
use Rattle.std.proofs.lemmas.Int.{ints}
use mir.Syntax.{w64}
use mir.Val.{to_z, of_z}
use Rattle.smil_model.specs.diary.Clocks.{to_document}
use Rattle.smil_model.specs.happening.Keys.{begins}
use Rattle.smil_instances.proofs.SensitiveItems.{serial_is}
use Rattle.smil_past.specs.Past.{history_of}
use Rattle.smil_element.proofs.ComingKeys.{keyed, timed}
use Rattle.smil_element.proofs.comings.begin_of.Goals as goal

pub returns-clause-moved : goal.returns-clause-moved
returns-clause-moved c = λ place e at.
    let past = c.args.subject.now.present.past.now in
    let who = c.args.subject.now.present.who in
    let h = history_of past in
    let begin_is : to_z w64 (of_z w64 c.args.interval.begin) ≡ c.args.interval.begin = omega (arith, ints) in
    let value_is : to_z w64 (of_z w64 c.to_document.result) ≡ c.to_document.result = omega (arith, ints) in
    ap (λ b. keyed (to_z w64 (of_z w64 c.to_document.result)) 2 place who (begins b) ∷ []) begin_is
    ∙ timed h who e (serial_is past.document.nodes who e at) (to_z w64 (of_z w64 c.to_document.result)) c.args.interval.begin c.args.subject.now.present.moment 2 place (begins c.args.interval.begin)
    (value_is ∙ c.to_document.ensures ∙ ap (λ v. to_document h who v c.args.subject.now.present.moment) begin_is)
