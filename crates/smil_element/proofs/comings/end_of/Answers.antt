use Rattle.std.proofs.Common.{◌≡◌, ℕ, refl, ◌∙◌, sym, ap, arith, Bool, true, false, [], ◌∷◌}
use Rattle.std.specs.Prelude.{cond, int_lt}
use Rattle.std.proofs.lemmas.Int.{ints}
use mir.Syntax.{w64}
use mir.Val.{to_z, of_z}
use Rattle.smil_model.specs.diary.Clocks.{to_document}
use Rattle.smil_model.specs.happening.Keys.{ends}
use Rattle.smil_instances.proofs.SensitiveItems.{serial_is}
use Rattle.smil_past.specs.Past.{history_of}
use Rattle.smil_element.specs.Element.{and_coming}
use Rattle.smil_element.specs.Packed.{move_due}
use Rattle.smil_element.proofs.ComingKeys.{keyed, end_timed}
use Rattle.smil_element.proofs.comings.end_of.Goals as goal
use Rattle.smil_element.proofs.comings.end_of.Goals.{then-interval-end, else-interval-end}

pub returns-clause-moved : goal.returns-clause-moved
returns-clause-moved c = λ place e at.
    let past = c.args.subject.now.present.past.now in
    let who = c.args.subject.now.present.who in
    let now = c.args.subject.now.present.moment in
    let h = history_of past in
    let value = to_z w64 (of_z w64 c.to_document.result) in
    let end_is : to_z w64 (of_z w64 c.in-At.end) ≡ c.in-At.end = omega (arith, ints) in
    let value_is : to_z w64 (of_z w64 c.to_document.result) ≡ c.to_document.result = omega (arith, ints) in
    let timed = λ (class : ℕ) (t : Bool) (shorter : int_lt c.args.interval.begin c.in-At.end ≡ t) (of_class : cond t 1 3 ≡ class).
    ap (λ b. keyed value class place who (ends b) ∷ []) end_is
    ∙ end_timed h who e (serial_is past.document.nodes who e at) value c.args.interval.begin c.in-At.end now class place t c.args.interval.end
    (value_is ∙ c.to_document.ensures ∙ ap (λ v. to_document h who v now) end_is) shorter of_class c.in-At.is in
    let as_class = λ (class : ℕ). and_coming (move_due place who class value (to_z w64 (of_z w64 c.in-At.end))) [] in
    elim c.if-interval-end.branch [
      | then-interval-end w ↦ ap as_class w.result-is ∙ timed 1 true (grind (arith, ints, w.if-interval-end.true)) refl
      | else-interval-end w ↦ ap as_class w.result-is ∙ timed 3 false (grind (arith, ints, w.if-interval-end.false)) refl
    ]

pub returns-clause-zero : goal.returns-clause-zero
returns-clause-zero c = λ none.
    elim c.if-interval-end.branch [
      | then-interval-end w ↦ (let never : 1 ≡ 0 = sym w.result-is ∙ none in absurd (cc))
      | else-interval-end w ↦ (let never : 3 ≡ 0 = sym w.result-is ∙ none in absurd (cc))
    ]
