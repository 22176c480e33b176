use Rattle.std.proofs.Common.{◌∙◌, sym, ap, refl, None}
use Rattle.std.specs.Prelude.{option_map}
use Rattle.smil_model.specs.happening.Keys.{keys}
use Rattle.smil_due.proofs.KeySerials.{keys_have_serials}
use Rattle.smil_element.specs.Parts.{coming_meant}
use Rattle.smil_rounds.proofs.FirstComing.{first_by_key, none_first}
use Rattle.smil_plain.proofs.plain.PlainTableTable.first.Goals as goal

pub returns-in_err-least : goal.returns-in_err-least
returns-in_err-least c = λ h now is.
    let of_one = keys_have_serials h now in
    ap (option_map coming_meant) c.from_residual.ensures
    ∙ sym (none_first h now None (c.in_err-least.ensures.of_document of_one.0 (keys h now) of_one.1 is.due_is) refl)

pub returns : goal.returns
returns c = λ h now is.
    let of_one = keys_have_serials h now in
    first_by_key h now c.args.self.now.known c.args.self.now.due c.in_ok-least.field-0 c.coming.result is
    (c.in_ok-least.ensures.of_document of_one.0 (keys h now) of_one.1 is.due_is) c.coming.ensures
