use Rattle.std.proofs.Common.{◌≡◌, List, ℕ, false, ap, sym, ◌∙◌}
use Rattle.smil_gen.specs.Session.{session_text}
use Rattle.smil_top.proofs.SessionEnds.{summed}
use Rattle.smil_top.proofs.generated.summary_of.Goals as goal

pub returns-clause-summary : goal.returns-clause-summary
returns-clause-summary g c =
    let bytes : List ℕ = c.in_ok-source.source.rest in
    let made : bytes ≡ session_text c.args.number = ap (λ s. s.rest) c.in_ok-source.ensures ∙ c.slice.ensures ∙ c.in_ok-bytes.ensures in
    let ran = c.answer_all-status.ensures.ran false c.in_ok-opening.ensures.run in
    summed
    c.args.number
    bytes
    c.in_ok-summary_text.field-0
    ran.text
    c.answer_all-status.result
    c.answer_all-status.new.self
    _
    _
    _
    _
    made
    ran
    (sym c.is_told.ensures ∙ c.if-not-is_told.false)
    c.in_ok-summary_text.ensures
