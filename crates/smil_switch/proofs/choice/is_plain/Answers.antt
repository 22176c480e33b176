use Rattle.std.proofs.Common.{◌≡◌, ℕ, List, false, take, ap, sym, ◌∙◌}
use Rattle.std.specs.Prelude.{bytes_eq, codes}
use Rattle.std.specs.List.{list_any}
use Rattle.smil_switch.specs.Choices.{is_y}
use Rattle.smil_switch.proofs.PlainLines.{is_not, line_plain}
use Rattle.smil_switch.proofs.choice.is_plain.Goals as goal

pub returns-then-not-is-clause-plain : goal.returns-then-not-is-clause-plain
returns-then-not-is-clause-plain c is =
    let text : List ℕ = c.args.text.now in
    let other : bytes_eq (take 6 text) (codes "switch") ≡ false = ap (λ (l : List ℕ). bytes_eq l (codes "switch")) (sym c.front.ensures) ∙ sym c.is.ensures ∙ c.if-not-is.true in
    let none : list_any is_y text ≡ false = sym c.has_y.ensures ∙ is_not c.has_y.result is in
    line_plain text other none
