use Rattle.std.proofs.Common.{sym, ap, ◌∙◌}
use Rattle.std.specs.Prelude.{◌==◌}
use Rattle.std.specs.List.{position}
use Rattle.std.specs.Option.{option_copied}
use Rattle.smil_model.specs.declared.document.Node.{Node}
use Rattle.smil_model.specs.document.Document.{elements}
use Rattle.smil_tree.proofs.OutlineRows.{found_told, no_element, element_told, class_told, lent_there}
use Rattle.smil_tree.proofs.tree.Tree.element_index.Goals as goal

pub returns-in_err-place : goal.returns-in_err-place
returns-in_err-place c =
    c.from_residual.ensures
    ∙ sym (no_element c.self.inside.nodes c.self.inside.next c.self.invariant.keeps.valid c.self.inside.outline c.self.invariant.outline_is c.args.serial (sym c.position.ensures ∙ c.in_err-place.was))
    ∙ ap (λ d. position (λ (n : Node). n.serial == c.args.serial) (elements d.nodes)) c.self.view_is

pub unwrap-row-requires : goal.unwrap-row-requires
unwrap-row-requires c =
    let found = found_told c.self.inside.nodes c.self.inside.next c.self.invariant.keeps.valid c.self.inside.outline c.self.invariant.outline_is c.args.serial c.in_ok-place.place (sym c.position.ensures ∙ c.in_ok-place.was) in
    lent_there c.row.result found.row (c.row.ensures ∙ found.read)

pub returns-then-is_element : goal.returns-then-is_element
returns-then-is_element c =
    let found = found_told c.self.inside.nodes c.self.inside.next c.self.invariant.keeps.valid c.self.inside.outline c.self.invariant.outline_is c.args.serial c.in_ok-place.place (sym c.position.ensures ∙ c.in_ok-place.was) in
    sym (element_told c.self.inside.nodes c.self.inside.next c.self.invariant.keeps.valid c.self.inside.outline c.self.invariant.outline_is c.args.serial c.in_ok-place.place c.unwrap-row.result.now found (sym c.row.ensures ∙ ap option_copied c.unwrap-row.ensures) (sym c.is_element.ensures ∙ c.if-is_element.true))
    ∙ ap (λ d. position (λ (n : Node). n.serial == c.args.serial) (elements d.nodes)) c.self.view_is

pub returns-else-is_element : goal.returns-else-is_element
returns-else-is_element c =
    let found = found_told c.self.inside.nodes c.self.inside.next c.self.invariant.keeps.valid c.self.inside.outline c.self.invariant.outline_is c.args.serial c.in_ok-place.place (sym c.position.ensures ∙ c.in_ok-place.was) in
    sym (class_told c.self.inside.nodes c.self.inside.next c.self.invariant.keeps.valid c.self.inside.outline c.self.invariant.outline_is c.args.serial c.in_ok-place.place c.unwrap-row.result.now found (sym c.row.ensures ∙ ap option_copied c.unwrap-row.ensures) (sym c.is_element.ensures ∙ c.if-is_element.false))
    ∙ ap (λ d. position (λ (n : Node). n.serial == c.args.serial) (elements d.nodes)) c.self.view_is
