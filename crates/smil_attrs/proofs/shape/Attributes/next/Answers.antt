use Rattle.std.proofs.Common.{◌≡◌, ◌<◌, ◌+◌, Option, Some, refl, sym, subst, length}
use Rattle.smil_grammar.specs.Positions.{Piece}
use Rattle.smil_grammar.specs.Nodes.{WrittenAttr, with_written}
use Rattle.smil_attrs.specs.Remainder.{Passes, attributes_in}
use Rattle.smil_attrs.proofs.AttributeSteps.{ended, no_more, half, malformed, passed, shorter}
use Rattle.smil_attrs.proofs.shape.Attributes.next.Goals as goal

pub returns-in_err-lead : goal.returns-in_err-lead
returns-in_err-lead c =
    subst (λ (r : Option WrittenAttr). Passes c.args.self.now r c.args.self.now) (sym c.from_residual.ensures)
    (refl, subst (λ (l : Piece). attributes_in l ≡ ended l.text) c.self.view_is (no_more c.self.inside.place c.self.inside.text.now (sym c.in_err-lead.ensures)))

pub returns-in_err-value : goal.returns-in_err-value
returns-in_err-value c =
    subst (λ (r : Option WrittenAttr). Passes c.args.self.now r c.args.self.now) (sym c.from_residual-in_err-value.ensures)
    (refl, subst (λ (l : Piece). attributes_in l ≡ ended l.text) c.self.view_is (half c.self.inside.place c.self.inside.text.now _ _ (sym c.in_ok-lead.ensures) (sym c.in_err-value.ensures)))

pub returns-in_err-written : goal.returns-in_err-written
returns-in_err-written c =
    subst (λ (r : Option WrittenAttr). Passes c.args.self.now r c.args.self.now) (sym c.from_residual-in_err-written.ensures)
    (refl, subst (λ (l : Piece). attributes_in l ≡ ended l.text) c.self.view_is (malformed c.self.inside.place c.self.inside.text.now _ _ _ _ (sym c.in_ok-lead.ensures) (sym c.in_ok-value.ensures) (sym c.in_err-written.ensures)))

pub returns : goal.returns
returns c =
    let place = c.self.inside.place in let text = c.self.inside.text.now in
    let here = passed place text _ _ _ _ _ (sym c.in_ok-lead.ensures) (sym c.in_ok-value.ensures) (sym c.in_ok-written.ensures) in
    let short = shorter text _ _ _ _ (sym c.in_ok-lead.ensures) (sym c.in_ok-value.ensures) in
    let new : Piece = record { text = c.in_ok-value.rest.now; place = place + (length c.in_ok-lead.lead.now + length c.in_ok-value.value.now + 2) } in
    (subst (λ (l : Piece). attributes_in l ≡ with_written (Some c.in_ok-written.written) (attributes_in new)) c.self.view_is here, subst (λ (l : Piece). length c.in_ok-value.rest.now < length l.text) c.self.view_is short)
