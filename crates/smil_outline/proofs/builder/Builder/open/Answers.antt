use Rattle.std.proofs.Common.{◌≡◌, true, false, ltb, List, length, Some, ap, sym, subst, ◌∙◌}
use Rattle.std.proofs.lemmas.Bool.{le-ltb}
use Rattle.smil_model.specs.declared.limits.TheConstants.{LINE_BYTES}
use Rattle.smil_model.specs.declared.document.Node.{Node}
use Rattle.smil_grammar.specs.Outlines.{Outline, with_header, opens_saved}
use Rattle.smil_outline.specs.Branches.{IsOfBuilder}
use Rattle.smil_outline.proofs.ChildrenAlike.{kept_headed}
use Rattle.smil_outline.proofs.LineParts.{as_header}
use Rattle.smil_outline.proofs.builder.Builder.open.Goals as goal

pub invariant_of-self : goal.invariant_of-self
invariant_of-self c =
    let outline : Outline = record { nodes = c.self.inside.nodes; branch = c.self.inside.branch; next = c.self.inside.next } in
    let short : ltb LINE_BYTES (length c.args.line.now) ≡ false = le-ltb _ _ c.requires.short in
    let first : opens_saved outline c.args.line.now ≡ true = ap (λ (o : Outline). opens_saved o c.args.line.now) c.self.view_is ∙ c.requires.first in
    subst (λ (nodes : List Node). IsOfBuilder (record { nodes = nodes; branch = c.self.inside.branch; next = Some c.in-Some.next })) (sym c.keep_places.ensures)
    (kept_headed outline c.in-Some.next c.args.line.now c.self.invariant (as_header outline c.args.line.now short first ∙ ap (with_header outline) (sym c.in-Some.ensures)))
