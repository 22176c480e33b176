use Rattle.std.proofs.Common.{◌≡◌, sym, ap, subst, ◌∙◌, Some}
use Rattle.std.specs.Prelude.{is_some}
use Rattle.std.specs.Option.{option_copied}
use Rattle.smil_model.specs.declared.document.Node.{Node}
use Rattle.smil_model.specs.document.Document.{Document, node_at}
use Rattle.smil_model.specs.document.Edits.{place_in}
use Rattle.smil_tree.specs.Outline.{IsRowOf}
use Rattle.smil_tree.proofs.ChildSpans.{has_place}
use Rattle.smil_tree.proofs.OutlineRows.{found_told, row_is, lent_there}
use Rattle.smil_tree.proofs.tree.Tree.row.Goals as goal

pub unwrap-place-requires : goal.unwrap-place-requires
unwrap-place-requires c =
    ap is_some c.position.ensures ∙ has_place c.self.inside.nodes c.self.inside.next c.self.invariant.keeps.valid.numbered c.args.serial (ap (λ d. is_some (node_at d.nodes c.args.serial)) c.self.view_is ∙ c.requires)

pub unwrap-requires : goal.unwrap-requires
unwrap-requires c =
    let found = found_told c.self.inside.nodes c.self.inside.next c.self.invariant.keeps.valid c.self.inside.outline c.self.invariant.outline_is c.args.serial c.unwrap-place.result (sym c.position.ensures ∙ c.unwrap-place.ensures) in
    lent_there c.row.result found.row (c.row.ensures ∙ found.read)

pub returns : goal.returns
returns c =
    let found = found_told c.self.inside.nodes c.self.inside.next c.self.invariant.keeps.valid c.self.inside.outline c.self.invariant.outline_is c.args.serial c.unwrap-place.result (sym c.position.ensures ∙ c.unwrap-place.ensures) in
    subst (λ (d : Document). (n : Node) × (node_at d.nodes c.args.serial ≡ Some n) × IsRowOf d.nodes (place_in d.nodes c.args.serial) n c.unwrap.result.now) c.self.view_is
    (found.node, found.known, row_is c.self.inside.nodes c.self.inside.next c.self.invariant.keeps.valid c.self.inside.outline c.self.invariant.outline_is c.args.serial c.unwrap-place.result c.unwrap.result.now found (sym c.row.ensures ∙ ap option_copied c.unwrap.ensures))
