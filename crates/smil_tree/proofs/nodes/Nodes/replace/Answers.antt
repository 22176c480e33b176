use Rattle.std.proofs.Common.{sym, ap, subst, ◌∙◌}
use Rattle.std.specs.Prelude.{is_some}
use Rattle.smil_model.specs.document.Document.{node_at}
use Rattle.smil_model.specs.document.Edits.{changed_at}
use Rattle.smil_tree.specs.Places.{IsIndexed}
use Rattle.smil_tree.proofs.Listed.{indexed_changed, place-known, replaced_there}
use Rattle.smil_tree.proofs.nodes.Nodes.replace.Goals as goal

pub unwrap-place-requires : goal.unwrap-place-requires
unwrap-place-requires c =
    ap is_some c.get.ensures
    ∙ place-known c.self.inside.list.items c.self.inside.places c.self.invariant c.args.serial (ap (λ ns. is_some (node_at ns c.args.serial)) c.self.view_is ∙ ap is_some c.requires.2)

pub invariant_of-self : goal.invariant_of-self
invariant_of-self c =
    subst (λ ns. IsIndexed ns c.self.inside.places)
    (sym (replaced_there c.requires.0 c.self.inside.list.items c.self.inside.places c.args.serial c.unwrap-place.result c.requires.1 c.args.node c.self.invariant (sym c.get.ensures ∙ c.unwrap-place.ensures)
    (ap (λ ns. node_at ns c.args.serial) c.self.view_is ∙ c.requires.2) c.requires.3))
    (indexed_changed c.requires.0 c.args.serial c.self.inside.list.items c.self.inside.places c.self.invariant)

pub returns : goal.returns
returns c = λ change old at is.
    replaced_there change c.self.inside.list.items c.self.inside.places c.args.serial c.unwrap-place.result old c.args.node c.self.invariant (sym c.get.ensures ∙ c.unwrap-place.ensures)
    (ap (λ ns. node_at ns c.args.serial) c.self.view_is ∙ at) is
    ∙ ap (changed_at change c.args.serial) c.self.view_is
