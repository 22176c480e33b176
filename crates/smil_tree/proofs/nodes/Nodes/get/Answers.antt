use Rattle.std.proofs.Common.{sym, ap, ◌∙◌}
use Rattle.std.specs.Option.{option_copied}
use Rattle.std.specs.Prelude.{slice_get}
use Rattle.smil_model.specs.document.Document.{node_at}
use Rattle.smil_tree.proofs.Listed.{at_place, node-told}
use Rattle.smil_tree.proofs.nodes.Nodes.get.Goals as goal

pub returns-in_err-place : goal.returns-in_err-place
returns-in_err-place c =
    ap option_copied c.from_residual.ensures ∙ ap (at_place c.self.inside.list.items) (sym c.in_err-place.was ∙ c.get.ensures)
    ∙ sym (node-told c.self.inside.list.items c.self.inside.places c.self.invariant c.args.serial)
    ∙ ap (λ ns. node_at ns c.args.serial) c.self.view_is

pub returns : goal.returns
returns c =
    c.at.ensures ∙ ap (λ ns. slice_get ns c.in_ok-place.place) (sym c.self.view_is) ∙ ap (at_place c.self.inside.list.items) (sym c.in_ok-place.was ∙ c.get.ensures)
    ∙ sym (node-told c.self.inside.list.items c.self.inside.places c.self.invariant c.args.serial)
    ∙ ap (λ ns. node_at ns c.args.serial) c.self.view_is
