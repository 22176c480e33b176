use Rattle.std.proofs.Common.{sym, ap, ◌∙◌, Some, ℕ, List}
use Rattle.std.specs.Map.{lookup}
use Rattle.std.specs.Str.{bytes_eq}
use Rattle.smil_model.specs.declared.document.Attr.TheVariants as attr
use Rattle.smil_model.specs.document.Valid.{is_id_taken}
use Rattle.smil_model.specs.shown.Orders.{id_in}
use Rattle.smil_tree.specs.TreeFields.{is_other}
use Rattle.smil_tree.proofs.TreeMade.{once_of}
use Rattle.smil_tree.proofs.IdOwners.{taken}
use Rattle.smil_tree.proofs.tree.Tree.takes_id.Goals as goal

pub returns-in-Id : goal.returns-in-Id
returns-in-Id c =
    c.other_has.ensures
    ∙ ap (λ (table : List (List ℕ × ℕ)). is_other c.args.serial (lookup (bytes_eq c.slice.result.now) table)) c.as_ref-ids.ensures
    ∙ ap (is_other c.args.serial) (c.self.invariant.keeps.ids c.slice.result.now)
    ∙ sym (taken c.slice.result.now c.args.serial c.self.inside.nodes (once_of _ c.self.invariant.keeps.valid c.slice.result.now))
    ∙ ap (λ d. is_id_taken d.nodes c.args.serial (Some c.slice.result.now)) c.self.view_is
    ∙ ap (λ a. is_id_taken c.args.self.now.nodes c.args.serial (id_in a)) (ap attr.Id c.slice.ensures ∙ sym c.in-Id.is)
