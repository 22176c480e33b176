use Rattle.std.proofs.Common.{sym, ap, ◌∙◌, Some, ℕ, List}
use Rattle.std.specs.Map.{lookup}
use Rattle.std.specs.Str.{bytes_eq}
use Rattle.smil_model.specs.document.Valid.{is_id_taken}
use Rattle.smil_tree.specs.TreeFields.{is_other}
use Rattle.smil_tree.proofs.TreeMade.{once_of}
use Rattle.smil_tree.proofs.IdOwners.{taken}
use Rattle.smil_tree.proofs.tree.Tree.knows_id.Goals as goal

pub returns-in-Some : goal.returns-in-Some
returns-in-Some c =
    c.other_has.ensures
    ∙ ap (λ (table : List (List ℕ × ℕ)). is_other c.self.inside.next (lookup (bytes_eq c.slice.result.now) table)) c.as_ref-ids.ensures
    ∙ ap (is_other c.self.inside.next) (c.self.invariant.keeps.ids c.slice.result.now)
    ∙ sym (taken c.slice.result.now c.self.inside.next c.self.inside.nodes (once_of _ c.self.invariant.keeps.valid c.slice.result.now))
    ∙ ap (λ d. is_id_taken d.nodes d.next (Some c.slice.result.now)) c.self.view_is
    ∙ ap (is_id_taken c.args.self.now.nodes c.args.self.now.next) (ap Some c.slice.ensures ∙ sym c.in-Some.is)
