use Rattle.std.proofs.Common.{sym, ap, ◌∙◌, arith}
use Rattle.std.specs.Option.{option_copied}
use Rattle.smil_model.specs.document.Edits.{changed_at, without_attr}
use Rattle.smil_model.specs.document.Valid.{references}
use Rattle.smil_tree.proofs.AttributesChanged.{references_own, references_then}
use Rattle.smil_tree.proofs.tree.Tree.references_unset.Goals as goal

pub references_in-requires : goal.references_in-requires
references_in-requires c =
    omega (arith, references_own (λ attrs. attrs) c.args.serial c.self.inside.nodes c.unwrap.result.now c.self.invariant.keeps.valid.numbered.distinct (sym c.get.ensures ∙ ap option_copied c.unwrap.ensures), c.self.invariant.keeps.valid.references)

pub overflow_sub-result : goal.overflow_sub-result
overflow_sub-result c =
    omega (arith, references_own (λ attrs. attrs) c.args.serial c.self.inside.nodes c.unwrap.result.now c.self.invariant.keeps.valid.numbered.distinct (sym c.get.ensures ∙ ap option_copied c.unwrap.ensures), c.references_in.ensures, c.self.invariant.keeps.total_is)

pub returns : goal.returns
returns c =
    references_then (λ attrs. without_attr attrs c.args.name) c.args.serial c.self.inside.nodes c.unwrap.result.now _ c.references_in.result c.references_without.result c.self.invariant.keeps.valid.numbered.distinct
    (sym c.get.ensures ∙ ap option_copied c.unwrap.ensures) c.self.invariant.keeps.total_is c.references_in.ensures c.references_without.ensures
    ∙ ap (λ d. references (changed_at (λ attrs. without_attr attrs c.args.name) c.args.serial d.nodes)) c.self.view_is
