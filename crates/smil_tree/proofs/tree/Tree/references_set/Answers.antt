use Rattle.std.proofs.Common.{sym, ap, ◌∙◌, arith}
use Rattle.std.specs.Option.{option_copied}
use Rattle.smil_model.specs.document.Edits.{changed_at, with_attr}
use Rattle.smil_model.specs.document.Valid.{references}
use Rattle.smil_tree.specs.Outcomes.{may_take}
use Rattle.smil_tree.proofs.AttributesChanged.{references_own, references_then, taken_few}
use Rattle.smil_tree.proofs.tree.Tree.references_set.Goals as goal

pub references_in-requires : goal.references_in-requires
references_in-requires c =
    omega (arith, references_own (λ attrs. attrs) c.args.serial c.self.inside.nodes c.unwrap.result.now c.self.invariant.keeps.valid.numbered.distinct (sym c.get.ensures ∙ ap option_copied c.unwrap.ensures), c.self.invariant.keeps.valid.references)

pub overflow_sub-result : goal.overflow_sub-result
overflow_sub-result c =
    omega (arith, references_own (λ attrs. attrs) c.args.serial c.self.inside.nodes c.unwrap.result.now c.self.invariant.keeps.valid.numbered.distinct (sym c.get.ensures ∙ ap option_copied c.unwrap.ensures), c.references_in.ensures, c.self.invariant.keeps.total_is)

pub references_with-requires : goal.references_with-requires
references_with-requires c =
    omega (arith, taken_few c.self.inside.nodes c.args.serial c.args.attr.now c.unwrap.result.now (sym c.get.ensures ∙ ap option_copied c.unwrap.ensures) (ap (λ d. may_take d.nodes c.args.serial c.args.attr.now) c.self.view_is ∙ c.requires))

pub overflow_add-result : goal.overflow_add-result
overflow_add-result c =
    omega (arith, taken_few c.self.inside.nodes c.args.serial c.args.attr.now c.unwrap.result.now (sym c.get.ensures ∙ ap option_copied c.unwrap.ensures) (ap (λ d. may_take d.nodes c.args.serial c.args.attr.now) c.self.view_is ∙ c.requires), c.references_with.ensures, c.self.invariant.keeps.valid.references, c.self.invariant.keeps.total_is)

pub returns : goal.returns
returns c =
    references_then (λ attrs. with_attr attrs c.args.attr.now) c.args.serial c.self.inside.nodes c.unwrap.result.now _ c.references_in.result c.references_with.result c.self.invariant.keeps.valid.numbered.distinct
    (sym c.get.ensures ∙ ap option_copied c.unwrap.ensures) c.self.invariant.keeps.total_is c.references_in.ensures c.references_with.ensures
    ∙ ap (λ d. references (changed_at (λ attrs. with_attr attrs c.args.attr.now) c.args.serial d.nodes)) c.self.view_is
