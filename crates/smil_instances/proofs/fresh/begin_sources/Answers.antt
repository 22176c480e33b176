use Rattle.std.proofs.Common.{ap, ◌∙◌, ◌++◌, [], ◌∷◌, List, Some}
use Rattle.smil_instances.specs.declared.source.Source.{Source}
use Rattle.smil_instances.proofs.EmptyRows.{default_begins}
use Rattle.smil_instances.proofs.fresh.begin_sources.Goals as goal

pub returns : goal.returns
returns c =
    ap Some (c.in_ok-push.ensures.ok ∙ ap (λ (xs : List Source). xs ++ c.begin_by_default.result ∷ []) c.new-sources.ensures.items ∙ ap (λ (s : Source). s ∷ []) c.begin_by_default.ensures)
    ∙ default_begins c.args.element.now.tree.now.nodes c.args.element.now.who c.attrs.result.now c.args.element.now.by_offset c.attrs.ensures c.in_default.is c.requires.by_offset
