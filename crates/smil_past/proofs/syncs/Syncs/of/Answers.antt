use Rattle.std.proofs.Common.{refl, sym, ◌∙◌, ap, subst}
use Rattle.std.specs.FinMap.{get}
use Rattle.smil_model.specs.document.Document.{Document, elements, serials}
use Rattle.smil_instances.specs.Dependents.{AreDependentsOf}
use Rattle.smil_past.specs.Syncs.{all_syncs}
use Rattle.smil_past.proofs.ItemReferences.{rows_indexed}
use Rattle.smil_past.proofs.syncs.Syncs.of.Goals as goal

pub rows_of-requires-clause-dependents : goal.rows_of-requires-clause-dependents
rows_of-requires-clause-dependents c =
    subst (λ (d : Document). AreDependentsOf d.nodes c.args.dependents.now) (sym c.tree-tree.ensures) c.requires.dependents

pub invariant_of-result : goal.invariant_of-result
invariant_of-result c =
    let nodes = c.args.graph.now.nodes in
    rows_indexed nodes c.in_ok-rows.rows.items (serials (elements nodes)) (get c.args.places.value) (c.in_ok-rows.ensures ∙ ap (λ (d : Document). all_syncs d.nodes) c.tree-tree.ensures) refl c.requires.places

pub returns : goal.returns
returns c = c.in_ok-rows.ensures ∙ ap (λ (d : Document). all_syncs d.nodes) c.tree-tree.ensures
