use Rattle.std.proofs.Common.{rules, ◌≡◌, sym, subst}
use Rattle.std.specs.FinMap.{get}
use Rattle.smil_model.specs.document.Document.{Document, elements, serials}
use Rattle.smil_instances.specs.Spread.{IsIndex}
use Rattle.smil_test_plays.proofs.PlaysLawful.{lawful_for}
use Rattle.smil_test_plays.proofs.plays.instances_anew.Goals as goal

pub new-requires : goal.new-requires
new-requires c =
    let kept : c.places.result.now.value ≡ c.in_ok-places.places.value = search rules in
    subst (λ table. IsIndex (serials (elements c.tree-tree.result.now.nodes)) (get table)) kept
    (subst (λ (d : Document). IsIndex (serials (elements d.nodes)) (get c.places.result.now.value)) (sym c.tree-tree.ensures) (c.places.ensures c.args.past.now.document.nodes c.syncs.ensures))

pub rebuild-requires-clause-lawful : goal.rebuild-requires-clause-lawful
rebuild-requires-clause-lawful c = lawful_for c.args.past.now c.tree-tree.result.now c.book.result.now c.possible.ensures c.tree-tree.ensures c.book.ensures

pub rebuild-requires-clause-document : goal.rebuild-requires-clause-document
rebuild-requires-clause-document c = (c.in_ok-instances.ensures c.args.past.now.log).dependents
