use Rattle.std.proofs.Common.{rules, ◌≡◌, refl, sym, subst, List, []}
use Rattle.std.specs.FinMap.{get}
use Rattle.std.specs.Prelude.{IfOk}
use Rattle.std.proofs.lemmas.Result.{IfOk-at_ok}
use Rattle.smil_model.specs.document.Document.{Document, elements, serials}
use Rattle.smil_stretch.specs.declared.clock.NodeClock.{NodeClock}
use Rattle.smil_stretch.specs.Clocks.{AreClocksOf}
use Rattle.smil_instances.specs.Dependents.{AreDependentsOf}
use Rattle.smil_instances.specs.Instances.{IsSettled}
use Rattle.smil_instances.specs.Intake.{history_of}
use Rattle.smil_instances.specs.Spread.{IsIndex}
use Rattle.smil_past.specs.Chronicle.{TellsNothing}
use Rattle.smil_past.proofs.kept.nothing_yet.Goals as goal

pub revised-requires-clause-shares : goal.revised-requires-clause-shares
revised-requires-clause-shares c = λ shares.
    subst (λ (d : Document). AreDependentsOf d.nodes c.args.present.now.instances.dependents) (sym c.tree-tree.ensures) c.requires.2.instances_are.dependents

pub revised-requires-clause-places : goal.revised-requires-clause-places
revised-requires-clause-places c =
    let nodes = c.args.document.now.nodes in
    let kept : c.places.result.now.value ≡ c.in_ok-shared.shared.value = search rules in
    subst (λ table. IsIndex (serials (elements c.tree-tree.result.now.nodes)) (get table)) kept
    (subst (λ (d : Document). IsIndex (serials (elements d.nodes)) (get c.places.result.now.value)) (sym c.tree-tree.ensures) (c.places.ensures nodes c.syncs.ensures))

pub over-requires-clause-places : goal.over-requires-clause-places
over-requires-clause-places c =
    let nodes = c.args.document.now.nodes in
    let kept : c.places.result.now.value ≡ c.in_ok-places.places.value = search rules in
    subst (λ table. IsIndex (serials (elements c.tree-tree.result.now.nodes)) (get table)) kept
    (subst (λ (d : Document). IsIndex (serials (elements d.nodes)) (get c.places.result.now.value)) (sym c.tree-tree.ensures) (c.places.ensures nodes c.syncs.ensures))

pub over-requires-clause-clocks : goal.over-requires-clause-clocks
over-requires-clause-clocks c = λ log.
    let document = c.args.document.now in
    let h = history_of document c.requires.0 c.requires.1 in
    let copied = subst (λ (clocks : List NodeClock). AreClocksOf clocks h) (sym c.in_ok-clocks.ensures) c.requires.2.clocks_are in
    subst (λ (d : Document). AreClocksOf c.reset.new.self (history_of d log [])) (sym c.tree-tree.ensures)
    (c.reset.ensures h (history_of document log []) copied refl)

pub over-requires-clause-instances : goal.over-requires-clause-instances
over-requires-clause-instances c = λ log.
    IfOk-at_ok (λ value. IsSettled value c.tree-tree.result.now log []) c.in_ok-instances.was (c.revised.ensures log)

pub returns : goal.returns
returns c = λ log.
    subst (λ (d : Document). IfOk c.over.result (TellsNothing d log)) c.tree-tree.ensures (c.over.ensures log)
