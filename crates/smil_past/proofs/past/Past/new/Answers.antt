use Rattle.std.proofs.Common.{rules, ◌≡◌, ◌∙◌, sym, subst, []}
use Rattle.std.specs.Prelude.{IfOk}
use Rattle.std.proofs.lemmas.Result.{IfOk-at_ok}
use Rattle.std.specs.FinMap.{get}
use Rattle.smil_model.specs.document.Document.{Document, elements, serials}
use Rattle.smil_instances.specs.Spread.{IsIndex}
use Rattle.smil_past.specs.Chronicle.{TellsNothing}
use Rattle.smil_past.specs.Past.{IsPossible, MarkedHistory, unmarked}
use Rattle.smil_past.proofs.past.Past.new.Goals as goal

pub new-requires : goal.new-requires
new-requires c =
    let same : c.in_ok-places.places.value ≡ c.in_ok-shared.shared.value = search rules in
    subst (λ table. IsIndex (serials (elements c.tree-2.result.now.nodes)) (get table)) same
    (subst (λ (d : Document). IsIndex (serials (elements d.nodes)) (get c.in_ok-places.places.value)) (c.tree.ensures ∙ sym c.tree-2.ensures) c.in_ok-places.ensures)

pub over-requires-clause-possible : goal.over-requires-clause-possible
over-requires-clause-possible c =
    subst (λ (d : Document). IsPossible d c.args.log []) (sym c.in_ok-graph.ensures) c.requires

pub over-requires-clause-places : goal.over-requires-clause-places
over-requires-clause-places c =
    subst (λ (d : Document). IsIndex (serials (elements d.nodes)) (get c.in_ok-places.places.value)) c.tree.ensures c.in_ok-places.ensures

pub over-requires-clause-nothing : goal.over-requires-clause-nothing
over-requires-clause-nothing c =
    subst (λ (d : Document). TellsNothing d c.args.log c.in_ok-chronicle.chronicle) c.tree-2.ensures
    (IfOk-at_ok (TellsNothing c.tree-2.result.now c.args.log) c.in_ok-chronicle.was (c.new.ensures c.args.log))

pub returns : goal.returns
returns c =
    subst (λ (d : Document). IfOk c.over.result (λ (past : MarkedHistory). past ≡ unmarked d c.args.log [])) c.in_ok-graph.ensures c.over.ensures
