use Rattle.std.proofs.Common.{◌≡◌, ◌∙◌, sym, ap, subst, List, [], None}
use Rattle.smil_model.specs.document.Document.{Document}
use Rattle.smil_graph.specs.Graph.{document_of}
use Rattle.smil_instances.specs.Dependents.{AreDependentsOf}
use Rattle.smil_past.specs.declared.kept.KeptReadings.{KeptReadings}
use Rattle.smil_past.specs.Past.{unmarked}
use Rattle.smil_past.specs.Kept.{AreKept, KeepsPast}
use Rattle.smil_past.proofs.KeptFronts.{kept_none}
use Rattle.smil_past.proofs.Catching.{lags_new}
use Rattle.smil_past.proofs.Marks.{backs_none}
use Rattle.smil_past.proofs.past.Past.over.Goals as goal

pub of-requires-clause-dependents : goal.of-requires-clause-dependents
of-requires-clause-dependents c =
    subst (AreDependentsOf c.args.graph.nodes) (sym c.dependents-dependents.ensures) c.requires.nothing.readings_are.instances_are.dependents

pub invariant_of-result : goal.invariant_of-result
invariant_of-result c =
    let tree = document_of c.args.graph in
    let log = c.args.log in
    let chronicle = c.args.chronicle in
    let same : c.in_ok-new.field-0.value ≡ tree = c.in_ok-new.ensures.ok ∙ c.new.ensures in
    subst (λ (d : Document). KeepsPast d log chronicle c.in_ok-notes.notes None c.new-3.result.items) (sym same)
    (record {
      tells = (lags_new tree log [] chronicle c.requires.possible c.requires.nothing).tells;
      backs_up = backs_none tree log chronicle.book chronicle.readings c.in_ok-notes.notes;
      kept_are = subst (λ (ks : List KeptReadings). AreKept tree log chronicle.book ks) (sym c.new-3.ensures.items) (kept_none tree log chronicle.book);
    })

pub returns : goal.returns
returns c =
    let tree = document_of c.args.graph in
    let log = c.args.log in
    let same : c.in_ok-new.field-0.value ≡ tree = c.in_ok-new.ensures.ok ∙ c.new.ensures in
    ap (λ (d : Document). unmarked d log c.args.chronicle.book) same ∙ ap (unmarked tree log) c.requires.nothing.nothing
