use Rattle.std.proofs.Common.{rules, ◌≡◌, sym, ◌∙◌, ap, subst, List, None, ◌∷◌, ◌++◌, [], get_or}
use Rattle.std.proofs.lemmas.List.{take_all}
use Rattle.std.proofs.lemmas.Option.{slice_get-get_or}
use Rattle.std.proofs.lemmas.Result.{IfOk-at_ok}
use Rattle.smil_model.specs.declared.diary.Entry.{Entry}
use Rattle.std.specs.FinMap.{get}
use Rattle.smil_model.specs.document.Document.{Document, elements, serials}
use Rattle.smil_laws.proofs.Lists.{take-more_at}
use Rattle.smil_graph.specs.Graph.{document_of}
use Rattle.smil_graph.specs.Reduced.{all_reduced}
use Rattle.smil_stretch.proofs.IdleClocks.{no_entry}
use Rattle.smil_instances.specs.Spread.{IsIndex}
use Rattle.smil_past.specs.Chronicle.{TellsNothing}
use Rattle.smil_past.specs.Past.{MarkedHistory, MayFollow, with_diary}
use Rattle.smil_past.proofs.FirstEntries.{follows_at, possible_before}
use Rattle.smil_past.proofs.past.Past.revised_by.Goals as goal

pub begun_anew-requires-clause-places : goal.begun_anew-requires-clause-places
begun_anew-requires-clause-places c =
    let same : c.in_ok-places.places.value ≡ c.in_ok-shared.shared.value = search rules in
    subst (λ table. IsIndex (serials (elements c.tree-2.result.now.nodes)) (get table)) same
    (subst (λ (d : Document). IsIndex (serials (elements d.nodes)) (get c.in_ok-places.places.value)) (c.tree.ensures ∙ sym c.tree-2.ensures) c.in_ok-places.ensures)

pub begun_anew-requires-clause-alike : goal.begun_anew-requires-clause-alike
begun_anew-requires-clause-alike c = λ alike.
    c.requires.alike alike ∙ ap (λ (d : Document). all_reduced d.nodes) (sym c.tree-2.ensures)

pub over-requires-clause-places : goal.over-requires-clause-places
over-requires-clause-places c =
    subst (λ (d : Document). IsIndex (serials (elements d.nodes)) (get c.in_ok-places.places.value)) c.tree.ensures c.in_ok-places.ensures

pub over-requires-clause-nothing : goal.over-requires-clause-nothing
over-requires-clause-nothing c =
    subst (λ (d : Document). TellsNothing d c.args.log c.in_ok-chronicle.chronicle) c.tree-2.ensures
    (IfOk-at_ok (TellsNothing c.tree-2.result.now c.args.log) c.in_ok-chronicle.was (c.begun_anew.ensures c.args.log))

pub over-requires-clause-possible : goal.over-requires-clause-possible
over-requires-clause-possible c = possible_before (document_of c.args.revised.graph) c.args.log c.args.entries.now c.requires.possible

pub push-requires : goal.push-requires
push-requires c =
    let diary = c.args.entries.now in
    let i = c.loop-entry.entry-index in
    let y = get_or diary i no_entry in
    subst (λ (v : MarkedHistory). MayFollow v y) (sym c.loop-entry.invariant)
    (follows_at (document_of c.args.revised.graph) c.args.log diary i y c.requires.possible (slice_get-get_or diary i no_entry c.loop-entry-test.true))

pub loop-entry-preserved : goal.loop-entry-preserved
loop-entry-preserved c =
    let diary = c.args.entries.now in
    let i = c.loop-entry.entry-index in
    let y = get_or diary i no_entry in
    c.in_ok-push.ensures
    ∙ ap (λ (v : MarkedHistory). with_diary v (v.diary ++ y ∷ [])) c.loop-entry.invariant
    ∙ ap (λ (ds : List Entry). record { document = document_of c.args.revised.graph; log = c.args.log; diary = ds; marked = None })
    (sym (take-more_at diary i y (slice_get-get_or diary i no_entry c.loop-entry-test.true)))

pub returns : goal.returns
returns c =
    c.loop-entry.invariant
    ∙ ap (λ (ds : List Entry). record { document = document_of c.args.revised.graph; log = c.args.log; diary = ds; marked = None }) (take_all c.loop-entry.entry-index c.args.entries.now c.loop-entry-test.false)
