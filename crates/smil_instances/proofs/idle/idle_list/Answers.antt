use Rattle.std.proofs.Common.{◌≡◌, ◌∙◌, sym, ap, List, [], ◌∷◌, ◌++◌, length, map, arith}
use Rattle.std.proofs.lemmas.List.{length-map, take_all}
use Rattle.smil_model.specs.declared.document.Node.{Node}
use Rattle.smil_model.specs.document.Document.{elements}
use Rattle.smil_instance_rows.specs.Rows.{ElementTimes}
use Rattle.smil_instances.specs.SettledTimes.{row_of}
use Rattle.smil_instances.specs.Intake.{history_of}
use Rattle.smil_instances.proofs.EmptyRows.{at_place, element_at}
use Rattle.smil_instances.proofs.ListsMade.{map_next}
use Rattle.smil_instances.proofs.idle.idle_list.Goals as goal

pub idle_row-requires-clause-element : goal.idle_row-requires-clause-element
idle_row-requires-clause-element c =
    let place = c.loop-place.place in
    let here = at_place (elements c.args.tree.now.nodes) c.elements-whos.result.now place c.elements-whos.ensures c.loop-place-test.true in
    record {
      element = here.node;
      here = here.at;
      known = element_at c.args.tree.now c.valid.ensures.numbered place _ here;
      same = sym here.serial;
    }

pub loop-place-preserved : goal.loop-place-preserved
loop-place-preserved c = λ log.
    let es = elements c.args.tree.now.nodes in
    let place = c.loop-place.place in
    let f = row_of (history_of c.args.tree.now log []) in
    let here = at_place es c.elements-whos.result.now place c.elements-whos.ensures c.loop-place-test.true in
    c.in_ok-push.ensures.items
    ∙ ap (λ (r : ElementTimes). c.loop-place.rows.items ++ r ∷ []) (c.in_ok-row.ensures log here.node here.at)
    ∙ ap (λ (rs : List ElementTimes). rs ++ f here.node ∷ []) (c.loop-place.invariant log)
    ∙ sym (map_next f es place here.node here.at)

pub returns : goal.returns
returns c = λ log.
    let es = elements c.args.tree.now.nodes in
    let many : length c.elements-whos.result.now ≡ length es = ap length c.elements-whos.ensures ∙ length-map es (λ (n : Node). n.serial) in
    c.loop-place.invariant log
    ∙ ap (map (row_of (history_of c.args.tree.now log []))) (take_all c.loop-place.place es (omega (arith, many, c.loop-place-test.false)))
