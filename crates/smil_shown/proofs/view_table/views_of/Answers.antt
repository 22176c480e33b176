use Rattle.std.proofs.Common.{sym, ◌∙◌, ap, ◌≤◌, ◌++◌, ◌∷◌, [], List, length, map, arith}
use Rattle.std.proofs.lemmas.List.{length-map, take_all}
use Rattle.smil_model.specs.declared.document.Node.{Node}
use Rattle.smil_model.specs.declared.view.View.{View}
use Rattle.smil_model.specs.document.Document.{elements}
use Rattle.smil_instances.proofs.ListsMade.{map_next}
use Rattle.smil_shown.specs.ViewTable.{view_now}
use Rattle.smil_shown.proofs.AllViews.{element_at}
use Rattle.smil_shown.proofs.view_table.views_of.Goals as goal

pub view_in-requires-clause-element : goal.view_in-requires-clause-element
view_in-requires-clause-element g c =
    let e = element_at c.args.cells.now.presentation.document.nodes c.args.whos.now c.loop-who.who-index c.requires.state.document.numbered.distinct c.requires.all c.loop-who-test.true in
    (e.element, e.found)

pub loop-who-preserved : goal.loop-who-preserved
loop-who-preserved g c =
    let s = c.args.cells.now in
    let nodes = s.presentation.document.nodes in
    let e = element_at nodes c.args.whos.now c.loop-who.who-index c.requires.state.document.numbered.distinct c.requires.all c.loop-who-test.true in
    c.in_ok-push.ensures.items ∙ ap (λ (v : View). c.loop-who.views.items ++ v ∷ []) (c.view_in.ensures e.element e.found)
    ∙ ap (λ (vs : List View). vs ++ view_now s e.element ∷ []) c.loop-who.invariant
    ∙ sym (map_next (view_now s) (elements nodes) c.loop-who.who-index e.element e.at)

pub returns : goal.returns
returns g c =
    let s = c.args.cells.now in
    let es = elements s.presentation.document.nodes in
    let same = ap (λ ss. length ss) c.requires.all ∙ length-map es (λ (n : Node). n.serial) in
    let all : length es ≤ c.loop-who.who-index = omega (arith, same) in
    c.loop-who.invariant ∙ ap (map (view_now s)) (take_all c.loop-who.who-index es all)
