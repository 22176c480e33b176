use Rattle.std.proofs.Common.{◌≡◌, refl, sym, ◌∙◌, ap, subst, List, rules}
use Rattle.std.specs.Prelude.{◌==◌}
use Rattle.std.specs.FinMap.{get}
use Rattle.std.specs.List.{position}
use Rattle.smil_model.specs.declared.document.Node.{Node}
use Rattle.smil_model.specs.declared.view.View.{View}
use Rattle.smil_model.specs.diary.Diary.{History}
use Rattle.smil_model.specs.document.Document.{Document, elements, serials}
use Rattle.smil_instances.specs.Spread.{IsIndex}
use Rattle.smil_instances.proofs.SiblingBefore.{distinct_elements}
use Rattle.smil_shown.specs.ViewTable.{AreOne, view_now}
use Rattle.smil_shown.proofs.AllViews.{one_each, view_places}
use Rattle.smil_shown.proofs.view_table.ViewTable.of.Goals as goal

pub views_of-requires-clause-all : goal.views_of-requires-clause-all
views_of-requires-clause-all g c = c.elements.ensures ∙ ap (λ (d : Document). serials (elements d.nodes)) c.tree-tree.ensures

pub invariant_of-result : goal.invariant_of-result
invariant_of-result g c =
    let f = view_now c.args.cells.now in
    let nodes = c.args.cells.now.presentation.document.nodes in
    let distinct = c.requires.state.document.numbered.distinct in
    let shared : c.places.result.now.value ≡ c.in_ok-places.places.value = search rules in
    let index =
    subst (λ (ns : List Node). IsIndex (serials (elements ns)) (get c.in_ok-places.places.value)) (ap (λ (h : History). h.nodes) c.past.ensures)
    (subst (λ table. IsIndex (serials (elements c.past.result.now.document.nodes)) (get table)) shared (c.places.ensures c.past.result.now.document.nodes c.syncs.ensures)) in
    record {
      place = λ s. view_places f (λ n. refl) nodes (get c.in_ok-places.places.value) distinct index s ∙ ap (position (λ (v : View). v.serial == s)) (sym c.in_ok-rows.ensures);
      one = subst AreOne (sym c.in_ok-rows.ensures) (one_each f (λ n. refl) (elements nodes) (distinct_elements nodes distinct));
    }
