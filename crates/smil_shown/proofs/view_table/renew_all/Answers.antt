use Rattle.std.proofs.Common.{◌≡◌, sym, ◌∙◌, ap, subst, ◌≤◌, ◌<◌, ◌++◌, ◌∷◌, [], List, ℕ, length, map, take, arith}
use Rattle.std.proofs.lemmas.List.{length-map, length-set, take_all, take_more_set, get_or-map}
use Rattle.std.proofs.Math.Seq.{map-set_same}
use Rattle.smil_model.specs.declared.document.Node.{Node}
use Rattle.smil_model.specs.declared.view.View.{View}
use Rattle.smil_model.specs.document.Document.{elements}
use Rattle.smil_instances.proofs.ListsMade.{map_next}
use Rattle.smil_tree.proofs.AttributesChanged.{serial_of as own_serial}
use Rattle.smil_shown.specs.ViewTable.{owners, view_now}
use Rattle.smil_shown.proofs.AllViews.{IsElementAt, element_at}
use Rattle.smil_shown.proofs.view_table.renew_all.Given.{Over}
use Rattle.smil_shown.proofs.view_table.renew_all.Goals as goal
use Rattle.smil_shown.proofs.view_table.renew_all.Goals.{After-index}

-- the element whose turn it is
turn : (g : Over) (c : After-index g) → c.loop-place.place < length c.loop-place.rows.items → IsElementAt c.args.cells.now.presentation.document.nodes c.loop-place.place c.index.result.now.serial
turn g c less =
    let rows = c.loop-place.rows.items in
    let i = c.loop-place.place in
    subst (IsElementAt c.args.cells.now.presentation.document.nodes i)
    (get_or-map (λ (v : View). v.serial) rows i c.index.result.now 0 less ∙ ap (λ (v : View). v.serial) (sym c.index.ensures))
    (element_at c.args.cells.now.presentation.document.nodes (owners rows) i c.requires.state.document.numbered.distinct c.loop-place.invariant.owned
    (subst (λ n. i < n) (sym (length-map rows (λ (v : View). v.serial))) less))

pub view_in-requires-clause-element : goal.view_in-requires-clause-element
view_in-requires-clause-element g c =
    let less : c.loop-place.place < length c.loop-place.rows.items = omega (arith, c.len-place-end.ensures, c.loop-place-test.true, c.loop-place.invariant.count) in
    let e = turn g (goal.at.view_in-requires-clause-element g c).After-index less in
    (e.element, e.found)

pub loop-place-preserved : goal.loop-place-preserved
loop-place-preserved g c =
    let s = c.args.cells.now in
    let es = elements s.presentation.document.nodes in
    let rows = c.loop-place.rows.items in
    let i = c.loop-place.place in
    let less : c.loop-place.place < length c.loop-place.rows.items = omega (arith, c.len-place-end.ensures, c.loop-place-test.true, c.loop-place.invariant.count) in
    let e = turn g (goal.at.loop-place-preserved g c).After-index less in
    let view = c.view_in.result in
    let is : view ≡ view_now s e.element = c.view_in.ensures e.element e.found in
    record {
      taken =
          take_more_set rows i view less
          ∙ ap (λ (l : List View). l ++ view ∷ []) c.loop-place.invariant.taken
          ∙ ap (λ (v : View). map (view_now s) (take i es) ++ v ∷ []) is
          ∙ sym (map_next (view_now s) es i e.element e.at);
      owned =
          map-set_same (λ (v : View). v.serial) rows i view c.index.result.now
          (ap (λ (v : View). v.serial) is ∙ own_serial es c.index.result.now.serial e.element e.found ∙ ap (λ (v : View). v.serial) c.index.ensures)
          ∙ c.loop-place.invariant.owned;
      count = length-set rows i view ∙ c.loop-place.invariant.count;
    }

pub returns : goal.returns
returns g c =
    let s = c.args.cells.now in
    let es = elements s.presentation.document.nodes in
    let rows = c.loop-place.rows.items in
    let past : length rows ≤ c.loop-place.place = omega (arith, c.len-place-end.ensures, c.loop-place-test.false, c.loop-place.invariant.count) in
    let same : length rows ≡ length es =
    sym (length-map rows (λ (v : View). v.serial)) ∙ ap (λ (l : List ℕ). length l) c.loop-place.invariant.owned ∙ length-map es (λ (n : Node). n.serial) in
    sym (take_all c.loop-place.place rows past) ∙ c.loop-place.invariant.taken
    ∙ ap (map (view_now s)) (take_all c.loop-place.place es (subst (λ n. n ≤ c.loop-place.place) same past))
