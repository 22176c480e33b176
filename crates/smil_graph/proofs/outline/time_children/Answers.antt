use Rattle.std.proofs.Common.{◌≡◌, ◌∙◌, ◌∷◌, ◌++◌, sym, ap, true, false, [], length, arith, rules, cond, Some}
use Rattle.std.specs.Prelude.{◌&&◌, slice_get, option_copied}
use Rattle.smil_model.specs.document.Document.{is_element}
use Rattle.smil_model.specs.reach.Reach.{is_option}
use Rattle.smil_graph.specs.Links.{row}
use Rattle.smil_graph.specs.Places.{has_element, is_element_at, up}
use Rattle.smil_graph.proofs.GraphTables.{under_known}
use Rattle.smil_graph.proofs.RowsTurned.{filter_more}
use Rattle.smil_graph.proofs.outline.time_children.Goals as goal
use Rattle.smil_graph.proofs.outline.time_children.Goals.{then-is_element+in_ok-push_under, else-is_element}

pub push_under-requires : goal.push_under-requires
push_under-requires c =
    rw c.loop-place.invariant.count
    (under_known c.args.tree.now.nodes c.args.time_parents.now c.requires c.loop-place.place c.place_at.result c.place_at.ensures
    (omega (arith, c.len-place-end.ensures, c.loop-place-test.true)))

pub loop-place-preserved : goal.loop-place-preserved
loop-place-preserved c =
    let place = c.loop-place.place in
    let node = c.unwrap-node.result.now in
    let at : slice_get c.args.tree.now.nodes place ≡ Some node = sym c.at.ensures ∙ ap option_copied c.unwrap-node.ensures in
    let kind : is_element_at c.args.tree.now.nodes place ≡ is_element node = ap has_element at in
    elim c.if-is_element.branch [
      | then-is_element+in_ok-push_under w ↦
          let element : is_element node ≡ true = search rules in
          rw w.rows-is (record {
            count = w.in_ok-push_under.ensures.count ∙ c.loop-place.invariant.count;
            rows = λ q.
                filter_more (λ p. is_element_at c.args.tree.now.nodes p && is_option q (up c.args.time_parents.now p)) place (row c.loop-place.rows.items q) (row w.push_under.new.rows.items q) (c.loop-place.invariant.rows q)
                (w.in_ok-push_under.ensures.rows q
                ∙ ap (λ o. cond (is_option q o) (row c.loop-place.rows.items q ++ place ∷ []) (row c.loop-place.rows.items q)) w.place_at.ensures
                ∙ ap (λ t. cond (t && is_option q (up c.args.time_parents.now place)) (row c.loop-place.rows.items q ++ place ∷ []) (row c.loop-place.rows.items q)) (sym (kind ∙ element)));
          })
      | else-is_element w ↦
          let other : is_element node ≡ false = search rules in
          rw w.rows-is (record {
            count = c.loop-place.invariant.count;
            rows = λ q.
                filter_more (λ p. is_element_at c.args.tree.now.nodes p && is_option q (up c.args.time_parents.now p)) place (row c.loop-place.rows.items q) (row c.loop-place.rows.items q) (c.loop-place.invariant.rows q)
                (ap (λ t. cond (t && is_option q (up c.args.time_parents.now place)) (row c.loop-place.rows.items q ++ place ∷ []) (row c.loop-place.rows.items q)) (sym (kind ∙ other)));
          })
    ]

pub returns-clause-children : goal.returns-clause-children
returns-clause-children c =
    let end : c.loop-place.place ≡ length c.args.tree.now.nodes = omega (arith, c.len-place-end.ensures, c.loop-place-test.false, c.loop-place.auto.place-end) in
    rw end at c.loop-place.invariant.rows
