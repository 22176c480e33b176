use Rattle.std.proofs.Common.{◌≡◌, ◌∙◌, sym, ap, true, false, length, arith, rules, Some}
use Rattle.std.specs.Prelude.{slice_get, option_copied}
use Rattle.smil_model.specs.document.Document.{is_element}
use Rattle.smil_graph.specs.Places.{has_element}
use Rattle.smil_graph.proofs.ElementOrder.{ranks_more}
use Rattle.smil_graph.proofs.ordered.ranks.Goals as goal
use Rattle.smil_graph.proofs.ordered.ranks.Goals.{then-is_element+in_ok-push, else-is_element}

pub loop-place-preserved : goal.loop-place-preserved
loop-place-preserved c =
    let place = c.loop-place.place in
    let node = c.unwrap-node.result.now in
    let at : slice_get c.args.tree.now.nodes place ≡ Some node = sym c.at.ensures ∙ ap option_copied c.unwrap-node.ensures in
    elim c.if-is_element.branch [
      | then-is_element+in_ok-push w ↦
          let element : is_element node ≡ true = search rules in
          rw w.ranks-is (rw w.in_ok-push.ensures.items (rw (w.number_at-level.ensures, w.number_at-height.ensures) (ranks_more c.args.tree.now.nodes c.args.levels.now c.args.heights.now c.loop-place.ranks.items place c.loop-place.invariant true (ap has_element at ∙ element))))
      | else-is_element w ↦
          let other : is_element node ≡ false = search rules in
          rw w.ranks-is (ranks_more c.args.tree.now.nodes c.args.levels.now c.args.heights.now c.loop-place.ranks.items place c.loop-place.invariant false (ap has_element at ∙ other))
    ]

pub returns : goal.returns
returns c =
    let end : c.loop-place.place ≡ length c.args.tree.now.nodes = omega (arith, c.len-place-end.ensures, c.loop-place-test.false, c.loop-place.auto.place-end) in
    rw end at c.loop-place.invariant
