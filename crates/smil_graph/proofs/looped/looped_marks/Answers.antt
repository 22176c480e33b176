use Rattle.std.proofs.Common.{◌≡◌, sym, ◌∙◌, ap, length, arith, ℕ, List, Option, Some}
use Rattle.std.specs.Prelude.{bytes_eq, slice_get, option_copied}
use Rattle.std.specs.HashMap.{get_by}
use Rattle.smil_graph.specs.Places.{marks_of}
use Rattle.smil_graph.proofs.LoopMarks.{marks_are}
use Rattle.smil_graph.proofs.RowsBuilt.{marked_element, marked_class, marked_step}
use Rattle.smil_graph.proofs.looped.looped_marks.Goals as goal
use Rattle.smil_graph.proofs.looped.looped_marks.Goals.{then-is_element+in_ok-push_marks, else-is_element}

pub loop-place-preserved : goal.loop-place-preserved
loop-place-preserved c =
    let place = c.loop-place.place in
    let node = c.unwrap-node.result.now in
    let levels = c.args.loops.now.levels.now in
    let named : List ℕ → Option ℕ = λ id. get_by (λ k. bytes_eq id k.now) c.args.loops.now.ids.now in
    let at : slice_get c.args.tree.now.nodes place ≡ Some node = sym c.at.ensures ∙ ap option_copied c.unwrap-node.ensures in
    let each : c.if-is_element.row ≡ marks_of c.args.side levels named place (Some node) =
    elim c.if-is_element.branch [
      | then-is_element+in_ok-push_marks w ↦
          rw w.row-is (marked_element c.args.side levels named place node (option_copied w.list.result) c.new-row.result w.push_marks.new.row (sym c.is_element.ensures ∙ w.if-is_element.true) c.new-row.ensures w.list.ensures w.in_ok-push_marks.ensures)
      | else-is_element w ↦ rw w.row-is (marked_class c.args.side levels named place node c.new-row.result (sym c.is_element.ensures ∙ w.if-is_element.false) c.new-row.ensures)
    ] in
    rw (c.in_ok-push.ensures.ok, c.slice.ensures) (marked_step c.args.side levels named place node c.args.tree.now.nodes c.loop-place.rows c.if-is_element.row at each c.loop-place.invariant)

pub returns : goal.returns
returns c =
    let end : c.loop-place.place ≡ length c.args.tree.now.nodes = omega (arith, c.len-place-end.ensures, c.loop-place-test.false, c.loop-place.auto.place-end) in
    marks_are c.args.tree.now.nodes c.requires.distinct (λ id. get_by (λ k. bytes_eq id k.now) c.args.loops.now.ids.now) c.requires.ids c.args.loops.now.levels.now c.requires.levels c.args.side c.loop-place.rows (rw end at c.loop-place.invariant)
