use Rattle.std.proofs.Common.{rules, ◌≡◌, ◌∙◌, ap, get_or, arith, []}
use Rattle.smil_graph.specs.Links.{row}
use Rattle.smil_graph.proofs.SearchInvariant.{first, step, done, few}
use Rattle.smil_graph.proofs.search.search.Goals as goal
use Rattle.smil_graph.proofs.search.search.Goals.{else-loop-next-test, then-loop-next-test+then-next-len}

pub loop-next-init : goal.loop-next-init
loop-next-init c =
    let none : c.new-found.result.keys ≡ [] = search rules in
    rw c.in_ok-insert_all.ensures (rw none (first c.args.rows.now c.args.starts.now c.requires.starts))

pub loop-next-preserved : goal.loop-next-preserved
loop-next-preserved c =
    let here : c.row_at.result.now ≡ row c.args.rows.now (get_or c.loop-next.found.keys c.loop-next.next 0) = c.row_at.ensures ∙ ap (λ xs. row c.args.rows.now (get_or xs c.loop-next.next 0)) c.as_slice.ensures.keys in
    rw c.in_ok-insert_all-2.ensures (rw here (step c.args.rows.now c.args.starts.now c.loop-next.found.keys c.loop-next.next c.requires.rows c.loop-next.invariant (omega arith)))

pub returns : goal.returns
returns c =
    elim c.loop-next-test.branch [
      | else-loop-next-test w ↦ done c.args.rows.now c.args.starts.now c.loop-next.found.keys c.loop-next.next c.loop-next.invariant (omega (arith, few c.args.rows.now c.args.starts.now c.loop-next.found.keys c.loop-next.next c.loop-next.invariant))
      | then-loop-next-test+then-next-len w ↦ done c.args.rows.now c.args.starts.now c.loop-next.found.keys c.loop-next.next c.loop-next.invariant (omega arith)
    ]
