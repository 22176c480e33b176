use Rattle.std.proofs.Common.{◌≡◌, sym, ◌∙◌, ap, ◌<◌, length, slice_index_or, arith, [], true, false, rules}
use Rattle.std.proofs.lemmas.List.{get_or_default}
use Rattle.smil_graph.specs.Links.{row, is_last}
use Rattle.smil_graph.proofs.PlaceLists.{has_get}
use Rattle.smil_graph.proofs.RowsTurned.{stays, pushed}
use Rattle.smil_graph.proofs.turned.push_in_each.Goals as goal
use Rattle.smil_graph.proofs.turned.push_in_each.Goals.{then-not-ends_with+in_ok-push_at, else-not-ends_with}

pub index-requires : goal.index-requires
index-requires c = omega (arith, c.requires _ (has_get c.args.listed.now c.loop-at.at-index (omega arith)), c.loop-at.invariant.count)

pub push_at-requires : goal.push_at-requires
push_at-requires c = omega (arith, c.requires _ (has_get c.args.listed.now c.loop-at.at-index (omega arith)), c.loop-at.invariant.count)

pub loop-at-preserved : goal.loop-at-preserved
loop-at-preserved c =
    let low : slice_index_or c.args.listed.now c.loop-at.at-index 0 < length c.args.rows.now.items = c.requires _ (has_get c.args.listed.now c.loop-at.at-index (omega arith)) in
    let low_now : slice_index_or c.args.listed.now c.loop-at.at-index 0 < length c.loop-at.rows.items = omega (arith, low, c.loop-at.invariant.count) in
    let here : c.slice.result.now ≡ row c.loop-at.rows.items (slice_index_or c.args.listed.now c.loop-at.at-index 0) = c.slice.ensures ∙ (c.index.ensures ∙ get_or_default c.loop-at.rows.items (slice_index_or c.args.listed.now c.loop-at.at-index 0) _ [] low_now) in
    let ends : c.ends_with.result ≡ is_last (row c.loop-at.rows.items (slice_index_or c.args.listed.now c.loop-at.at-index 0)) c.args.place = c.ends_with.ensures ∙ ap (λ r. is_last r c.args.place) here in
    elim c.if-not-ends_with.branch [
      | then-not-ends_with+in_ok-push_at w ↦
          let no : c.ends_with.result ≡ false = search rules in
          rw w.rows-is (rw w.in_ok-push_at.ensures (pushed c.args.rows.now.items c.loop-at.rows.items c.args.listed.now c.loop-at.at-index c.args.place c.loop-at-test.true c.loop-at.invariant low (sym ends ∙ no)))
      | else-not-ends_with w ↦
          let yes : c.ends_with.result ≡ true = search rules in
          rw w.rows-is (stays c.args.rows.now.items c.loop-at.rows.items c.args.listed.now c.loop-at.at-index c.args.place c.loop-at-test.true c.loop-at.invariant (sym ends ∙ yes))
    ]
