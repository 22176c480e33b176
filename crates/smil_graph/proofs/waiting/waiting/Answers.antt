use Rattle.std.proofs.Common.{◌≡◌, sym, ◌∙◌, ap, arith, Some}
use Rattle.std.specs.Prelude.{◌&&◌, slice_get, option_copied}
use Rattle.smil_model.specs.document.Document.{is_element}
use Rattle.smil_graph.specs.Links.{row}
use Rattle.smil_graph.specs.Tables.{has_key_item}
use Rattle.smil_graph.proofs.KeyRows.{none_waits, more_waits, waits_is, all_wait}
use Rattle.smil_graph.proofs.waiting.waiting.Goals as goal

pub loop-place-init : goal.loop-place-init
loop-place-init c = none_waits c.args.tree.now.nodes c.new-rows.result.items (λ i. ap (λ rows. row rows i) c.new-rows.ensures.items)

pub loop-place-preserved : goal.loop-place-preserved
loop-place-preserved c =
    let place = c.loop-place.place in
    let node = c.unwrap-node.result.now in
    let at : slice_get c.args.tree.now.nodes place ≡ Some node = sym c.at.ensures ∙ ap option_copied c.unwrap-node.ensures in
    more_waits c.args.tree.now.nodes place (λ key. is_element node && has_key_item key node) c.loop-place.rows.items c.push_waits.new.rows.items c.loop-place.invariant c.in_ok-push_waits.ensures (waits_is c.args.tree.now.nodes (slice_get c.args.tree.now.nodes place) node (sym at))

pub returns : goal.returns
returns c = all_wait c.args.tree.now.nodes c.loop-place.place c.loop-place.rows.items (omega (arith, c.len-place-end.ensures, c.loop-place-test.false, c.loop-place.auto.place-end)) c.loop-place.invariant
