use Rattle.std.proofs.Common.{◌≡◌, ◌∙◌, ap, ◌≤◌, List, length, map, arith}
use Rattle.std.specs.Prelude.{is_some}
use Rattle.std.proofs.lemmas.List.{length-map, take_all}
use Rattle.smil_model.specs.declared.interval.ChildEnd.{ChildEnd}
use Rattle.smil_model.specs.document.Document.{elements, node_at, time_children}
use Rattle.smil_rounds.specs.declared.current_rows.CurrentRow.{CurrentRow}
use Rattle.smil_nodes.specs.Endings.{named_end, named_ends}
use Rattle.smil_nodes.proofs.EndingPlaces.{ends_next, few_children, rowed_in, rows_count}
use Rattle.smil_nodes.proofs.endings.ends_of.Goals as goal

pub ends_below-requires : goal.ends_below-requires
ends_below-requires c =
    ap (λ (r : CurrentRow). is_some (node_at (elements c.args.tree.now.nodes) r.serial)) c.row-item.is
    ∙ ap is_some (rowed_in c.args.tree.now.nodes c.args.schedule.now c.rows-row-items.result.now c.loop-row.row-index c.row-item.result c.valid.ensures.numbered.distinct c.requires c.rows-row-items.ensures c.loop-row-test.true).known

pub loop-row-preserved : goal.loop-row-preserved
loop-row-preserved c =
    let nodes = c.args.tree.now.nodes in
    let is = rowed_in nodes c.args.schedule.now c.rows-row-items.result.now c.loop-row.row-index c.row-item.result c.valid.ensures.numbered.distinct c.requires c.rows-row-items.ensures c.loop-row-test.true in
    ends_next nodes c.loop-row.ends.items c.push.new.self.items c.loop-row.row-index _ c.in_ok-ends_below.field-0 is c.loop-row.invariant
    (c.in_ok-ends_below.ensures is.element (ap (λ (r : CurrentRow). node_at (elements nodes) r.serial) c.row-item.is ∙ is.known)) c.in_ok-push.ensures.items

pub returns : goal.returns
returns c =
    let nodes = c.args.tree.now.nodes in
    let many : length c.args.schedule.now ≡ length (elements nodes) = rows_count nodes c.args.schedule.now c.requires in
    let count : length c.rows-row-items.result.now ≡ length c.args.schedule.now = ap length c.rows-row-items.ensures in
    let whole : length (elements nodes) ≤ c.loop-row.row-index = omega (arith, many, count, c.loop-row-test.false) in
    c.loop-row.invariant ∙ ap (map (named_ends nodes)) (take_all c.loop-row.row-index (elements nodes) whole)
