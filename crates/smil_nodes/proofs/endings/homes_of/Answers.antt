use Rattle.std.proofs.Common.{◌≡◌, ◌∙◌, ap, subst, ◌≤◌, length, arith, List}
use Rattle.std.specs.Prelude.{is_some}
use Rattle.std.proofs.lemmas.List.{take_all}
use Rattle.smil_model.specs.declared.document.Node.{Node}
use Rattle.smil_model.specs.document.Document.{elements, node_at}
use Rattle.smil_rounds.specs.declared.current_rows.CurrentRow.{CurrentRow}
use Rattle.smil_nodes.specs.Endings.{HasHome, HaveHomes}
use Rattle.smil_nodes.proofs.EndingPlaces.{homes_next, rowed_in, rows_count}
use Rattle.smil_nodes.proofs.endings.homes_of.Goals as goal

pub home_of-requires-clause-element : goal.home_of-requires-clause-element
home_of-requires-clause-element c =
    ap (λ (r : CurrentRow). is_some (node_at (elements c.args.tree.now.nodes) r.serial)) c.row-item.is
    ∙ ap is_some (rowed_in c.args.tree.now.nodes c.args.schedule.now c.rows-row-items.result.now c.loop-row.row-index c.row-item.result c.valid.ensures.numbered.distinct c.requires c.rows-row-items.ensures c.loop-row-test.true).known

pub loop-row-preserved : goal.loop-row-preserved
loop-row-preserved c = (
  homes_next c.args.tree.now.nodes c.loop-row.homes.items c.push.new.self.items c.loop-row.row-index _ c.home_of.result
      (rowed_in c.args.tree.now.nodes c.args.schedule.now c.rows-row-items.result.now c.loop-row.row-index c.row-item.result c.valid.ensures.numbered.distinct c.requires c.rows-row-items.ensures c.loop-row-test.true)
      c.loop-row.invariant.0 (subst (λ (r : CurrentRow). HasHome c.args.tree.now.nodes r.serial c.home_of.result) c.row-item.is c.home_of.ensures.home) c.in_ok-push.ensures.items,
  c.home_of.ensures.nexts ∙ c.loop-row.invariant.1,
)

pub returns : goal.returns
returns c =
    let nodes = c.args.tree.now.nodes in
    let many : length c.args.schedule.now ≡ length (elements nodes) = rows_count nodes c.args.schedule.now c.requires in
    let count : length c.rows-row-items.result.now ≡ length c.args.schedule.now = ap length c.rows-row-items.ensures in
    let whole : length (elements nodes) ≤ c.loop-row.row-index = omega (arith, many, count, c.loop-row-test.false) in
    subst (λ (es : List Node). HaveHomes nodes es c.loop-row.homes.items) (take_all c.loop-row.row-index (elements nodes) whole) c.loop-row.invariant.0
