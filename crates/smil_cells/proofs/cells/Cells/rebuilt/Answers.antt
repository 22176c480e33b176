use Rattle.std.proofs.Common.{◌∙◌, sym, subst, length, ◌-◌, ◌≤◌}
use Rattle.std.specs.Prelude.{IfOk}
use Rattle.smil_model.specs.document.Document.{Document, elements}
use Rattle.smil_cells.specs.CellsState.{CellsState, IsRebuilt, MayRebuild, WhereTold, any_interval, interval_at}
use Rattle.smil_cells.proofs.cells.Cells.rebuilt.Goals as goal

pub rebuilt_over-requires-clause-rebuild : goal.rebuilt_over-requires-clause-rebuild
rebuilt_over-requires-clause-rebuild g c =
    subst (λ (d : Document). MayRebuild c.args.self.now d c.args.len) (sym (c.in_ok-graph.ensures ∙ c.in_ok-tree.ensures)) c.requires

pub returns-clause-rebuilt : goal.returns-clause-rebuilt
returns-clause-rebuilt g c =
    subst (λ (d : Document). IfOk c.rebuilt_over.result (IsRebuilt c.args.self.now d c.args.len)) (c.in_ok-graph.ensures ∙ c.in_ok-tree.ensures) c.rebuilt_over.ensures.rebuilt

pub returns-clause-most : goal.returns-clause-most
returns-clause-most g c =
    subst (λ (d : Document). WhereTold g.T.Table.counts (c.rebuilt_over.new.steps - c.args.steps.now ≤ length (elements d.nodes))) (c.in_ok-graph.ensures ∙ c.in_ok-tree.ensures) c.rebuilt_over.ensures.most

pub returns-clause-least : goal.returns-clause-least
returns-clause-least g c =
    subst (λ (d : Document). IfOk c.rebuilt_over.result (λ (cells : CellsState). WhereTold g.T.Table.counts (any_interval d.nodes (interval_at cells) ≤ c.rebuilt_over.new.steps - c.args.steps.now))) (c.in_ok-graph.ensures ∙ c.in_ok-tree.ensures) c.rebuilt_over.ensures.least
