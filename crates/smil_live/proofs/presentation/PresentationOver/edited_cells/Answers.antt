use Rattle.std.proofs.Common.{◌≡◌, ◌∙◌, sym, ap, subst, ℕ}
use Rattle.std.specs.Prelude.{IfErr, IfOk, OnOk, ◌-◌, ◌≤◌}
use Rattle.smil_model.specs.document.Document.{Document}
use Rattle.smil_model.specs.document.Valid.{IsValid}
use Rattle.smil_model.specs.shown.Orders.{IsState, Presentation}
use Rattle.smil_graph.specs.Graph.{document_of}
use Rattle.smil_graph.specs.Reduced.{all_reduced}
use Rattle.smil_cells.specs.CellsState.{WhereTold}
use Rattle.smil_live.specs.Counts.{least_loading}
use Rattle.smil_live.specs.Moves.{IsReplayed, IsTooFull}
use Rattle.smil_live.specs.Sites.{IsMade, staying}
use Rattle.smil_live.specs.Texts.{current}
use Rattle.smil_live.proofs.AgreedCells.{IsEditedAt, edited_count, edited_is, edited_rebuild, edited_stands, edited_way}
use Rattle.smil_live.proofs.EditedPresentations.{edited_state, on_ok_always}
use Rattle.smil_live.proofs.TextReferences.{reduced_same}
use Rattle.smil_live.proofs.TextsApart.{cells_playing, cells_with, rebuilds_own, rebuilt_with}
use Rattle.smil_live.proofs.presentation.PresentationOver.edited_cells.Given.{Over}
use Rattle.smil_live.proofs.presentation.PresentationOver.edited_cells.Goals as goal
use Rattle.smil_live.proofs.presentation.PresentationOver.edited_cells.Goals.{In_ok-len}

-- the edited copy, and how many entries are kept by the edit
edit : (g : Over) (c : In_ok-len g) → IsEditedAt (cells_with c.self.inside.viewer.cells c.self.inside.edited) c.self.inside.viewer.seen c.args.self.now (document_of c.in_ok-revised.revised.graph) c.args.edited c.args.site c.in_ok-len.len
edit g c =
    let same = c.in_ok-revised.ensures.document in
    record {
      is = cells_playing c.self.inside.viewer.cells c.self.inside.viewer.seen c.self.inside.edited c.self.invariant;
      view = c.self.view_is;
      same = same;
      valid = subst IsValid (sym same) c.valid.ensures;
      made = c.requires;
      count = subst (λ (x : Document). c.in_ok-len.len ≡ staying c.args.self.now x c.args.site) same c.in_ok-len.ensures;
    }

pub cells_with-requires-clause-state : goal.cells_with-requires-clause-state
cells_with-requires-clause-state g c = edited_stands (edit g (goal.at.cells_with-requires-clause-state g c).In_ok-len)

pub cells_with-requires-clause-rebuild : goal.cells_with-requires-clause-rebuild
cells_with-requires-clause-rebuild g c = rebuilds_own c.self.inside.viewer.cells c.self.inside.edited (edited_rebuild (edit g (goal.at.cells_with-requires-clause-rebuild g c).In_ok-len))

pub cells_with-requires-clause-way : goal.cells_with-requires-clause-way
cells_with-requires-clause-way g c = λ t rebuilt.
    edited_way (edit g (goal.at.cells_with-requires-clause-way g c).In_ok-len) t (rebuilt_with c.self.inside.viewer.cells c.self.inside.edited rebuilt)

pub cells_with-requires-clause-alike : goal.cells_with-requires-clause-alike
cells_with-requires-clause-alike g c alike =
    let made = c.self.inside.viewer.cells.presentation.document in
    reduced_same made.nodes (current made c.self.inside.edited).nodes c.self.invariant.differ
    ∙ (ap (λ (p : Presentation). all_reduced p.document.nodes) c.self.view_is ∙ c.in_ok-revised.ensures.alike alike)

pub returns-clause-state : goal.returns-clause-state
returns-clause-state g c =
    on_ok_always c.cells_with.result (edited_state c.args.self.now c.args.edited (subst IsState c.self.view_is (cells_playing c.self.inside.viewer.cells c.self.inside.viewer.seen c.self.inside.edited c.self.invariant).shown_is.state) c.valid.ensures)

pub returns-clause-ok : goal.returns-clause-ok
returns-clause-ok g c =
    subst (λ (q : Presentation). IfOk c.cells_with.result (IsReplayed q))
    (edited_is (edit g (goal.at.returns-clause-ok g c).In_ok-len))
    c.cells_with.ensures.ok

pub returns-clause-refused : goal.returns-clause-refused
returns-clause-refused g c =
    subst (λ (q : Presentation). IfErr c.cells_with.result (IsTooFull q))
    (edited_is (edit g (goal.at.returns-clause-refused g c).In_ok-len))
    c.cells_with.ensures.refused

pub returns-clause-most : goal.returns-clause-most
returns-clause-most g c =
    subst (λ (n : ℕ). OnOk c.cells_with.result (WhereTold g.T.Table.counts (c.cells_with.new.steps - c.args.steps.now ≤ n)))
    (edited_count (edit g (goal.at.returns-clause-most g c).In_ok-len))
    c.cells_with.ensures.most

pub returns-clause-least : goal.returns-clause-least
returns-clause-least g c =
    subst (λ (q : Presentation). OnOk c.cells_with.result (WhereTold g.T.Table.counts (least_loading q ≤ c.cells_with.new.steps - c.args.steps.now)))
    (edited_is (edit g (goal.at.returns-clause-least g c).In_ok-len))
    c.cells_with.ensures.least

pub staying-requires-clause-made : goal.staying-requires-clause-made
staying-requires-clause-made g c =
    subst (λ (x : Document). IsMade c.args.self.now.document c.args.site x) (sym c.in_ok-revised.ensures.document) c.requires

pub staying-requires-clause-alike : goal.staying-requires-clause-alike
staying-requires-clause-alike g c = c.in_ok-revised.ensures.alike
