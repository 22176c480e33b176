use Rattle.std.proofs.Common.{◌≡◌, ◌∙◌, ap, pos, List}
use Rattle.std.specs.Prelude.{option_map}
use Rattle.smil_model.specs.happening.Keys.{DueChange, coming, first_coming}
use Rattle.smil_cells.specs.CellsState.{history_of}
use Rattle.smil_live.proofs.QuietAdvance.{next_told, quiet_told}
use Rattle.smil_live.proofs.TextsApart.{cells_playing, cells_with, coming_with}
use Rattle.smil_live.proofs.presentation.PresentationOverPlayer.next_due.Given.{Over}
use Rattle.smil_live.proofs.presentation.PresentationOverPlayer.next_due.Goals as goal
use Rattle.smil_live.proofs.presentation.PresentationOverPlayer.next_due.Goals.{After-next_due}

-- what comes next is the same by the document
told : (g : Over) (c : After-next_due g) → c.next_due.result ≡ option_map (λ (x : DueChange). x.key.value)
    (first_coming (coming (history_of (cells_with c.self.inside.viewer.cells c.self.inside.edited)) (pos c.self.inside.viewer.cells.presentation.now)))
told g c =
    c.next_due.ensures
    ∙ ap (λ (comes : List DueChange). option_map (λ (x : DueChange). x.key.value) (first_coming comes)) (coming_with c.self.inside.viewer.cells c.self.inside.viewer.seen c.self.inside.edited c.self.invariant)

pub returns-clause-next : goal.returns-clause-next
returns-clause-next g c =
    next_told (cells_with c.self.inside.viewer.cells c.self.inside.edited) c.self.inside.viewer.seen c.args.self.now
    (cells_playing c.self.inside.viewer.cells c.self.inside.viewer.seen c.self.inside.edited c.self.invariant) c.self.view_is (told g (goal.at.returns-clause-next g c).After-next_due)

pub returns-clause-quiet : goal.returns-clause-quiet
returns-clause-quiet g c =
    quiet_told (cells_with c.self.inside.viewer.cells c.self.inside.edited) c.self.inside.viewer.seen c.args.self.now
    (cells_playing c.self.inside.viewer.cells c.self.inside.viewer.seen c.self.inside.edited c.self.invariant) c.self.view_is (told g (goal.at.returns-clause-quiet g c).After-next_due)
