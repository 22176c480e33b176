use Rattle.std.proofs.Common.{◌∙◌, ap}
use Rattle.std.specs.Prelude.{pos}
use Rattle.smil_model.specs.happening.Keys.{first_coming}
use Rattle.smil_cells.specs.CellsState.{history_of}
use Rattle.smil_element.specs.Comings.{coming_stays}
use Rattle.smil_cells.proofs.cells.Cells.come_to.Goals as goal

pub returns-then-self-coming-clause-first : goal.returns-then-self-coming-clause-first
returns-then-self-coming-clause-first g c =
    ap first_coming (coming_stays (history_of c.args.self.now) (history_of c.pass_to.new.self) (pos c.args.self.now.presentation.now) (pos c.pass_to.new.self.presentation.now) c.pass_to.ensures.same)
    ∙ c.requires.first
