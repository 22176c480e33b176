use Rattle.std.proofs.Common.{ap}
use Rattle.smil_model.specs.declared.diary.Step.{Step}
use Rattle.smil_past.specs.Past.{history_of}
use Rattle.smil_cells.specs.Evaluated.{acts_on}
use Rattle.smil_cells.specs.Shown.{shows_from}
use Rattle.smil_cells.proofs.ElementsPut.{put_none}
use Rattle.smil_cells.proofs.touched.touch_step.Goals as goal

pub returns-in-Logged : goal.returns-in-Logged
returns-in-Logged c =
    let h = history_of c.args.past.now in
    put_none h.nodes (shows_from h c.args.step (acts_on c.args.step)) c.args.touched.now
    (λ s. ap (λ (step : Step). shows_from h step (acts_on step) s) c.in-Logged.is)
