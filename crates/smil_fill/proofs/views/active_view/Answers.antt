use Rattle.std.proofs.Common.{◌∙◌, ap, sym}
use Rattle.smil_model.specs.declared.view.Shown.TheVariants as shown
use Rattle.smil_model.specs.shown.Views.{shown_or}
use Rattle.smil_fill.specs.Current.{playing_state}
use Rattle.smil_fill.proofs.ViewParts.{active_told}
use Rattle.smil_fill.proofs.views.active_view.Goals as goal

pub returns : goal.returns
returns c = λ f is on paused begun.
    c.view_in.ensures
    ∙ active_told c.args.current.now f is on c.playing_state.result c.settled.result c.present_end.result
    (c.playing_state.ensures ∙ ap playing_state (sym paused))
    (c.settled.ensures ∙ ap (shown_or shown.At) (sym begun))
    (c.present_end.ensures f is)
