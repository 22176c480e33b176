-- The view of an active element, by its state and times.
use Rattle.std.proofs.Common.{◌≡◌, refl, sym, ◌∙◌, ap, Bool, true, false}
use Rattle.std.specs.Prelude.{cond, is_some}
use Rattle.smil_model.specs.declared.interval.Interval.{Interval}
use Rattle.smil_model.specs.declared.view.Shown.{Shown}
use Rattle.smil_model.specs.declared.view.Shown.TheVariants as shown
use Rattle.smil_model.specs.declared.view.State.{State}
use Rattle.smil_model.specs.declared.view.State.TheVariants as state
use Rattle.smil_model.specs.declared.view.View.{View}
use Rattle.smil_model.specs.declared.view.ViewFacts.{ViewFacts}
use Rattle.smil_model.specs.shown.Views.{is_frozen_by, resting_state, shown_begin, shown_end, shown_or, shown_time, view_by}
use Rattle.smil_fill.specs.Current.{AreCurrent, playing_state, view_in}
use Rattle.smil_fill.specs.declared.views.CurrentFacts.{CurrentFacts}

abbrev view_of : ViewFacts → State → View
view_of f s = record { serial = f.serial; state = s; begin = shown_begin f s; «end» = shown_end f s; iteration = f.iteration; finished = f.finished }

playing_begin : (f : ViewFacts) (paused : Bool) → shown_or shown.At f.begun ≡ shown_begin f (playing_state paused)
playing_begin f true = refl
playing_begin f false = refl

playing_end : (f : ViewFacts) (paused : Bool) → shown_or (λ (i : Interval). shown_time f i.«end») f.interval ≡ shown_end f (playing_state paused)
playing_end f true = refl
playing_end f false = refl

pub active_told : (c : CurrentFacts) (f : ViewFacts) → AreCurrent c f → f.active ≡ true → (s : State) (b n : Shown) → s ≡ playing_state f.paused → b ≡ shown_or shown.At f.begun → n ≡ shown_or (λ (i : Interval). shown_time f i.«end») f.interval → view_in c s b n ≡ view_by f
active_told c f is on s b n state_is begin_is end_is =
    rw (sym is.serial, sym is.iteration, sym is.finished, state_is, begin_is ∙ playing_begin f f.paused, end_is ∙ playing_end f f.paused) refl
    ∙ sym (ap (λ a. view_of f (cond a (playing_state f.paused) (cond (is_some f.deferred) state.Deferred (resting_state (is_frozen_by f) (is_some f.interval) (is_some f.last))))) on)
