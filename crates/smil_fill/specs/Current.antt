-- What the view of any element follows from, among its facts.
use Rattle.std.specs.Prelude.{◌≡◌, Bool, if◌then◌else◌}
use Rattle.std.specs.Option.{ForSome}
use Rattle.smil_model.specs.Times.{IsCarried}
use Rattle.smil_model.specs.declared.interval.Interval.{Interval}
use Rattle.smil_model.specs.declared.view.Shown.{Shown}
use Rattle.smil_model.specs.declared.view.State.{State}
use Rattle.smil_model.specs.declared.view.State.TheVariants as state
use Rattle.smil_model.specs.declared.view.View.{View}
use Rattle.smil_model.specs.declared.view.ViewFacts.{ViewFacts}
use Rattle.smil_model.specs.shown.Views.{shown_begin, shown_end}
use Rattle.smil_fill.specs.Numbers.{IsTimeCarried}
use Rattle.smil_fill.specs.declared.views.CurrentFacts.{CurrentFacts}

-- these are among the facts of an element
pub record AreCurrent (c : CurrentFacts) (f : ViewFacts) : Type 0 where
  pub serial : f.serial ≡ c.serial
  pub interval : f.interval ≡ c.interval
  pub standing : f.standing ≡ c.standing
  pub shift : f.shift ≡ c.shift
  pub iteration : f.iteration ≡ c.iteration
  pub finished : f.finished ≡ c.finished

-- each number among them is from -10^13 to 10^13
pub record HasTimesWithin (c : CurrentFacts) : Type 0 where
  pub interval :
      ForSome c.interval (λ (i : Interval). IsCarried i.begin × IsTimeCarried i.«end»)
  pub shift : IsCarried c.shift

-- the state of an active element
abbrev pub playing_state : Bool → State
playing_state paused = if paused then state.Paused else state.Active

-- a view in a state with these times
abbrev pub view_in : CurrentFacts → State → Shown → Shown → View
view_in c s begin finish = record {
  serial = c.serial;
  state = s;
  begin = begin;
  «end» = finish;
  iteration = c.iteration;
  finished = c.finished;
}

-- the times of the last finished interval
abbrev pub last_begin : ViewFacts → Shown
last_begin f = shown_begin f state.Done

abbrev pub last_end : ViewFacts → Shown
last_end f = shown_end f state.Done
