-- What is on the screen of a presentation, element by element in document order.
use Rattle.std.specs.Prelude.{ℕ, ℤ, pos, ◌-ℤ◌, List, map, slice_get, Bool, Option, option_and_then, if◌then◌else◌}
use Rattle.std.specs.Option.{option_map_or}
use Rattle.smil_model.specs.declared.order.Who.{Who}
use Rattle.smil_model.specs.declared.view.State.{State}
use Rattle.smil_model.specs.declared.view.State.TheVariants as state
use Rattle.smil_model.specs.declared.view.View.{View}
use Rattle.smil_model.specs.diary.Clocks.{run, outer, iteration_start, stands}
use Rattle.smil_model.specs.diary.Diary.{History}
use Rattle.smil_model.specs.document.Document.{serial_of}
use Rattle.smil_model.specs.diary.Plays.{FinishedInterval, last_finished}
use Rattle.smil_model.specs.shown.Orders.{Presentation, node_of, resolved_history, views_of}
use Rattle.smil_house.specs.declared.house.NamedPlayer.{NamedPlayer}
use Rattle.smil_house.specs.declared.screen.OnScreen.{OnScreen}
use Rattle.smil_house.specs.declared.screen.Showing.{Showing}
use Rattle.smil_house.specs.declared.screen.Showing.TheVariants as showing
use Rattle.smil_house.specs.House.{named}

-- what the element's own clock has shown since the begin of its last iteration
abbrev pub since_iteration : History → ℕ → ℤ → ℤ
since_iteration h serial now = run h serial now -ℤ iteration_start h serial

-- what the clock of its time parent has shown since its last interval finished
abbrev pub since_finish : History → ℕ → ℤ → ℤ
since_finish h serial now =
    option_map_or (λ (f : FinishedInterval). outer h serial now -ℤ f.finish.value)
    (last_finished h serial) (pos 0)

-- where its media is, by its state: a frozen one is where it stopped
abbrev pub position_by : History → ℕ → ℤ → State → ℤ
position_by h serial now state.Active = since_iteration h serial now
position_by h serial now state.Paused = since_iteration h serial now
position_by h serial now state.Frozen =
    since_iteration h serial now -ℤ since_finish h serial now
position_by h serial now _ = pos 0

-- how it is on the screen, by its state and by whether its clock stands
abbrev pub active_by : Bool → Showing
active_by standing = if standing then showing.Standing else showing.Playing

abbrev pub showing_by : Bool → State → Showing
showing_by standing state.Active = active_by standing
showing_by standing state.Paused = active_by standing
showing_by standing state.Frozen = showing.Frozen
showing_by standing _ = showing.Off

abbrev pub on_screen : History → ℤ → View → OnScreen
on_screen h now v = record {
  serial = v.serial;
  showing = showing_by (stands h v.serial) v.state;
  position = position_by h v.serial now v.state;
  iteration = v.iteration;
}

-- of all elements, in document order
abbrev pub screen_of : Presentation → List OnScreen
screen_of p = map (on_screen (resolved_history p) (pos p.now)) (views_of p)

-- the serial of a node that is named so
abbrev pub serial_in : Who → Presentation → Option ℕ
serial_in who p = serial_of (node_of p.document.nodes who)

-- .. in the presentation of this name
abbrev pub found_in :
    {P : Type 0} → (P → Presentation) → Who → List ℕ → List (NamedPlayer P) → Option ℕ
found_in presentation who name held =
    option_and_then (λ h. serial_in who (presentation h.player)) (named name held)

-- of the element at a place in the presentation of this name
abbrev pub element_in :
    {P : Type 0} → (P → Presentation) → ℕ → List ℕ → List (NamedPlayer P) → Option OnScreen
element_in presentation index name held =
    option_and_then (λ h. slice_get (screen_of (presentation h.player)) index) (named name held)
