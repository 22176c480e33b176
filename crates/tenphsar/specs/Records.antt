-- Records of changes, as C has them.
use Rattle.std.specs.Prelude.{ℕ, ℤ, pos}
use Rattle.smil_model.specs.declared.view.Shown.{Shown}
use Rattle.smil_model.specs.declared.view.Shown.TheVariants as shown
use Rattle.smil_model.specs.declared.view.State.{State}
use Rattle.smil_model.specs.declared.view.State.TheVariants as state
use Rattle.smil_report.specs.declared.records.Change.{Change}
use Rattle.smil_report.specs.declared.records.Change.TheVariants as change
use Rattle.tenphsar.specs.declared.records.ChangeRecord.{ChangeRecord}

-- the number of a state; that of an element that is gone stands behind them
abbrev pub state_number : State → ℕ
state_number state.Idle = 0
state_number state.Waiting = 1
state_number state.Active = 2
state_number state.Paused = 3
state_number state.Deferred = 4
state_number state.Frozen = 5
state_number state.Done = 6

abbrev pub gone_number : ℕ
gone_number = 7

-- how a time is shown, and its number where it is one
abbrev pub time_number : Shown → ℕ
time_number shown.Nothing = 0
time_number (shown.At value) = 1
time_number shown.Indefinite = 2
time_number shown.Unresolved = 3
time_number shown.Standing = 4

abbrev pub time_value : Shown → ℤ
time_value (shown.At value) = value
time_value _ = pos 0

-- a record says what its line says
abbrev pub record_of : Change → ChangeRecord
record_of (change.Shown moment view) = record {
  moment = moment;
  begin = time_value view.begin;
  «end» = time_value view.«end»;
  element = view.serial;
  iteration = view.iteration;
  finished = view.finished;
  state = state_number view.state;
  begin_is = time_number view.begin;
  end_is = time_number view.«end»;
  reserved = 0;
}
record_of (change.Gone moment serial) = record {
  moment = moment;
  begin = pos 0;
  «end» = pos 0;
  element = serial;
  iteration = 0;
  finished = 0;
  state = gone_number;
  begin_is = 0;
  end_is = 0;
  reserved = 0;
}
