-- What settling comes to.
use Rattle.std.specs.Prelude.{◌≡◌, ℕ, ◌≤◌, Bool}
use Rattle.smil_model.specs.happening.Resolution.{Course}
use Rattle.smil_model.specs.shown.Orders.{as_of}
use Rattle.smil_diary.specs.declared.fault.BookFault.{BookFault}
use Rattle.smil_diary.specs.declared.fault.BookFault.TheVariants.{DiaryFull}
use Rattle.smil_cells.specs.CellsState.{CellsState, GoesOn, IsFront, IsRefusing, IsSettled, StayTouched, WhereTold, fresh_since, reached_since}
use Rattle.smil_cells.specs.Shown.{TouchesOnlySince}

-- settled up to a moment
pub record HasSettled (moment : ℕ) (old new : CellsState) : Type 0 where
  pub state : new.presentation ≡ as_of old.presentation moment
  pub settled : IsSettled new
  pub goes_on : GoesOn old new
  pub more : StayTouched old new
  pub only : TouchesOnlySince old new

-- refused, and a full diary is as much as may be of that of a course
pub record HasRefused (c : Course) (old new : CellsState) (fault : BookFault) : Type 0 where
  pub refusing : IsRefusing old new fault
  pub full : fault ≡ DiaryFull → IsFront c new.diary

-- how often intervals were evaluated, where that is told: at most and at least so often, and of
-- the elements that `Has` says
pub record IsCounted (counts : Bool) (Has : CellsState → CellsState → ℕ → Type 0)
    (old new : CellsState) (evaluations : ℕ) : Type 0 where
  pub most : WhereTold counts (evaluations ≤ reached_since old new)
  pub least : WhereTold counts (fresh_since old new ≤ evaluations)
  pub evaluated : WhereTold counts (Has old new evaluations)
