-- How often an order had intervals evaluated, against the numbers that bound it.
use Rattle.std.specs.Prelude.{ℕ, ◌≤◌, Bool, Result, OnOk, IfErr}
use Rattle.smil_model.specs.declared.order.Order.{Order}
use Rattle.smil_model.specs.declared.order.Refusal.{Refusal}
use Rattle.smil_model.specs.shown.Answers.{MayEvaluate}
use Rattle.smil_model.specs.shown.Orders.{Presentation}
use Rattle.smil_cells.specs.CellsState.{WhereTold}
use Rattle.smil_live.specs.Counts.{least_number, most_number, told_where}

-- no more often than its greatest number, where that is told
abbrev pub IsAtMost : Bool → Presentation → Order → ℕ → Type 0
IsAtMost counts before given rise = WhereTold counts (rise ≤ most_number before given)

-- no less often than its least number, where that is told
abbrev pub IsAtLeast : Bool → Presentation → Order → ℕ → Type 0
IsAtLeast counts before given rise = WhereTold counts (least_number before given ≤ rise)

-- never, where it was refused for another cause than a full diary or a lack of memory
abbrev pub IsFree : Bool → Presentation → Order → Refusal → ℕ → Type 0
IsFree counts before given refusal rise =
    MayEvaluate (told_where counts (most_number before given)) refusal rise

-- the bounds that hold of an order, by its answer
pub record KeepsToCounts (counts : Bool) (before : Presentation) (given : Order)
    (answer : Result (Unit {0}) Refusal) (rise : ℕ) : Type 0 where
  pub most : OnOk answer (IsAtMost counts before given rise)
  pub least : OnOk answer (IsAtLeast counts before given rise)
  pub free : IfErr answer (λ refusal. IsFree counts before given refusal rise)
