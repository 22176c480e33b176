-- How an order is answered.
use Rattle.std.specs.Prelude.{◌≡◌, ◌≤◌, ◌-◌, ◌++◌, ℕ, Bool, List, Option, Result, drop, length, OnOk, OnErr, IfErr}
use Rattle.smil_model.specs.declared.diary.Happening.{Happening}
use Rattle.smil_model.specs.declared.order.Order.{Order}
use Rattle.smil_model.specs.declared.order.Refusal.{Refusal}
use Rattle.smil_model.specs.declared.view.View.{View}
use Rattle.smil_model.specs.shown.Answers.{MayEvaluate, Refuses}
use Rattle.smil_model.specs.shown.Orders.{Presentation}
use Rattle.smil_grammar.specs.Formats.{formats}
use Rattle.smil_report.specs.Tellings.{Begins, Telling, Tells}
use Rattle.smil_cells.specs.CellsState.{CellsState, WhereTold, fresh_since, reached_since}
use Rattle.smil_shown.specs.ViewTable.{owners}
use Rattle.smil_live.specs.Counted.{KeepsToCounts}
use Rattle.smil_live.specs.Counts.{least_onward, most_onward}
use Rattle.smil_live.specs.Moves.{IsHeardBy, IsNotHeard, IsShownAt, IsTooFull, changes_by, made, told_of}
use Rattle.smil_live.specs.declared.moves.Move.{Move}

-- an order is answered: what it tells stands behind what was told before it; where it is refused,
-- all is as before; `start` and `now` are the numbers of evaluations before and behind it
pub record IsAnswered {Item : Type 0} (telling : Telling Item) (counts : Bool) (given : Order)
    (answer : Result (Unit {0}) Refusal) (before after : Presentation) (old new : List Item)
    (start now : ℕ) : Type 0 where
  pub ok : OnOk answer (Tells telling formats before after given (drop (length old) new))
  pub appended : OnOk answer (new ≡ old ++ drop (length old) new)
  pub refused : IfErr answer (Refuses formats before given)
  pub kept : OnErr answer (after ≡ before)
  pub text : OnErr answer (new ≡ old)
  pub counted : start ≤ now
  pub bounded : KeepsToCounts counts before given answer (now - start)

-- the same of what comes from outside
pub record IsHeard {Item : Type 0} (telling : Telling Item) (counts : Bool) (what : Happening)
    (answer : Result (Unit {0}) Refusal) (before after : Presentation) (old new : List Item)
    (start now : ℕ) : Type 0 where
  pub ok : OnOk answer (IsHeardBy telling before what after (drop (length old) new))
  pub appended : OnOk answer (new ≡ old ++ drop (length old) new)
  pub refused : IfErr answer (IsNotHeard before what)
  pub kept : OnErr answer (after ≡ before)
  pub text : OnErr answer (new ≡ old)
  pub counted : start ≤ now
  pub most : OnOk answer (WhereTold counts (now - start ≤ most_onward before after))
  pub least : OnOk answer (WhereTold counts (least_onward before after ≤ now - start))
  pub free : (most : Option ℕ)
      → IfErr answer (λ refusal. MayEvaluate most refusal (now - start))

-- cells go on by a move, and what it changes is told behind what was told before; where it is
-- refused, a mark of the cells still stands, and the views are of the same elements
pub record IsMoved {Item : Type 0} (telling : Telling Item) (counts : Bool) (step : Move)
    (answer : Result (Unit {0}) Refusal) (before after : CellsState) (shown left : List View)
    (old new : List Item) (start now : ℕ) : Type 0 where
  pub ok : OnOk answer (IsShownAt (made before.presentation step) after left)
  pub told : OnOk answer
      (new ≡ old ++ told_of telling before.presentation (changes_by before.presentation step))
  pub refused : IfErr answer (IsTooFull (made before.presentation step))
  pub marked : after.marked ≡ before.marked
  pub owners_are : owners left ≡ owners shown
  pub begins : Begins old new
  pub counted : start ≤ now
  pub most : OnOk answer (WhereTold counts (now - start ≤ reached_since before after))
  pub least : OnOk answer (WhereTold counts (fresh_since before after ≤ now - start))
