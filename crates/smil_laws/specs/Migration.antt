-- Limits that are raised: an order that meets no smaller limit has the same outcome within larger
-- ones.
use Rattle.std.specs.Prelude.{◌≡◌, ◌≤◌, Bool, true, false, not, Result, Ok, Err}
use Rattle.smil_model.specs.declared.order.Refusal.{Refusal}
use Rattle.smil_model.specs.declared.order.Refusal.TheVariants.{TooManyElements, TooManyReferences, DiaryFull}
use Rattle.smil_model.specs.declared.order.Order.{Order}
use Rattle.smil_model.specs.document.Document.{Document}
use Rattle.smil_model.specs.document.Limits.{Limits}
use Rattle.smil_model.specs.shown.Orders.{Formats, Presentation, opened_within, outcome_within}

-- no limit is above its counterpart
pub record AreBelow (small large : Limits) : Type 0 where
  pub nodes : small.nodes ≤ large.nodes
  pub references : small.references ≤ large.references
  pub entries : small.entries ≤ large.entries

-- a refusal for one of these limits
abbrev pub is_for_limit : Refusal → Bool
is_for_limit TooManyElements = true
is_for_limit TooManyReferences = true
is_for_limit DiaryFull = true
is_for_limit _ = false

-- accepted, or refused for another cause
abbrev pub meets_no_limit : {A : Type 0} → Result A Refusal → Bool
meets_no_limit (Ok x) = true
meets_no_limit (Err refusal) = not (is_for_limit refusal)

-- the outcome of an order is the same within larger limits
abbrev pub OutcomesMigrate : Type 0
OutcomesMigrate =
    (small large : Limits) (formats : Formats) (p : Presentation) (given : Order)
    → AreBelow small large
    → meets_no_limit (outcome_within small formats p given) ≡ true
    → outcome_within large formats p given ≡ outcome_within small formats p given

-- and so is that of a load
abbrev pub OpeningsMigrate : Type 0
OpeningsMigrate =
    (small large : Limits) (document : Document) → AreBelow small large
    → meets_no_limit (opened_within small document) ≡ true
    → opened_within large document ≡ opened_within small document
