-- Presentations under their names.
use Rattle.std.specs.Prelude.{◌≡◌, ℕ, ℤ, pos, ◌⊎◌, List, ◌+◌, ◌++◌, drop, take, length, Option, Some, None, Result, Ok, Err, bytes_eq, nat_lt, if◌then◌else◌, slice_get, slice_set, is_some, option_map, option_and_then}
use Rattle.std.specs.List.{position}
use Rattle.smil_model.specs.declared.limits.TheConstants.{PRESENTATIONS}
use Rattle.smil_model.specs.declared.order.Order.{Order}
use Rattle.smil_model.specs.declared.order.Refusal.{Refusal}
use Rattle.smil_model.specs.declared.order.Refusal.TheVariants.{NameTaken, TooManyPresentations, NoPresentation}
use Rattle.smil_model.specs.shown.Orders.{Formats, Presentation}
use Rattle.smil_model.specs.shown.Answers.{Accepts, Refuses, AtLeast, AtMost, MayEvaluate}
use Rattle.smil_report.specs.declared.records.Change.{Change}
use Rattle.smil_report.specs.Records.{as_records}
use Rattle.smil_report.specs.Tellings.{Tells}
use Rattle.smil_house.specs.declared.house.NamedPlayer.{NamedPlayer}

-- the place of the presentation of this name
abbrev pub place_of : {P : Type 0} → List ℕ → List (NamedPlayer P) → Option ℕ
place_of name held = position (λ h. bytes_eq h.name name) held

-- what is held under this name
abbrev pub named : {P : Type 0} → List ℕ → List (NamedPlayer P) → Option (NamedPlayer P)
named name held = option_and_then (slice_get held) (place_of name held)

-- the moment of the presentation of this name
abbrev pub moment_of : {P : Type 0} → (P → Presentation) → List ℕ → List (NamedPlayer P) → Option ℤ
moment_of presentation name held =
    option_map (λ h. pos (presentation h.player).now) (named name held)

-- why no presentation may be loaded under this name
abbrev pub load_refusal : {P : Type 0} → List ℕ → List (NamedPlayer P) → Result Unit Refusal
load_refusal name held =
    if is_some (place_of name held) then Err NameTaken
    else (if nat_lt (length held) PRESENTATIONS then Ok tt else Err TooManyPresentations)

-- all but the one at a place
abbrev pub without : {P : Type 0} → ℕ → List (NamedPlayer P) → List (NamedPlayer P)
without place held = take place held ++ drop (place + 1) held

-- the presentation at a place, with its name
pub record IsAt {P : Type 0} (name : List ℕ) (held : List (NamedPlayer P)) (place : ℕ)
    (h : NamedPlayer P) : Type 0 where
  pub found : place_of name held ≡ Some place
  pub here : slice_get held place ≡ Some h

-- the player at a place is another one, by this name and with these formats;
-- all others are as before
pub record IsReplaced
    {P : Type 0} (formats : P → Formats) (name : List ℕ) (old new : List (NamedPlayer P))
    (place : ℕ) (before after : NamedPlayer P) : Type 0 where
  pub at : IsAt name old place before
  pub new_is : new ≡ slice_set old place after
  pub name_is : after.name ≡ before.name
  pub formats_are : formats after.player ≡ formats before.player

-- the presentation of this name has answered an order, by this text and so many evaluations,
-- and is at this moment
pub record IsAnsweredBy {P : Type 0} (formats : P → Formats) (presentation : P → Presentation)
    (least most : P → Order → Option ℕ) (name : List ℕ) (given : Order)
    (old new : List (NamedPlayer P)) (text : List ℕ) (rise : ℕ) (moment : ℤ) : Type 0 where
  pub place : ℕ
  pub before : NamedPlayer P
  pub after : NamedPlayer P
  pub turned : IsReplaced formats name old new place before after
  pub accepted : Accepts (formats before.player) (presentation before.player)
      (presentation after.player) given text
  pub moment_is : moment ≡ pos (presentation after.player).now
  pub least_is : AtLeast (least before.player given) rise
  pub most_is : AtMost (most before.player given) rise

-- the presentation of this name has answered an order, by these records and so many evaluations,
-- and is at this moment
pub record IsRecordedBy {P : Type 0} (formats : P → Formats) (presentation : P → Presentation)
    (least most : P → Order → Option ℕ) (name : List ℕ) (given : Order)
    (old new : List (NamedPlayer P)) (changes : List Change) (rise : ℕ) (moment : ℤ)
    : Type 0 where
  pub place : ℕ
  pub before : NamedPlayer P
  pub after : NamedPlayer P
  pub turned : IsReplaced formats name old new place before after
  pub accepted : Tells as_records (formats before.player) (presentation before.player)
      (presentation after.player) given changes
  pub moment_is : moment ≡ pos (presentation after.player).now
  pub least_is : AtLeast (least before.player given) rise
  pub most_is : AtMost (most before.player given) rise

-- the presentation of this name is as it was
pub record IsKeptBy {P : Type 0} (formats : P → Formats) (presentation : P → Presentation)
    (name : List ℕ) (old new : List (NamedPlayer P)) : Type 0 where
  pub place : ℕ
  pub before : NamedPlayer P
  pub after : NamedPlayer P
  pub turned : IsReplaced formats name old new place before after
  pub same : presentation after.player ≡ presentation before.player

-- all are as they were
abbrev pub AreKept : {P : Type 0} → (P → Formats) → (P → Presentation) → List ℕ
    → List (NamedPlayer P) → List (NamedPlayer P) → Type 0
AreKept formats presentation name old new =
    (new ≡ old) ⊎ IsKeptBy formats presentation name old new

-- it refuses the order
pub record IsRefusedBy {P : Type 0} (formats : P → Formats) (presentation : P → Presentation)
    (most : P → Order → Option ℕ) (name : List ℕ) (given : Order) (old : List (NamedPlayer P))
    (rise : ℕ)
    (refusal : Refusal) : Type 0 where
  pub place : ℕ
  pub before : NamedPlayer P
  pub at : IsAt name old place before
  pub refused : Refuses (formats before.player) (presentation before.player) given refusal
  pub free : MayEvaluate (most before.player given) refusal rise

-- there is none of this name, and nothing is evaluated
pub record IsAbsent {P : Type 0} (name : List ℕ) (old : List (NamedPlayer P)) (rise : ℕ)
    (refusal : Refusal) : Type 0 where
  pub place_is : place_of name old ≡ None
  pub refusal_is : refusal ≡ NoPresentation
  pub none : rise ≡ 0

abbrev pub IsRefused :
    {P : Type 0} → (P → Formats) → (P → Presentation) → (P → Order → Option ℕ) → List ℕ
    → Order → List (NamedPlayer P) → ℕ → Refusal → Type 0
IsRefused formats presentation most name given old rise refusal =
    IsAbsent name old rise refusal
    ⊎ IsRefusedBy formats presentation most name given old rise refusal
