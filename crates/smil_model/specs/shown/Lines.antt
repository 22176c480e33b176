-- The lines of a transcript.
use Rattle.std.specs.Prelude.{ℕ, ℤ, List, [], ◌∷◌, ◌++◌, Option, Some, None, codes, decimal, slice_get}
use Rattle.std.specs.Fmt.{signed_decimal}
use Rattle.smil_model.specs.declared.diary.Entry.{Entry}
use Rattle.smil_model.specs.declared.diary.LogEntry.{LogEntry}
use Rattle.smil_model.specs.declared.diary.Happening.{Happening}
use Rattle.smil_model.specs.declared.diary.Happening.TheVariants as happening
use Rattle.smil_model.specs.declared.diary.Step.{Step}
use Rattle.smil_model.specs.declared.diary.Step.TheVariants as step
use Rattle.smil_model.specs.declared.document.Node.{Node}
use Rattle.smil_model.specs.declared.order.Who.{Who}
use Rattle.smil_model.specs.declared.order.Who.TheVariants.{Id, Serial}
use Rattle.smil_model.specs.declared.order.Refusal.{Refusal}
use Rattle.smil_model.specs.declared.order.Refusal.TheVariants as refusal
use Rattle.smil_model.specs.declared.view.State.{State}
use Rattle.smil_model.specs.declared.view.State.TheVariants as state
use Rattle.smil_model.specs.declared.view.Shown.{Shown}
use Rattle.smil_model.specs.declared.view.Shown.TheVariants as shown
use Rattle.smil_model.specs.declared.view.View.{View}
use Rattle.smil_model.specs.declared.view.How.{How}
use Rattle.smil_model.specs.document.Words.{line_feed, number_sign, quote, space}
use Rattle.smil_model.specs.declared.view.How.TheVariants as how

-- a line: its words, separated by single spaces, and a line feed
abbrev pub line_of : List (List ℕ) → List ℕ
line_of [] = line_feed ∷ []
line_of (word ∷ []) = word ++ line_feed ∷ []
line_of (word ∷ next ∷ words) = word ++ space ∷ line_of (next ∷ words)

-- an element by its id, or by `#` and its serial
abbrev pub reference_text : Who → List ℕ
reference_text (Id id) = id
reference_text (Serial serial) = number_sign ∷ decimal serial

abbrev pub name_by : ℕ → Option (List ℕ) → Who
name_by serial None = Serial serial
name_by serial (Some id) = Id id

abbrev pub name_of : Node → Who
name_of n = name_by n.serial n.attrs.id

-- a state's name
abbrev pub state_text : State → List ℕ
state_text state.Idle = codes "idle"
state_text state.Waiting = codes "waiting"
state_text state.Active = codes "active"
state_text state.Paused = codes "paused"
state_text state.Deferred = codes "deferred"
state_text state.Frozen = codes "frozen"
state_text state.Done = codes "done"

-- a time: a number, `-` for nothing, a word, or `?` while the clock stands
abbrev pub shown_text : Shown → List ℕ
shown_text shown.Nothing = codes "-"
shown_text (shown.At v) = signed_decimal v
shown_text shown.Indefinite = codes "indefinite"
shown_text shown.Unresolved = codes "unresolved"
shown_text shown.Standing = codes "?"

-- a changed view: moment, element, state, begin, end, iteration, finished intervals
abbrev pub change_line : ℤ → Who → View → List ℕ
change_line moment name view =
    line_of (signed_decimal moment ∷ reference_text name ∷ state_text view.state
    ∷ shown_text view.begin
    ∷ shown_text view.«end» ∷ decimal view.iteration ∷ decimal view.finished ∷ [])

-- an element that was removed
abbrev pub gone_line : ℤ → Who → List ℕ
gone_line moment name = line_of (signed_decimal moment ∷ reference_text name ∷ codes "gone" ∷ [])

abbrev pub how_text : How → List ℕ
how_text how.Ended = codes "ended"
how_text how.Cut = codes "cut"
how_text how.Playing = codes "playing"

-- an interval of an element
abbrev pub interval_line : Who → Shown → Shown → How → List ℕ
interval_line name begin finish how =
    line_of (reference_text name ∷ codes "from" ∷ shown_text begin ∷ codes "to" ∷ shown_text finish
    ∷ how_text how ∷ [])

-- an attribute that is set, with its value, and the set that gives it
abbrev pub quoted : List ℕ → List ℕ
quoted value = quote ∷ value ++ quote ∷ []

abbrev pub value_line : Who → List ℕ → List ℕ → Who → List ℕ
value_line target name value setter =
    line_of (reference_text target ∷ name ∷ quoted value ∷ reference_text setter ∷ [])

-- a set of a stack, with its value
abbrev pub layer_line : Who → List ℕ → List ℕ
layer_line setter value = line_of (reference_text setter ∷ quoted value ∷ [])

-- ---- entries of a diary, each with its moment; nodes stand by their serials

abbrev pub serial_text : ℕ → List ℕ
serial_text serial = reference_text (Serial serial)

-- what came from outside
abbrev pub happening_words : Happening → List (List ℕ)
happening_words (happening.Event who name) = codes "event" ∷ serial_text who ∷ name ∷ []
happening_words (happening.Media who length) =
    codes "media" ∷ serial_text who ∷ signed_decimal length ∷ []
happening_words (happening.Key key) = codes "key" ∷ (key ∷ []) ∷ []

abbrev pub logged_words : Option LogEntry → List (List ℕ)
logged_words None = []
logged_words (Some entry) = happening_words entry.what

-- a step: its word, the element, and its value on its clock
abbrev pub step_words : List LogEntry → Step → List (List ℕ)
step_words log (step.Began who begin) = codes "began" ∷ serial_text who ∷ signed_decimal begin ∷ []
step_words log (step.Repeated who start) =
    codes "repeated" ∷ serial_text who ∷ signed_decimal start ∷ []
step_words log (step.Ended who end') = codes "ended" ∷ serial_text who ∷ signed_decimal end' ∷ []
step_words log (step.Cut who) = codes "cut" ∷ serial_text who ∷ []
step_words log (step.Paused who) = codes "paused" ∷ serial_text who ∷ []
step_words log (step.Resumed who) = codes "resumed" ∷ serial_text who ∷ []
step_words log (step.Deferred who begin) =
    codes "deferred" ∷ serial_text who ∷ signed_decimal begin ∷ []
step_words log (step.Passed who begin) =
    codes "passed" ∷ serial_text who ∷ signed_decimal begin ∷ []
step_words log (step.Logged place) = logged_words (slice_get log place)

abbrev pub entry_line : List LogEntry → Entry → List ℕ
entry_line log entry = line_of (signed_decimal entry.moment ∷ step_words log entry.step)

-- the line between an outline and a diary, and the line of the present moment behind a diary
abbrev pub outline_end : List ℕ
outline_end = line_of (codes "%%" ∷ [])

abbrev pub now_line : ℤ → List ℕ
now_line now = line_of (codes "now" ∷ signed_decimal now ∷ [])

-- ---- the last line of an answer

-- the end of an accepted answer: the number of the order's first line,
-- the presentation's name and its moment
abbrev pub ok_line : ℕ → List ℕ → ℤ → List ℕ
ok_line line name now = line_of (codes "ok" ∷ decimal line ∷ name ∷ signed_decimal now ∷ [])

abbrev pub closed_line : ℕ → List ℕ → List ℕ
closed_line line name = line_of (codes "ok" ∷ decimal line ∷ name ∷ codes "closed" ∷ [])

-- the word of a refusal
abbrev pub refusal_text : Refusal → List ℕ
refusal_text refusal.LongLine = codes "long-line"
refusal_text refusal.NotACommand = codes "not-a-command"
refusal_text refusal.UnfinishedLoad = codes "unfinished-load"
refusal_text refusal.BadOutline = codes "bad-outline"
refusal_text refusal.DepthJump = codes "depth-jump"
refusal_text refusal.TooDeep = codes "too-deep"
refusal_text refusal.BadPlace = codes "bad-place"
refusal_text (refusal.UnknownAttribute column) = codes "unknown-attribute"
refusal_text (refusal.Unsupported column) = codes "unsupported"
refusal_text (refusal.BadValue column) = codes "bad-value"
refusal_text (refusal.TooManyItems column) = codes "too-many-items"
refusal_text refusal.DuplicateId = codes "duplicate-id"
refusal_text refusal.TooManyElements = codes "too-many-elements"
refusal_text refusal.TooManyReferences = codes "too-many-references"
refusal_text refusal.NoPresentation = codes "no-presentation"
refusal_text refusal.NameTaken = codes "name-taken"
refusal_text refusal.TooManyPresentations = codes "too-many-presentations"
refusal_text refusal.NoElement = codes "no-element"
refusal_text refusal.Root = codes "root"
refusal_text refusal.NotContinuous = codes "not-continuous"
refusal_text refusal.LogFull = codes "log-full"
refusal_text refusal.BeyondHorizon = codes "beyond-horizon"
refusal_text refusal.DiaryFull = codes "diary-full"
refusal_text refusal.Memory = codes "memory"
refusal_text refusal.NotYet = codes "not-yet"
refusal_text refusal.BadSerial = codes "bad-serial"
refusal_text refusal.NoAnchor = codes "no-anchor"

-- the number of a refusal
abbrev pub refusal_number : Refusal → ℕ
refusal_number refusal.LongLine = 1
refusal_number refusal.NotACommand = 2
refusal_number refusal.UnfinishedLoad = 3
refusal_number refusal.BadOutline = 4
refusal_number refusal.DepthJump = 5
refusal_number refusal.TooDeep = 6
refusal_number refusal.BadPlace = 7
refusal_number (refusal.UnknownAttribute column) = 8
refusal_number (refusal.Unsupported column) = 9
refusal_number (refusal.BadValue column) = 10
refusal_number (refusal.TooManyItems column) = 11
refusal_number refusal.DuplicateId = 12
refusal_number refusal.TooManyElements = 13
refusal_number refusal.TooManyReferences = 14
refusal_number refusal.NoPresentation = 15
refusal_number refusal.NameTaken = 16
refusal_number refusal.TooManyPresentations = 17
refusal_number refusal.NoElement = 18
refusal_number refusal.Root = 19
refusal_number refusal.NotContinuous = 20
refusal_number refusal.LogFull = 21
refusal_number refusal.BeyondHorizon = 22
refusal_number refusal.DiaryFull = 23
refusal_number refusal.Memory = 24
refusal_number refusal.NotYet = 25
refusal_number refusal.BadSerial = 26
refusal_number refusal.NoAnchor = 27

-- the column of a refusal that has one
abbrev pub refusal_column : Refusal → Option ℕ
refusal_column (refusal.UnknownAttribute column) = Some column
refusal_column (refusal.Unsupported column) = Some column
refusal_column (refusal.BadValue column) = Some column
refusal_column (refusal.TooManyItems column) = Some column
refusal_column _ = None

abbrev pub column_words : Option ℕ → List (List ℕ)
column_words None = []
column_words (Some column) = decimal column ∷ []

-- a refused order: the number of the line where the fault stands, the refusal's word,
-- and its column if it has one
abbrev pub refusal_line : ℕ → Refusal → List ℕ
refusal_line line refusal =
    line_of (codes "!" ∷ decimal line ∷ refusal_text refusal
    ∷ column_words (refusal_column refusal))
