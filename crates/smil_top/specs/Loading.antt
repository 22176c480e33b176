-- The lines of a load: chosen, rewritten and read.
use Rattle.std.specs.Prelude.{◌≡◌, ℕ, ◌+◌, ◌*◌, ℤ, Bool, true, false, ◌&&◌, ◌||◌, List, drop, take, length, Option, Some, None, option_map, unwrap_or, is_some, Result, Ok, Err, nat_lt, if◌then◌else◌}
use Rattle.smil_model.specs.declared.limits.TheConstants.{LINE_BYTES}
use Rattle.smil_model.specs.document.Limits.{Limits}
use Rattle.smil_model.specs.declared.order.Refusal.{Refusal}
use Rattle.smil_model.specs.declared.order.Refusal.TheVariants as refusal
use Rattle.smil_model.specs.shown.Answers.{IsRefusedBy}
use Rattle.smil_grammar.specs.Results.{◌>>=◌}
use Rattle.smil_grammar.specs.Nodes.{column_at}
use Rattle.smil_grammar.specs.Outlines.{Outline, no_lines, opens_saved, line_within, refuse_if}
use Rattle.smil_wall.specs.declared.fault.WallFault.{WallFault}
use Rattle.smil_wall.specs.declared.fault.WallFault.TheVariants as wall
use Rattle.smil_wall.specs.Rewriting.{rewritten, anchor_of}
use Rattle.smil_switch.specs.declared.chosen.Chosen.{Chosen}
use Rattle.smil_switch.specs.declared.chosen.Chosen.TheVariants.{Dropped, Kept}
use Rattle.smil_switch.specs.Preferences.{Wanted}
use Rattle.smil_switch.specs.Choices.{Choice, unchosen, pushed}

-- a load so far: whether no line was read, what is chosen, the root's id once its line was kept
-- (none where it has none to go by), and the outline
pub record Loading : Type 0 where
  pub first : Bool
  pub choice : Choice
  pub root : Option (Option (List ℕ))
  pub outline : Outline

-- before the first line
abbrev pub unread : Wanted → Loading
unread wanted =
    record { first = true; choice = unchosen wanted; root = None; outline = no_lines }

-- ---- a line that is raised

-- the refusal of a line that was raised so many levels: columns are those of the line before
abbrev pub lowered : ℕ → Refusal → Refusal
lowered n (refusal.UnknownAttribute column) = refusal.UnknownAttribute (column + 2 * n)
lowered n (refusal.Unsupported column) = refusal.Unsupported (column + 2 * n)
lowered n (refusal.BadValue column) = refusal.BadValue (column + 2 * n)
lowered n (refusal.TooManyItems column) = refusal.TooManyItems (column + 2 * n)
lowered n other = other

-- a line that was raised is read so
abbrev pub read_raised : {A : Type 0} → ℕ → Result A Refusal → Result A Refusal
read_raised n (Ok x) = Ok x
read_raised n (Err e) = Err (lowered n e)

-- a line so many levels higher, which is no header there
abbrev pub raised_within : Limits → Outline → List ℕ → ℕ → Result Outline Refusal
raised_within allowed outline text n = do
  short ← refuse_if (nat_lt LINE_BYTES (length text)) refusal.LongLine
  node ← refuse_if (opens_saved outline (drop (2 * n) text)) refusal.BadOutline
  read_raised n (line_within allowed outline (drop (2 * n) text))

-- ---- a line that is rewritten

-- the refusal of a line that can't be rewritten
abbrev pub wall_refusal : WallFault → Refusal
wall_refusal wall.NoAnchor = refusal.NoAnchor
wall_refusal (wall.BadValue place) = refusal.BadValue (column_at place)
wall_refusal (wall.Unsupported place) = refusal.Unsupported (column_at place)
wall_refusal wall.Memory = refusal.Memory

-- a fault of rewriting is a refusal of the line
abbrev pub as_refusal : Result (List ℕ) WallFault → Result (List ℕ) Refusal
as_refusal (Ok line) = Ok line
as_refusal (Err fault) = Err (wall_refusal fault)

-- the text at a place of so many bytes
abbrev pub at_place_of : List ℕ → ℕ × ℕ → List ℕ
at_place_of line place = take place.1 (drop place.0 line)

-- the id of a root by which items are rewritten
abbrev pub root_of : List ℕ → Option (List ℕ)
root_of line = option_map (at_place_of line) (anchor_of line)

-- a line that is read where moment 0 is at this instant, or at none
abbrev pub walled : Option ℤ → Option (List ℕ) → List ℕ → Result (List ℕ) Refusal
walled None root line = Ok line
walled (Some start) root line = as_refusal (rewritten root start line)

-- ---- one more line

-- with the id of the root, whose line is the first one that is kept
abbrev pub with_root : Loading → Loading
with_root loading =
    record loading { root = Some (unwrap_or loading.root (root_of loading.choice.line)) }

-- the line that was kept, so many levels higher
abbrev pub kept_within : Limits → Option ℤ → Loading → ℕ → Result Loading Refusal
kept_within allowed start loading n = do
  text ← walled start (unwrap_or loading.root None) loading.choice.line
  more ← raised_within allowed loading.outline text n
  Ok (record loading { outline = more })

-- a line, whether it was kept or not
abbrev pub answered_within : Limits → Option ℤ → Loading → Chosen → Result Loading Refusal
answered_within allowed start loading Dropped = Ok loading
answered_within allowed start loading (Kept n) =
    kept_within allowed start (with_root loading) n

-- a line of an outline without serials
abbrev pub chosen_within : Limits → Option ℤ → Loading → List ℕ → Result Loading Refusal
chosen_within allowed start loading line = do
  short ← refuse_if (nat_lt LINE_BYTES (length line)) refusal.LongLine
  next ← pushed loading.choice line
  answered_within allowed start (record loading { first = false; choice = next.0 }) next.1

-- a line of an outline with serials is read as it is
abbrev pub saved_within : Limits → Loading → List ℕ → Result Loading Refusal
saved_within allowed loading line = do
  more ← line_within allowed loading.outline line
  Ok (record loading { first = false; outline = more })

-- whether a line is of an outline with serials, or opens one
abbrev pub is_saved : Loading → List ℕ → Bool
is_saved loading line =
    is_some loading.outline.next || (loading.first && opens_saved loading.outline line)

-- one more line, where moment 0 is at this instant or at none
abbrev pub loading_within : Limits → Option ℤ → Loading → List ℕ → Result Loading Refusal
loading_within allowed start loading line =
    if is_saved loading line then saved_within allowed loading line
    else chosen_within allowed start loading line

-- ---- what calls give

-- a line isn't raised by more levels
abbrev pub last_level : ℕ
last_level = LINE_BYTES

-- a text is the one that is wanted, or why there is none, unless memory ran out
abbrev pub GivesText : Result (List ℕ) Refusal → Result (List ℕ) Refusal → Type 0
GivesText (Ok text) wanted = wanted ≡ Ok text
GivesText (Err e) wanted = IsRefusedBy wanted e
