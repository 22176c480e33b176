-- Which lines of an outline are kept, line by line.
use Rattle.std.specs.Prelude.{◌≡◌, ℕ, ◌+◌, ◌-◌, ◌/◌, ◌%◌, Bool, true, false, not, ◌&&◌, ◌||◌, List, [], ◌∷◌, ◌++◌, take, drop, count_by, replicate, Option, Some, None, slice_get, Result, Ok, Err, ◌==◌, if◌then◌else◌, codes, bytes_eq, length}
use Rattle.std.specs.List.{prefix_len, list_any}
use Rattle.std.specs.Option.{ok_or}
use Rattle.smil_model.specs.declared.order.Refusal.{Refusal}
use Rattle.smil_model.specs.declared.order.Refusal.TheVariants as refusal
use Rattle.smil_grammar.specs.declared.fault.AttrFault.{AttrFault}
use Rattle.smil_grammar.specs.declared.fault.AttrFault.TheVariants as attr
use Rattle.smil_grammar.specs.declared.fault.NodeFault.{NodeFault}
use Rattle.smil_grammar.specs.Results.{◌>>=◌}
use Rattle.smil_grammar.specs.Texts.{space, trim}
use Rattle.smil_grammar.specs.Nodes.{Shape, WrittenAttr, is_space, shape_of, repeats, at_column}
use Rattle.smil_grammar.specs.Outlines.{in_line, refuse_if}
use Rattle.smil_switch.specs.declared.chosen.Chosen.{Chosen}
use Rattle.smil_switch.specs.declared.chosen.Chosen.TheVariants.{Dropped, Kept}
use Rattle.smil_switch.specs.declared.chosen.Below.{Below}
use Rattle.smil_switch.specs.declared.chosen.Below.TheVariants.{Aside, Open, Switch, Taken}
use Rattle.smil_switch.specs.Preferences.{Wanted, is_test, is_other_test, test_of}

-- how the lines below each open line fare, from the outline down, and the last line that was kept
pub record Choice : Type 0 where
  pub wanted : Wanted
  pub levels : List Below
  pub line : List ℕ

-- before the first line
abbrev pub unchosen : Wanted → Choice
unchosen wanted = record { wanted = wanted; levels = Open ∷ []; line = [] }

-- ---- the tests of a line

-- whether an attribute is no test that fails, or its fault; a switch has an id and tests alone
abbrev pub attribute_holds : Wanted → Bool → WrittenAttr → Result Bool AttrFault
attribute_holds wanted switch written =
    if is_test written.name
    then ok_or (test_of wanted written.name (trim written.value)) (attr.BadValue 0)
    else (if is_other_test written.name then Err attr.UnsupportedName
    else (if switch && not (bytes_eq written.name (codes "id")) then Err attr.UnknownAttribute
    else Ok true))

-- from left to right, up to the first fault
abbrev pub attributes_hold : Wanted → Bool → List WrittenAttr → Result Bool NodeFault
attributes_hold wanted switch [] = Ok true
attributes_hold wanted switch (written ∷ others) = do
  first ← at_column written (attribute_holds wanted switch written)
  rest ← attributes_hold wanted switch others
  Ok (first && rest)

-- whether a line is a switch
abbrev pub is_switch : Option Shape → Bool
is_switch None = false
is_switch (Some shape) = bytes_eq shape.kind (codes "switch")

-- whether a test stands twice
abbrev pub tests_repeat : List WrittenAttr → Bool
tests_repeat [] = false
tests_repeat (written ∷ others) =
    (is_test written.name
    && list_any (λ (other : WrittenAttr). bytes_eq other.name written.name) others)
    || tests_repeat others

-- whether a test stands twice, or in a switch any attribute
abbrev pub repeats_test : Option Shape → Bool
repeats_test None = false
repeats_test (Some shape) =
    if is_switch (Some shape) then repeats shape.attributes
    else tests_repeat shape.attributes

-- whether all tests of a line hold, or its first fault; a line without the shape has none
abbrev pub line_holds : Wanted → Option Shape → Result Bool NodeFault
line_holds wanted None = Ok true
line_holds wanted (Some shape) =
    attributes_hold wanted (is_switch (Some shape)) shape.attributes

-- ---- the line that is kept

-- a line from this place on, where each test behind so many spaces becomes spaces
abbrev pub without_tests : ℕ → ℕ → List WrittenAttr → List ℕ → List ℕ
without_tests spaces from [] line = drop from line
without_tests spaces from (written ∷ others) line =
    let end : ℕ = spaces + written.value_place + length written.value + 1 in
    if is_test written.name
    then take (spaces + written.name_place - from) (drop from line)
    ++ replicate (end - (spaces + written.name_place)) space
    ++ without_tests spaces end others line
    else without_tests spaces from others line

-- the line as it is kept
abbrev pub kept_line : ℕ → Option Shape → List ℕ → List ℕ
kept_line spaces None line = line
kept_line spaces (Some shape) line = without_tests spaces 0 shape.attributes line

-- ---- a line without tests

-- `y`, which stands in the name of each test
abbrev pub is_y : ℕ → Bool
is_y b = b == 121

-- a line that is no switch, and whose tests hold without a fault since it has none
pub record IsPlain (shape : Option Shape) : Type 0 where
  pub single : repeats_test shape ≡ false
  pub holds : (wanted : Wanted) → line_holds wanted shape ≡ Ok true
  pub other : is_switch shape ≡ false
  pub kept : (spaces : ℕ) (line : List ℕ) → kept_line spaces shape line ≡ line

-- ---- one more line

-- a line as it is looked at: the spaces before it, and its shape
pub record Seen : Type 0 where
  pub line : List ℕ
  pub spaces : ℕ
  pub shape : Option Shape

-- a line and its shape
abbrev pub seen : List ℕ → Seen
seen line = record {
  line = line;
  spaces = prefix_len is_space line;
  shape = shape_of (drop (prefix_len is_space line) line);
}

-- how other lines below fare once a line below was kept: those of a switch are set aside
abbrev pub behind_kept : Below → Below
behind_kept Switch = Taken
behind_kept below = below

-- how the lines below a kept line fare
abbrev pub below_kept : Bool → Below
below_kept true = Switch
below_kept false = Open

-- whether it is the level of a switch
abbrev pub is_of_switch : Below → Bool
is_of_switch Switch = true
is_of_switch Taken = true
is_of_switch _ = false

-- how many levels a line at this depth is raised: one for each switch above it
abbrev pub raised : Choice → ℕ → ℕ
raised choice depth = count_by is_of_switch (take (depth + 1) choice.levels)

-- the choice with a line at this depth: how those beside it fare, and those below it
abbrev pub with_levels : Choice → ℕ → Below → Below → Choice
with_levels choice depth others under =
    record choice { levels = take depth choice.levels ++ others ∷ under ∷ [] }

-- a kept line; a switch stands for what is chosen below it
abbrev pub with_kept : Choice → ℕ → Below → Seen → Bool → Choice × Chosen
with_kept choice depth parent line true =
    (with_levels choice depth (behind_kept parent) Switch, Dropped)
with_kept choice depth parent line false = (
  record (with_levels choice depth (behind_kept parent) Open)
      { line = kept_line line.spaces line.shape line.line },
  Kept (raised choice depth),
)

-- a line below a line of which this holds, whose tests hold or don't
abbrev pub judged : Choice → ℕ → Below → Seen → Bool → Choice × Chosen
judged choice depth parent line true =
    with_kept choice depth parent line (is_switch line.shape)
judged choice depth parent line false = (with_levels choice depth parent Aside, Dropped)

-- a line that isn't set aside: the faults of its tests come first
abbrev pub tested : Choice → ℕ → Below → Seen → Result (Choice × Chosen) Refusal
tested choice depth parent line = do
  single ← refuse_if (repeats_test line.shape) refusal.BadOutline
  holds ← in_line line.spaces (line_holds choice.wanted line.shape)
  Ok (judged choice depth parent line holds)

-- a line at this depth, below a line of which this holds, where there is one
abbrev pub with_below : Choice → ℕ → Option Below → Seen → Result (Choice × Chosen) Refusal
with_below choice depth None line = do
  single ← refuse_if (repeats_test line.shape) refusal.BadOutline
  Err refusal.DepthJump
with_below choice depth (Some Open) line = tested choice depth Open line
with_below choice depth (Some Switch) line = tested choice depth Switch line
with_below choice depth (Some parent) line = Ok (with_levels choice depth parent Aside, Dropped)

-- one more line
abbrev pub chosen : Choice → Seen → Result (Choice × Chosen) Refusal
chosen choice line = do
  even ← refuse_if (line.spaces % 2 == 1) refusal.BadOutline
  with_below choice (line.spaces / 2) (slice_get choice.levels (line.spaces / 2)) line

-- one more line of bytes
abbrev pub pushed : Choice → List ℕ → Result (Choice × Chosen) Refusal
pushed choice line = chosen choice (seen line)
