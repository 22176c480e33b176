-- Wall clock items of a line are rewritten to offsets from the root's begin:
-- `wallclock(2008-12-01T12:00:10Z)` to `r.begin+10000ms`, where moment 0 is 12:00:00 and `r` the
-- root's id.
use Rattle.std.specs.Prelude.{◌≡◌, ℕ, ◌+◌, ◌≤◌, ℤ, neg_ℤ, ◌+ℤ◌, ◌-ℤ◌, int_lt, Bool, false, not, ◌&&◌, ◌||◌, List, [], ◌∷◌, ◌++◌, length, take, drop, Option, Some, None, is_some, Result, Ok, Err, nat_lt, ◌==◌, if◌then◌else◌, codes}
use Rattle.std.specs.List.{prefix_len, starts_with, ends_with, list_any}
use Rattle.std.specs.Bool.{nat_eq}
use Rattle.std.specs.Option.{ok_or}
use Rattle.smil_model.specs.declared.limits.TheConstants.{LINE_BYTES}
use Rattle.smil_model.specs.declared.times.TheConstants.{HORIZON}
use Rattle.smil_model.specs.declared.document.Item.TheVariants.{Sync}
use Rattle.smil_model.specs.declared.document.Edge.TheVariants.{Begin}
use Rattle.smil_grammar.specs.declared.fault.ItemFault.{ItemFault}
use Rattle.smil_grammar.specs.declared.fault.ItemFault.TheVariants as item
use Rattle.smil_grammar.specs.Results.{◌>>=◌}
use Rattle.smil_grammar.specs.Texts.{is_white, trim, trim_front, cut_at, quote, semicolon, close_parenthesis}
use Rattle.smil_grammar.specs.Items.{tail_of}
use Rattle.smil_grammar.specs.Instants.{wall_clock_of}
use Rattle.smil_grammar.specs.Lists.{item_pieces}
use Rattle.smil_grammar.specs.Nodes.{is_space, shape_of, quote_pieces}
use Rattle.smil_grammar.specs.Spellings.{item_text}
use Rattle.smil_wall.specs.declared.fault.WallFault.{WallFault}
use Rattle.smil_wall.specs.declared.fault.WallFault.TheVariants.{NoAnchor, BadValue, Unsupported, Memory}
use Rattle.smil_wall.specs.declared.items.TheConstants.{WALL_CLOCK}

-- ---- one item

-- an item that begins so is a wall clock item, whatever follows
abbrev pub is_wall : List ℕ → Bool
is_wall text = starts_with nat_eq text WALL_CLOCK.now

-- the instant in the parentheses, and the item's own offset behind it
abbrev pub wall_in : Option (List ℕ × List ℕ) → Result ℤ ItemFault
wall_in None = Err item.Bad
wall_in (Some cut) = do
  w ← wall_clock_of cut.0
  o ← ok_or (tail_of cut.1) item.Bad
  Ok (w +ℤ o)

-- a number that isn't farther from 0 than the horizon
abbrev pub near : ℤ → Result ℤ ItemFault
near z = if int_lt z (neg_ℤ HORIZON) || int_lt HORIZON z then Err item.Bad else Ok z

-- how long after the start the item's instant is
abbrev pub since : ℤ → List ℕ → Result ℤ ItemFault
since start text = do
  at ← wall_in (cut_at close_parenthesis (drop (length WALL_CLOCK.now) text))
  near (at -ℤ start)

-- the fault of an item at this place of the line
abbrev pub at_place : ℕ → Result ℤ ItemFault → Result ℤ WallFault
at_place place (Ok z) = Ok z
at_place place (Err item.Bad) = Err (BadValue place)
at_place place (Err item.Unsupported) = Err (Unsupported place)
at_place place (Err item.Memory) = Err Memory

-- what stands in an item's place: the white space round it stays
abbrev pub in_place : List ℕ → List ℕ → List ℕ
in_place piece text =
    take (prefix_len is_white piece) piece ++ text
    ++ drop (length (trim piece)) (trim_front piece)

-- ---- a value

-- a piece of a list that begins at this place
abbrev pub piece_rewritten : List ℕ → ℤ → ℕ → List ℕ → Result (List ℕ) WallFault
piece_rewritten root start place piece =
    if is_wall (trim piece)
    then (at_place (place + prefix_len is_white piece) (since start (trim piece))
    >>= λ offset. Ok (in_place piece (item_text (Sync root Begin offset))))
    else Ok piece

-- from left to right, up to the first fault
abbrev pub pieces_rewritten : List ℕ → ℤ → ℕ → List (List ℕ) → Result (List ℕ) WallFault
pieces_rewritten root start place [] = Ok []
pieces_rewritten root start place (piece ∷ []) = piece_rewritten root start place piece
pieces_rewritten root start place (piece ∷ other ∷ pieces) = do
  front ← piece_rewritten root start place piece
  rest ← pieces_rewritten root start (place + length piece + 1) (other ∷ pieces)
  Ok (front ++ semicolon ∷ rest)

-- ---- a line

-- The line is cut at each quote. What stands before an opening quote ends with a name and `=`.

-- what stands before an opening quote, behind the quote; nothing behind a closing one
abbrev pub after : List ℕ → List ℕ → List ℕ
after before piece = if length before == 0 then piece else []

-- whether a list stands behind these bytes
abbrev pub opens_list : List ℕ → Bool
opens_list before =
    ends_with nat_eq before (codes " begin=") || ends_with nat_eq before (codes " end=")

-- a piece behind these bytes
abbrev pub part_rewritten : List ℕ → ℤ → ℕ → List ℕ → List ℕ → Result (List ℕ) WallFault
part_rewritten root start place before part =
    if opens_list before then pieces_rewritten root start place (item_pieces part) else Ok part

-- from left to right, up to the first fault
abbrev pub parts_rewritten : List ℕ → ℤ → ℕ → List ℕ → List (List ℕ)
    → Result (List ℕ) WallFault
parts_rewritten root start place before [] = Ok []
parts_rewritten root start place before (part ∷ []) = part_rewritten root start place before part
parts_rewritten root start place before (part ∷ other ∷ parts) = do
  front ← part_rewritten root start place before part
  rest ← parts_rewritten root start (place + length part + 1) (after before part) (other ∷ parts)
  Ok (front ++ quote ∷ rest)

-- whether a piece has a wall clock item
abbrev pub has_wall : List ℕ → List ℕ → Bool
has_wall before part =
    opens_list before && list_any (λ piece. is_wall (trim piece)) (item_pieces part)

-- whether one of them has
abbrev pub have_wall : List ℕ → List (List ℕ) → Bool
have_wall before [] = false
have_wall before (part ∷ parts) = has_wall before part || have_wall (after before part) parts

-- whether a line is of the shape of a node line
abbrev pub is_shaped : List ℕ → Bool
is_shaped line = is_some (shape_of (drop (prefix_len is_space line) line))

-- whether a line has to be rewritten; one that is too long stays as it is
abbrev pub is_rewritten : List ℕ → Bool
is_rewritten line =
    not (nat_lt LINE_BYTES (length line)) && is_shaped line && have_wall [] (quote_pieces line)

-- with the root's id, where it has one and no begin
abbrev pub with_anchor : Option (List ℕ) → ℤ → List ℕ → Result (List ℕ) WallFault
with_anchor None start line = Err NoAnchor
with_anchor (Some root) start line = parts_rewritten root start 0 [] (quote_pieces line)

-- a line as it is read where moment 0 is at this start
abbrev pub rewritten : Option (List ℕ) → ℤ → List ℕ → Result (List ℕ) WallFault
rewritten root start line = if is_rewritten line then with_anchor root start line else Ok line

-- ---- the root's line

-- the place and the length of the first value that stands behind these bytes
abbrev pub value_place : List ℕ → ℕ → List ℕ → List (List ℕ) → Option (ℕ × ℕ)
value_place name place before [] = None
value_place name place before (part ∷ parts) =
    if ends_with nat_eq before name then Some (place, length part)
    else value_place name (place + length part + 1) (after before part) parts

-- the place and the length of the id of a root's line that has one, and no begin
abbrev pub anchor_of : List ℕ → Option (ℕ × ℕ)
anchor_of line =
    if is_shaped line && not (is_some (value_place (codes " begin=") 0 [] (quote_pieces line)))
    then value_place (codes " id=") 0 [] (quote_pieces line)
    else None

-- ---- what calls give

-- a fault that stands within so many bytes
abbrev pub FaultWithin : ℕ → WallFault → Type 0
FaultWithin bytes (BadValue place) = place ≤ bytes
FaultWithin bytes (Unsupported place) = place ≤ bytes
FaultWithin bytes _ = Unit {0}

-- what was written before, and what is still written
abbrev pub with_front : List ℕ → Result (List ℕ) WallFault → Result (List ℕ) WallFault
with_front front reading = reading >>= λ text. Ok (front ++ text)

-- what a call appended is the rewriting, unless memory ran out
abbrev pub GivesMore : List ℕ → Result (Unit {0}) WallFault → Result (List ℕ) WallFault → Type 0
GivesMore text (Ok _) reading = reading ≡ Ok text
GivesMore text (Err Memory) reading = Unit {0}
GivesMore text (Err NoAnchor) reading = reading ≡ Err NoAnchor
GivesMore text (Err (BadValue place)) reading = reading ≡ Err (BadValue place)
GivesMore text (Err (Unsupported place)) reading = reading ≡ Err (Unsupported place)

-- what a call gave is the rewriting, unless memory ran out
abbrev pub GivesLine : Result (List ℕ) WallFault → Result (List ℕ) WallFault → Type 0
GivesLine (Ok text) reading = reading ≡ Ok text
GivesLine (Err Memory) reading = Unit {0}
GivesLine (Err NoAnchor) reading = reading ≡ Err NoAnchor
GivesLine (Err (BadValue place)) reading = reading ≡ Err (BadValue place)
GivesLine (Err (Unsupported place)) reading = reading ≡ Err (Unsupported place)
