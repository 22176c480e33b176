-- Begin and end lists: items separated by `;`, with white space around each.
use Rattle.std.specs.Prelude.{◌≡◌, ℕ, ◌+◌, ◌≤◌, All, pos, int_lt, Bool, true, false, List, [], ◌∷◌, length, Option, Some, None, unwrap_or, Result, Ok, Err, nat_lt, ◌==◌, if◌then◌else◌}
use Rattle.std.specs.List.{prefix_len, slice_split}
use Rattle.smil_model.specs.declared.limits.TheConstants.{ITEMS}
use Rattle.smil_model.specs.declared.document.Item.{Item}
use Rattle.smil_model.specs.declared.document.Item.TheVariants.{Offset}
use Rattle.smil_model.specs.declared.document.Edge.{Edge}
use Rattle.smil_model.specs.declared.document.Edge.TheVariants.{Begin, End}
use Rattle.smil_grammar.specs.declared.fault.ItemFault.{ItemFault}
use Rattle.smil_grammar.specs.declared.fault.ItemFault.TheVariants as item
use Rattle.smil_grammar.specs.declared.fault.ListFault.{ListFault}
use Rattle.smil_grammar.specs.declared.fault.ListFault.TheVariants.{Bad, Unsupported, TooManyItems, Memory}
use Rattle.smil_grammar.specs.Texts.{is_white, trim, semicolon}
use Rattle.smil_grammar.specs.Results.{◌>>=◌}
use Rattle.smil_grammar.specs.Items.{item_of, IsItem}

-- A malformed item is answered at its own place, and in the begin of a child of a seq at the place
-- of the first item, which is the first argument below; None in other lists.

-- an item with the place of its fault
abbrev pub item_at : Option ℕ → ℕ → Result Item ItemFault → Result Item ListFault
item_at first place (Ok x) = Ok x
item_at first place (Err item.Bad) = Err (Bad (unwrap_or first place))
item_at first place (Err item.Unsupported) = Err (Unsupported place)
item_at first place (Err item.Memory) = Err Memory

-- a piece of the list that begins at this place: the item stands behind its white space
abbrev pub piece_at : Option ℕ → ℕ → List ℕ → Result Item ListFault
piece_at first place piece =
    item_at first (place + prefix_len is_white piece) (item_of (trim piece))

-- from left to right, up to the first fault
abbrev pub items_from : Option ℕ → ℕ → List (List ℕ) → Result (List Item) ListFault
items_from first place [] = Ok []
items_from first place (piece ∷ pieces) = do
  item ← piece_at first place piece
  items ← items_from first (place + length piece + 1) pieces
  Ok (item ∷ items)

-- the list is cut at each `;`
abbrev pub item_pieces : List ℕ → List (List ℕ)
item_pieces text = slice_split (λ b. b == semicolon) text

-- at most so many items: that there are more is answered before any fault of an item
abbrev pub few_items : Option ℕ → List ℕ → Result (List Item) ListFault
few_items first text =
    if nat_lt ITEMS (length (item_pieces text)) then Err TooManyItems
    else items_from first 0 (item_pieces text)

-- one offset that isn't negative
abbrev pub is_plain : List Item → Bool
is_plain [] = false
is_plain (Offset offset ∷ []) = if int_lt offset (pos 0) then false else true
is_plain _ = false

-- any other list is answered at the first item
abbrev pub plain_at : ℕ → List Item → Result (List Item) ListFault
plain_at place items = if is_plain items then Ok items else Err (Bad place)

-- the white space before the first item ends before the first `;` at the latest
abbrev pub first_place : List ℕ → ℕ
first_place text = prefix_len is_white text

-- the list; one that begins a child of a seq is one offset that isn't negative
abbrev pub list_of : Bool → List ℕ → Result (List Item) ListFault
list_of false text = few_items None text
list_of true text = few_items (Some (first_place text)) text >>= plain_at (first_place text)

-- what makes a list of items one that some text is read as
pub record IsList (seq_child : Bool) (items : List Item) : Type 0 where
  pub each : All IsItem items
  pub some : 1 ≤ length items
  pub few : length items ≤ ITEMS
  pub plain : seq_child ≡ true → is_plain items ≡ true

-- what a call gave is the reading, unless memory ran out
abbrev pub GivesList : {A : Type 0} → Result A ListFault → Result A ListFault → Type 0
GivesList (Ok x) reading = reading ≡ Ok x
GivesList (Err Memory) reading = Unit {0}
GivesList (Err TooManyItems) reading = reading ≡ Err TooManyItems
GivesList (Err (Bad place)) reading = reading ≡ Err (Bad place)
GivesList (Err (Unsupported place)) reading = reading ≡ Err (Unsupported place)

-- whether a list is one of begins
abbrev pub is_begin : Edge → Bool
is_begin Begin = true
is_begin End = false
