-- No definition refuses anything since memory ran out: the choice among a load's lines, and their rewriting.
use Rattle.std.proofs.Common.{◌≡◌, ◌∷◌, Bool, true, false, List, [], length, Option, Some, None, Result, Ok, Err, refl}
use Rattle.std.specs.Prelude.{ℕ, ◌+◌, ◌/◌, ◌%◌, ◌==◌, ℤ, ◌-ℤ◌, ◌&&◌, not, bytes_eq, codes, drop, slice_get}
use Rattle.std.specs.List.{prefix_len}
use Rattle.std.specs.Option.{ok_or}
use Rattle.std.specs.Prelude.{is_some}
use Rattle.smil_model.specs.declared.order.Refusal.{Refusal}
use Rattle.smil_model.specs.declared.order.Refusal.TheVariants as refusal
use Rattle.smil_grammar.specs.declared.fault.ItemFault.{ItemFault}
use Rattle.smil_grammar.specs.declared.fault.ItemFault.TheVariants as item
use Rattle.smil_grammar.specs.declared.fault.AttrFault.TheVariants as attr
use Rattle.smil_grammar.specs.declared.fault.NodeFault.{NodeFault}
use Rattle.smil_grammar.specs.declared.fault.NodeFault.TheVariants as fault
use Rattle.smil_grammar.specs.Texts.{is_white, trim, cut_at, close_parenthesis}
use Rattle.smil_grammar.specs.Items.{tail_of}
use Rattle.smil_wall.specs.declared.items.TheConstants.{WALL_CLOCK}
use Rattle.smil_grammar.specs.Instants.{letter_t, date_of, zoned_time_of, dated, midnight_or, wall_clock_or, wall_clock_of}
use Rattle.smil_grammar.specs.Lists.{item_pieces}
use Rattle.smil_grammar.specs.Nodes.{WrittenAttr, Shape, at_column, quote_pieces}
use Rattle.smil_grammar.specs.Outlines.{refuse_if, in_line}
use Rattle.smil_wall.specs.declared.fault.WallFault.{WallFault}
use Rattle.smil_wall.specs.declared.fault.WallFault.TheVariants as wall
use Rattle.smil_wall.specs.Rewriting.{is_wall, wall_in, near, since, at_place, piece_rewritten, pieces_rewritten, after, opens_list, part_rewritten, parts_rewritten, is_rewritten, with_anchor, rewritten}
use Rattle.smil_switch.specs.declared.chosen.Below.{Below}
use Rattle.smil_switch.specs.declared.chosen.Below.TheVariants.{Aside, Open, Switch, Taken}
use Rattle.smil_switch.specs.Preferences.{Wanted, is_test, is_other_test, test_of}
use Rattle.smil_switch.specs.Choices.{Choice, Seen, attribute_holds, attributes_hold, is_switch, repeats_test, line_holds, judged, tested, with_below, chosen, seen, pushed}
use Rattle.smil_top.specs.Transcript.{is_memory}
use Rattle.smil_top.proofs.ReadingsNeedNoMemory.{Sure, made, refused, either, found, onward, item_lacks, attr_lacks, node_lacks, column_sure}

-- ---- what is rewritten

abbrev pub wall_lacks : WallFault → Bool
wall_lacks wall.Memory = true
wall_lacks _ = false

midnight_sure : (text : List ℕ) (day : Option ℤ) → Sure item_lacks (midnight_or text day)
midnight_sure text (Some day) = made item_lacks _
midnight_sure text None = either item_lacks (is_some (zoned_time_of true text)) _ _ (refused item_lacks item.Unsupported refl) (refused item_lacks item.Bad refl)

moment_sure : (text : List ℕ) (cut : Option (List ℕ × List ℕ)) → Sure item_lacks (wall_clock_or text cut)
moment_sure text None = midnight_sure text (date_of text)
moment_sure text (Some cut) = found item_lacks (dated true cut.0 cut.1) item.Bad refl

wall_in_sure : (cut : Option (List ℕ × List ℕ)) → Sure item_lacks (wall_in cut)
wall_in_sure None = refused item_lacks item.Bad refl
wall_in_sure (Some cut) =
    onward item_lacks (wall_clock_of cut.0) _ (moment_sure cut.0 (cut_at letter_t cut.0))
    (λ w. onward item_lacks (ok_or (tail_of cut.1) item.Bad) _ (found item_lacks (tail_of cut.1) item.Bad refl) (λ o. made item_lacks _))

near_sure : (z : ℤ) → Sure item_lacks (near z)
near_sure z = either item_lacks _ _ _ (refused item_lacks item.Bad refl) (made item_lacks z)

since_sure : (start : ℤ) (text : List ℕ) → Sure item_lacks (since start text)
since_sure start text = onward item_lacks (wall_in (cut_at close_parenthesis (drop (length WALL_CLOCK.now) text))) _ (wall_in_sure (cut_at close_parenthesis (drop (length WALL_CLOCK.now) text))) (λ at. near_sure (at -ℤ start))

at_place_sure : (place : ℕ) (r : Result ℤ ItemFault) → Sure item_lacks r → Sure wall_lacks (at_place place r)
at_place_sure place (Ok z) h = made wall_lacks z
at_place_sure place (Err item.Bad) h = refused wall_lacks _ refl
at_place_sure place (Err item.Unsupported) h = refused wall_lacks _ refl
at_place_sure place (Err item.Memory) h = let never : true ≡ false = h.never in absurd cc

piece_sure : (root : List ℕ) (start : ℤ) (place : ℕ) (piece : List ℕ) → Sure wall_lacks (piece_rewritten root start place piece)
piece_sure root start place piece =
    either wall_lacks (is_wall (trim piece)) _ _
    (onward wall_lacks (at_place (place + prefix_len is_white piece) (since start (trim piece))) _ (at_place_sure _ (since start (trim piece)) (since_sure start (trim piece))) (λ offset. made wall_lacks _))
    (made wall_lacks piece)

pieces_sure : (root : List ℕ) (start : ℤ) (place : ℕ) (pieces : List (List ℕ)) → Sure wall_lacks (pieces_rewritten root start place pieces)
pieces_sure root start place [] = made wall_lacks []
pieces_sure root start place (piece ∷ []) = piece_sure root start place piece
pieces_sure root start place (piece ∷ other ∷ pieces) =
    onward wall_lacks (piece_rewritten root start place piece) _ (piece_sure root start place piece)
    (λ front. onward wall_lacks (pieces_rewritten root start (place + length piece + 1) (other ∷ pieces)) _ (pieces_sure root start (place + length piece + 1) (other ∷ pieces)) (λ rest. made wall_lacks _))

part_sure : (root : List ℕ) (start : ℤ) (place : ℕ) (before part : List ℕ) → Sure wall_lacks (part_rewritten root start place before part)
part_sure root start place before part = either wall_lacks (opens_list before) _ _ (pieces_sure root start place (item_pieces part)) (made wall_lacks part)

parts_sure : (root : List ℕ) (start : ℤ) (place : ℕ) (before : List ℕ) (parts : List (List ℕ)) → Sure wall_lacks (parts_rewritten root start place before parts)
parts_sure root start place before [] = made wall_lacks []
parts_sure root start place before (part ∷ []) = part_sure root start place before part
parts_sure root start place before (part ∷ other ∷ parts) =
    onward wall_lacks (part_rewritten root start place before part) _ (part_sure root start place before part)
    (λ front. onward wall_lacks (parts_rewritten root start (place + length part + 1) (after before part) (other ∷ parts)) _ (parts_sure root start (place + length part + 1) (after before part) (other ∷ parts)) (λ rest. made wall_lacks _))

anchor_sure : (root : Option (List ℕ)) (start : ℤ) (line : List ℕ) → Sure wall_lacks (with_anchor root start line)
anchor_sure None start line = refused wall_lacks wall.NoAnchor refl
anchor_sure (Some root) start line = parts_sure root start 0 [] (quote_pieces line)

pub rewritten_sure : (root : Option (List ℕ)) (start : ℤ) (line : List ℕ) → Sure wall_lacks (rewritten root start line)
rewritten_sure root start line = either wall_lacks (is_rewritten line) _ _ (anchor_sure root start line) (made wall_lacks line)

-- ---- what is chosen

attribute_sure : (wanted : Wanted) (switch : Bool) (written : WrittenAttr) → Sure attr_lacks (attribute_holds wanted switch written)
attribute_sure wanted switch written =
    either attr_lacks (is_test written.name) _ _ (found attr_lacks (test_of wanted written.name (trim written.value)) (attr.BadValue 0) refl)
    (either attr_lacks (is_other_test written.name) _ _ (refused attr_lacks attr.UnsupportedName refl)
    (either attr_lacks (switch && not (bytes_eq written.name (codes "id"))) _ _ (refused attr_lacks attr.UnknownAttribute refl) (made attr_lacks true)))

holds_sure : (wanted : Wanted) (switch : Bool) (all : List WrittenAttr) → Sure node_lacks (attributes_hold wanted switch all)
holds_sure wanted switch [] = made node_lacks true
holds_sure wanted switch (written ∷ others) =
    onward node_lacks (at_column written (attribute_holds wanted switch written)) _ (column_sure written (attribute_holds wanted switch written) (attribute_sure wanted switch written))
    (λ first. onward node_lacks (attributes_hold wanted switch others) _ (holds_sure wanted switch others) (λ rest. made node_lacks (first && rest)))

line_holds_sure : (wanted : Wanted) (shape : Option Shape) → Sure node_lacks (line_holds wanted shape)
line_holds_sure wanted None = made node_lacks true
line_holds_sure wanted (Some shape) = holds_sure wanted (is_switch (Some shape)) shape.attributes

pub in_line_sure : {A : Type 0} (spaces : ℕ) (r : Result A NodeFault) → Sure node_lacks r → Sure is_memory (in_line spaces r)
in_line_sure spaces (Ok x) h = made is_memory x
in_line_sure spaces (Err fault.BadOutline) h = refused is_memory _ refl
in_line_sure spaces (Err (fault.Unsupported column)) h = refused is_memory _ refl
in_line_sure spaces (Err fault.BadPlace) h = refused is_memory _ refl
in_line_sure spaces (Err (fault.UnknownAttribute column)) h = refused is_memory _ refl
in_line_sure spaces (Err (fault.BadValue column)) h = refused is_memory _ refl
in_line_sure spaces (Err (fault.TooManyItems column)) h = refused is_memory _ refl
in_line_sure spaces (Err fault.Memory) h = let never : true ≡ false = h.never in absurd cc

unless_sure : (b : Bool) (e : Refusal) → is_memory e ≡ false → Sure is_memory (refuse_if b e)
unless_sure true e h = refused is_memory e h
unless_sure false e h = made is_memory tt

tested_sure : (choice : Choice) (depth : ℕ) (parent : Below) (line : Seen) → Sure is_memory (tested choice depth parent line)
tested_sure choice depth parent line =
    onward is_memory (refuse_if (repeats_test line.shape) refusal.BadOutline) _ (unless_sure (repeats_test line.shape) refusal.BadOutline refl)
    (λ single. onward is_memory (in_line line.spaces (line_holds choice.wanted line.shape)) _ (in_line_sure line.spaces (line_holds choice.wanted line.shape) (line_holds_sure choice.wanted line.shape))
    (λ holds. made is_memory (judged choice depth parent line holds)))

below_sure : (choice : Choice) (depth : ℕ) (parent : Option Below) (line : Seen) → Sure is_memory (with_below choice depth parent line)
below_sure choice depth None line =
    onward is_memory (refuse_if (repeats_test line.shape) refusal.BadOutline) _ (unless_sure (repeats_test line.shape) refusal.BadOutline refl) (λ single. refused is_memory refusal.DepthJump refl)
below_sure choice depth (Some Open) line = tested_sure choice depth Open line
below_sure choice depth (Some Switch) line = tested_sure choice depth Switch line
below_sure choice depth (Some Aside) line = made is_memory _
below_sure choice depth (Some Taken) line = made is_memory _

chosen_sure : (choice : Choice) (line : Seen) → Sure is_memory (chosen choice line)
chosen_sure choice line =
    onward is_memory (refuse_if (line.spaces % 2 == 1) refusal.BadOutline) _ (unless_sure (line.spaces % 2 == 1) refusal.BadOutline refl)
    (λ even. below_sure choice (line.spaces / 2) (slice_get choice.levels (line.spaces / 2)) line)

pub pushed_sure : (choice : Choice) (line : List ℕ) → Sure is_memory (pushed choice line)
pushed_sure choice line = chosen_sure choice (seen line)
