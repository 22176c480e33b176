-- The open branch of an outline that is read, and what is kept of the lines before.
use Rattle.std.specs.Prelude.{◌≡◌, ℕ, ◌≤◌, Bool, true, false, not, ◌||◌, ◌==◌, List, [], ◌∷◌, length, take, Option, Some, None, Ok, is_some, unwrap_or, option_map, slice_get, bytes_eq}
use Rattle.std.specs.List.{list_any}
use Rattle.std.specs.FinMap.{FinMap, get}
use Rattle.std.specs.Ordering.{nat_cmp}
use Rattle.smil_model.specs.declared.limits.TheConstants.{NODES, REFERENCES}
use Rattle.smil_model.specs.declared.document.Kind.{Kind}
use Rattle.smil_model.specs.declared.document.Node.{Node}
use Rattle.smil_model.specs.document.Valid.{references, same_test}
use Rattle.smil_model.specs.document.Document.{is_class_kind}
use Rattle.smil_grammar.specs.Outlines.{Outline, no_lines, has_id, last_of, mixes, with_lines}

-- a serial that a node has
abbrev pub has_serial : List Node → ℕ → Bool
has_serial nodes serial = list_any (λ (n : Node). n.serial == serial) nodes

-- a serial that has a place, as each has where no places are kept
abbrev pub has_place : Option (FinMap nat_cmp ℕ) → ℕ → Bool
has_place None serial = true
has_place (Some places) serial = is_some (get places serial)

-- an id among others
abbrev pub is_among_ids : List (List ℕ) → List ℕ → Bool
is_among_ids ids id = list_any (λ (other : List ℕ). bytes_eq other id) ids

-- the ids of these nodes, the empty id for a node without one, their serials have places, and how
-- many items refer to something
pub record IsNoted
    (nodes : List Node) (ids : List (List ℕ)) (places : Option (FinMap nat_cmp ℕ)) (count : ℕ) : Type 0
  where
    pub counted : count ≡ references nodes
    pub few : count ≤ REFERENCES
    pub named : (id : List ℕ) → is_among_ids ids id ≡ has_id nodes (Some id)
    pub numbered :
        (serial : ℕ) → has_serial nodes serial ≡ true → has_place places serial ≡ true

-- whether one of a node and a kind is a class and the other is none
abbrev pub differs : Option (ℕ × Kind) → Kind → Bool
differs None kind = false
differs (Some node) kind = not (same_test (is_class_kind node.1) (is_class_kind kind))

-- the serial of a node, 0 where there is none
abbrev pub serial_of : Option (ℕ × Kind) → ℕ
serial_of node = unwrap_or (option_map (λ (n : ℕ × Kind). n.0) node) 0

-- a serial that a node has, or the root's parent's
abbrev pub is_known : List Node → ℕ → Bool
is_known nodes serial = (serial == 0) || list_any (λ (n : Node). n.serial == serial) nodes

-- the children of a node on the branch are all classes, or none is, as the one below it there;
-- no other has its serial
pub record IsAlike (nodes : List Node) (node : ℕ × Kind) (below : List (ℕ × Kind)) : Type 0 where
  pub known : is_known nodes node.0 ≡ true
  pub once : list_any (λ (other : ℕ × Kind). other.0 == node.0) below ≡ false
  pub alike : (kind : Kind) → mixes nodes (Some node) kind ≡ differs (slice_get below 0) kind

-- each node on the branch has children that are alike
abbrev pub AreAlike : List Node → List (ℕ × Kind) → Type 0
AreAlike nodes [] = Unit {0}
AreAlike nodes (node ∷ below) = IsAlike nodes node below × AreAlike nodes below

-- a serial that no node has has no children
abbrev pub AreKnown : List Node → Type 0
AreKnown nodes =
    (serial : ℕ) (kind other : Kind) → is_known nodes serial ≡ false
    → mixes nodes (Some (serial, other)) kind ≡ false

-- some lines are read as this outline
abbrev pub IsRead : Outline → Type 0
IsRead outline = (lines : List (List ℕ)) × (with_lines no_lines lines ≡ Ok outline)

-- what is true of the outline of a builder
pub record IsOfBuilder (outline : Outline) : Type 0 where
  pub few : length outline.nodes ≤ NODES
  pub read : IsRead outline
  pub parents : AreKnown outline.nodes
  pub alike : AreAlike outline.nodes outline.branch

-- a node that may stand at this depth
pub record IsPlaced (outline : Outline) (depth : ℕ) (node : Node) : Type 0 where
  pub serial : is_known outline.nodes node.serial ≡ false
  pub parent : node.parent ≡ serial_of (last_of (take depth outline.branch))
  pub unmixed : mixes outline.nodes (last_of (take depth outline.branch)) node.kind ≡ false
