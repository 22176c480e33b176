-- Whether an edit leaves the references as they were: what the ids name, and which references are
-- looped.
use Rattle.std.specs.Prelude.{ℕ, List, [], ◌++◌, map, Bool, true, false, not, ◌&&◌, ◌||◌, ◌==◌, Option, Some, None, is_some}
use Rattle.std.specs.Bool.{beq}
use Rattle.std.specs.Cmp.Lexicographic.{pointwise}
use Rattle.std.specs.List.{list_all}
use Rattle.std.specs.Str.{bytes_eq}
use Rattle.smil_model.specs.declared.document.Node.{Node}
use Rattle.smil_model.specs.document.Document.{elements, element_named, is_element, node_at, serial_of}
use Rattle.smil_model.specs.document.Dependencies.{all_items, is_looped}

-- the serial of the element with this id
abbrev pub serial_named : List Node → List ℕ → Option ℕ
serial_named nodes id = serial_of (element_named nodes id)

-- whether two serials are the same, or both absent
abbrev pub is_same_serial : Option ℕ → Option ℕ → Bool
is_same_serial None None = true
is_same_serial (Some x) (Some y) = x == y
is_same_serial _ _ = false

-- whether an id names the same element in both
abbrev pub keeps_id : List Node → List Node → Option (List ℕ) → Bool
keeps_id old new None = true
keeps_id old new (Some id) = is_same_serial (serial_named old id) (serial_named new id)

-- whether each id of a node in either names the same element in both
abbrev pub keeps_ids : List Node → List Node → Bool
keeps_ids old new = list_all (λ (n : Node). keeps_id old new n.attrs.id) (old ++ new)

-- whether two ids are the same, or both absent
abbrev pub is_same_id : Option (List ℕ) → Option (List ℕ) → Bool
is_same_id None None = true
is_same_id (Some one) (Some other) = bytes_eq one other
is_same_id _ _ = false

-- whether two nodes have the same serial and id, and are both elements or both not
abbrev pub is_alike : Node → Node → Bool
is_alike n m =
    (n.serial == m.serial) && beq (is_element n) (is_element m)
    && is_same_id n.attrs.id m.attrs.id

-- which items of an element are looped references
abbrev pub loops : List Node → Option Node → List Bool
loops nodes None = []
loops nodes (Some e) = map (is_looped nodes e.serial) (all_items nodes e)

-- whether two lists of marks are the same
abbrev pub are_same_marks : List Bool → List Bool → Bool
are_same_marks one other = pointwise beq one other

-- whether the items of an element that both have are looped as before; the edited one is left out
abbrev pub keeps_loops_of : ℕ → List Node → List Node → ℕ → Bool
keeps_loops_of edited old new serial =
    (serial == edited)
    || not (is_some (node_at (elements new) serial))
    || are_same_marks (loops old (node_at (elements old) serial))
    (loops new (node_at (elements new) serial))

-- whether that holds of each element
abbrev pub keeps_loops : ℕ → List Node → List Node → Bool
keeps_loops edited old new =
    list_all (λ (e : Node). keeps_loops_of edited old new e.serial) (elements old)

-- an edit of this node leaves the references as they were
abbrev pub keeps_references : ℕ → List Node → List Node → Bool
keeps_references edited old new = keeps_ids old new && keeps_loops edited old new
