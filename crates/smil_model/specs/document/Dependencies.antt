-- Which elements' times follow from which: the dependencies between elements,
-- and the references that are looped.
use Rattle.std.specs.Prelude.{ℕ, List, [], ◌∷◌, ◌++◌, Bool, false, ◌&&◌, ◌||◌, ◌==◌, Option, Some, None}
use Rattle.std.specs.List.{list_any}
use Rattle.smil_model.specs.declared.document.Node.{Node}
use Rattle.smil_model.specs.declared.document.Item.{Item}
use Rattle.smil_model.specs.declared.document.Item.TheVariants.{Sync}
use Rattle.smil_model.specs.document.Document.{elements, element_named, has_serial, is_time_child, previous_in_seq, serials}
use Rattle.smil_model.specs.document.Defaults.{begin_list, end_list, takes_implicit}
use Rattle.smil_model.specs.document.Closure.{closure, has}

-- whether the simple duration of the element is its implicit duration
abbrev pub has_implicit_duration : Node → Bool
has_implicit_duration e = takes_implicit e.attrs e.attrs.dur

-- the items of both lists
abbrev pub all_items : List Node → Node → List Item
all_items nodes e = begin_list nodes e ++ end_list e

-- whether the item refers to the begin or the end of the element with this serial
abbrev pub is_sync_with : List Node → ℕ → Item → Bool
is_sync_with nodes x (Sync who edge offset) = has_serial x (element_named nodes who)
is_sync_with nodes x _ = false

-- the three kinds of dependency: a container whose simple duration is implicit follows from its
-- time children, a child of a seq from the child before it,
-- and an element from each one to whose begin or end it refers
abbrev pub feeds_node : List Node → ℕ → Node → Bool
feeds_node nodes x e =
    (has_implicit_duration e
    && list_any (λ (c : Node). (c.serial == x) && is_time_child nodes e.serial c) nodes)
    || has_serial x (previous_in_seq nodes e.serial)
    || list_any (is_sync_with nodes x) (all_items nodes e)

-- whether the times of y follow from those of x
abbrev pub feeds : List Node → ℕ → ℕ → Bool
feeds nodes x y = list_any (λ (e : Node). (e.serial == y) && feeds_node nodes x e) (elements nodes)

-- whether x is e, or follows from it by any number of dependencies
abbrev pub leads_to : List Node → ℕ → ℕ → Bool
leads_to nodes e x = has (closure (feeds nodes) (serials (elements nodes)) (e ∷ [])) x

-- a reference of e is looped where e leads to the element that it names; other items,
-- and references that name no element, never are
abbrev pub is_looped_to : List Node → ℕ → Option Node → Bool
is_looped_to nodes e None = false
is_looped_to nodes e (Some x) = leads_to nodes e x.serial

abbrev pub is_looped : List Node → ℕ → Item → Bool
is_looped nodes e (Sync who edge offset) = is_looped_to nodes e (element_named nodes who)
is_looped nodes e _ = false
