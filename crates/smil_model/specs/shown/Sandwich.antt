-- SMIL Animation's sandwich: which sets give the attributes of nodes their values, by their views.
use Rattle.std.specs.Prelude.{ℕ, ℤ, int_lt, int_le, List, [], ◌∷◌, filter, filter_map, find, fold, map, Bool, true, false, ◌&&◌, ◌||◌, ◌==◌, nat_lt, if◌then◌else◌, Option, Some, None, is_some, option_and_then, bytes_eq}
use Rattle.std.specs.Cmp.Lexicographic.{slice_cmp}
use Rattle.std.specs.Ordering.{nat_cmp, match_ordering}
use Rattle.smil_model.specs.declared.document.Node.{Node}
use Rattle.smil_model.specs.declared.view.State.{State}
use Rattle.smil_model.specs.declared.view.State.TheVariants.{Active, Paused, Frozen}
use Rattle.smil_model.specs.declared.view.Shown.{Shown}
use Rattle.smil_model.specs.declared.view.Shown.TheVariants.{At}
use Rattle.smil_model.specs.declared.view.View.{View}
use Rattle.smil_model.specs.declared.view.Layer.{Layer}
use Rattle.smil_model.specs.document.Document.{node_at, has_id, is_set_kind, time_parent}
use Rattle.smil_model.specs.document.Edits.{place_in}

-- a set contributes while it is active, paused or frozen
abbrev pub contributes : State → Bool
contributes Active = true
contributes Paused = true
contributes Frozen = true
contributes _ = false

-- the target of a set: the node with the id, or the time parent where it names none
abbrev pub target_by : List Node → ℕ → Option (List ℕ) → Option Node
target_by nodes setter None = time_parent nodes setter
target_by nodes setter (Some id) = find (λ (n : Node). has_id id n.attrs.id) nodes

abbrev pub begin_shown : Shown → Option ℤ
begin_shown (At begin) = Some begin
begin_shown _ = None

abbrev pub layer_by : ℕ → Option Node → Option (List ℕ) → Option ℤ → Option Layer
layer_by place (Some target) (Some name) (Some begin) =
    Some (record { target = target.serial; attr = name; begin = begin; position = place })
layer_by place _ _ _ = None

-- the layer of a set that contributes, and has an attribute to set, a value and a target
abbrev pub layer_of : List Node → View → Node → Option Layer
layer_of nodes view n =
    if is_set_kind n.kind && contributes view.state && is_some n.attrs.texts.to
    then layer_by (place_in nodes n.serial)
    (target_by nodes n.serial n.attrs.texts.target_element) n.attrs.texts.attribute_name
    (begin_shown view.begin)
    else None

-- a set with its layer
abbrev pub with_setter : ℕ → Option Layer → Option (ℕ × Layer)
with_setter setter None = None
with_setter setter (Some layer) = Some (setter, layer)

-- the layer of the element of a view, with its set
abbrev pub layer_in : List Node → View → Option (ℕ × Layer)
layer_in nodes v =
    with_setter v.serial (option_and_then (layer_of nodes v) (node_at nodes v.serial))

-- the layers of all sets, by the views of all elements
abbrev pub layers : List Node → List View → List (ℕ × Layer)
layers nodes views = filter_map (layer_in nodes) views

-- the greater begin stands above, and of equal ones the later in the document
abbrev pub is_above : Layer → Layer → Bool
is_above a b = int_lt b.begin a.begin || (int_le b.begin a.begin && nat_lt b.position a.position)

-- a layer in its place in a stack, from the top down
abbrev pub put_layer : List (ℕ × Layer) → ℕ × Layer → List (ℕ × Layer)
put_layer [] layer = layer ∷ []
put_layer (other ∷ below) layer =
    let rest = put_layer below layer in
    if is_above layer.1 other.1 then layer ∷ other ∷ below else other ∷ rest

-- the layers of an attribute of a target
abbrev pub layers_on : List (ℕ × Layer) → ℕ → List ℕ → List (ℕ × Layer)
layers_on all target name =
    filter (λ (l : ℕ × Layer). ((l.1).target == target) && bytes_eq (l.1).attr name) all

-- the stack of an attribute of a target: its sets from the top down
abbrev pub stack_of : List (ℕ × Layer) → ℕ → List ℕ → List ℕ
stack_of all target name =
    map (λ (l : ℕ × Layer). l.0) (fold put_layer [] (layers_on all target name))

-- ---- the attributes that are set

-- a name in its place among names in the order of their bytes, each of which stands there once
abbrev pub put_name : List (List ℕ) → List ℕ → List (List ℕ)
put_name [] name = name ∷ []
put_name (other ∷ others) name =
    let rest = put_name others name in
    match_ordering (slice_cmp nat_cmp name other)
    (name ∷ other ∷ others) (other ∷ others) (other ∷ rest)

-- the attributes of a target that are set, in the order of their bytes
abbrev pub names_on : List (ℕ × Layer) → ℕ → List (List ℕ)
names_on all target =
    fold put_name [] (map (λ (l : ℕ × Layer). (l.1).attr)
    (filter (λ (l : ℕ × Layer). (l.1).target == target) all))
