-- What an edit of a document gives: the document after it, or the first refusal that holds.
use Rattle.std.specs.Prelude.{◌≡◌, ℕ, suc, List, length, Bool, true, false, not, ◌&&◌, ◌||◌, ◌==◌, nat_lt, nat_le, if◌then◌else◌, Option, Some, None, Result, Ok, Err, ⊤}
use Rattle.smil_model.specs.declared.limits.TheConstants.{NODES, DEPTH, REFERENCES, SERIALS}
use Rattle.smil_model.specs.declared.document.Node.{Node}
use Rattle.smil_model.specs.declared.document.Kind.{Kind}
use Rattle.smil_model.specs.declared.document.Attr.{Attr}
use Rattle.smil_model.specs.declared.document.Attrs.{Attrs}
use Rattle.smil_model.specs.document.Document.{Document, node_at, is_class_kind}
use Rattle.smil_model.specs.document.Values.{fit_kind}
use Rattle.smil_model.specs.document.Valid.{depth_of, kind_of, may_stand, agree_with, same_test, is_id_taken, references}
use Rattle.smil_model.specs.document.Edits.{attr_set, node_inserted, node_removed, with_attr}
use Rattle.smil_model.specs.shown.Orders.{id_in, is_place}
use Rattle.smil_tree.specs.declared.fault.TreeFault.{TreeFault}
use Rattle.smil_tree.specs.declared.fault.TreeFault.TheVariants.{TooDeep, BadPlace, DuplicateId, TooManyElements, TooManyReferences, Root, Memory}

-- this fault is the outcome, or memory ran out
abbrev pub IsFaultOf : {A : Type 0} → Result A TreeFault → TreeFault → Type 0
IsFaultOf outcome Memory = Unit {0}
IsFaultOf outcome fault = outcome ≡ Err fault

-- whether a node passes
abbrev pub passes : (Node → Bool) → Option Node → Bool
passes test None = false
passes test (Some n) = test n

-- whether the attributes of a node fit its kind and its parent's kind after this one is set
abbrev pub may_take : List Node → ℕ → Attr → Bool
may_take nodes serial given =
    passes (λ (n : Node). fit_kind n.kind (kind_of (node_at nodes n.parent))
    (with_attr n.attrs given)) (node_at nodes serial)

-- whether the attributes fit a child of this kind
abbrev pub may_bear : List Node → ℕ → Kind → Attrs → Bool
may_bear nodes parent kind attrs =
    passes (λ (p : Node). fit_kind kind (Some p.kind) attrs) (node_at nodes parent)

abbrev pub set_outcome : Document → ℕ → Attr → Result Document TreeFault
set_outcome document serial given =
    let after = attr_set document serial given in
    if is_id_taken document.nodes serial (id_in given) then Err DuplicateId
    else (if nat_lt REFERENCES (references after.nodes) then Err TooManyReferences else Ok after)

-- where a child of this kind may be inserted
abbrev pub place_outcome : List Node → ℕ → ℕ → Kind → Result ⊤ TreeFault
place_outcome nodes parent place kind =
    if not (nat_lt (suc (depth_of nodes parent)) DEPTH) then Err TooDeep
    else (if is_place nodes parent place && may_stand (kind_of (node_at nodes parent)) kind
    && agree_with nodes parent kind
    then Ok tt
    else Err BadPlace)

abbrev pub and_after : {A B E : Type 0} → Result A E → Result B E → Result B E
and_after (Err fault) outcome = Err fault
and_after (Ok done) outcome = outcome

-- where a node with these attributes makes this document of the one before
abbrev pub room_outcome : Document → Attrs → Document → Result Document TreeFault
room_outcome document attrs after =
    if is_id_taken document.nodes document.next attrs.id then Err DuplicateId
    else (if nat_lt NODES (length after.nodes) || nat_le SERIALS document.next
    then Err TooManyElements
    else (if nat_lt REFERENCES (references after.nodes) then Err TooManyReferences else Ok after))

abbrev pub insert_outcome : Document → ℕ → ℕ → Kind → Attrs → Result Document TreeFault
insert_outcome document parent place kind attrs =
    and_after (place_outcome document.nodes parent place kind)
    (room_outcome document attrs (node_inserted document parent place kind attrs))

-- whether this is a node without a parent
abbrev pub is_root : Option Node → Bool
is_root node = passes (λ (n : Node). n.parent == 0) node

abbrev pub remove_outcome : Document → ℕ → Result Document TreeFault
remove_outcome document serial =
    if is_root (node_at document.nodes serial) then Err Root else Ok (node_removed document serial)

-- whether the first child, where there is one, agrees with a kind in being a priorityClass or not
abbrev pub agrees_with_first : List Node → Option ℕ → Kind → Bool
agrees_with_first nodes None kind = true
agrees_with_first nodes (Some serial) kind =
    passes (λ (n : Node). same_test (is_class_kind n.kind) (is_class_kind kind))
    (node_at nodes serial)
