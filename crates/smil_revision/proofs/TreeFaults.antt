-- What an edit of a tree comes to is what the order makes of the document.
use Rattle.std.proofs.Common.{◌≡◌, ℕ, suc, length, Bool, true, false, not, cond, ◌&&◌, ◌||◌, eqb, ltb, leb, Option, Some, Result, Ok, Err, inl, inr, refl, sym, ap, ◌∙◌}
use Rattle.std.specs.Prelude.{⊤}
use Rattle.smil_model.specs.declared.document.Node.{Node}
use Rattle.smil_model.specs.declared.document.Kind.{Kind}
use Rattle.smil_model.specs.declared.document.Attr.{Attr}
use Rattle.smil_model.specs.declared.document.Attrs.{Attrs}
use Rattle.smil_model.specs.declared.limits.TheConstants.{DEPTH, NODES, REFERENCES, SERIALS}
use Rattle.smil_model.specs.declared.order.Refusal.TheVariants as refusal
use Rattle.smil_model.specs.document.Document.{Document, node_at}
use Rattle.smil_model.specs.document.Edits.{attr_set, node_inserted, node_removed}
use Rattle.smil_model.specs.document.Limits.{limits}
use Rattle.smil_model.specs.document.Valid.{agree_with, depth_of, is_id_taken, kind_of, may_stand, references}
use Rattle.smil_model.specs.shown.Orders.{and_then, id_in, insert_checked, is_place, may_insert, node_removed_from, set_checked, unless}
use Rattle.smil_model.specs.shown.Answers.{IsRefusedBy}
use Rattle.smil_tree.specs.declared.fault.TreeFault.{TreeFault}
use Rattle.smil_tree.specs.declared.fault.TreeFault.TheVariants as fault
use Rattle.smil_tree.specs.Outcomes.{IsFaultOf, is_root, place_outcome, remove_outcome, room_outcome, set_outcome}
use Rattle.smil_tree.specs.Refusals.{of_tree}
use Rattle.smil_revision.specs.Refusing.{of_outcome}

pub fault_refuses : {A : Type 0} (r : Result A TreeFault) (f : TreeFault) → IsFaultOf r f → IsRefusedBy (of_outcome r) (of_tree f)
fault_refuses r fault.Memory h = inl refl
fault_refuses r fault.TooDeep h = inr (ap of_outcome h)
fault_refuses r fault.BadPlace h = inr (ap of_outcome h)
fault_refuses r fault.DuplicateId h = inr (ap of_outcome h)
fault_refuses r fault.TooManyElements h = inr (ap of_outcome h)
fault_refuses r fault.TooManyReferences h = inr (ap of_outcome h)
fault_refuses r fault.Root h = inr (ap of_outcome h)

last_agrees : {A : Type 0} (a : Bool) (x : A) → unless a refusal.TooManyReferences x ≡ of_outcome (cond a (Err fault.TooManyReferences) (Ok x))
last_agrees true x = refl
last_agrees false x = refl

tests_agree : {A : Type 0} (a : Bool) (b : A → Bool) (x : A) → and_then (unless a refusal.DuplicateId x) (λ (after : A). unless (b after) refusal.TooManyReferences after) ≡ of_outcome (cond a (Err fault.DuplicateId) (cond (b x) (Err fault.TooManyReferences) (Ok x)))
tests_agree true b x = refl
tests_agree false b x = last_agrees (b x) x

pub set_is : (d : Document) (n : Node) (given : Attr) → set_checked limits d n given ≡ of_outcome (set_outcome d n.serial given)
set_is d n given = tests_agree (is_id_taken d.nodes n.serial (id_in given)) (λ (after : Document). ltb REFERENCES (references after.nodes)) (attr_set d n.serial given)

middle_agrees : {A : Type 0} (b : Bool) (c : A → Bool) (x : A) → and_then (unless b refusal.TooManyElements x) (λ (checked : A). unless (c checked) refusal.TooManyReferences checked) ≡ of_outcome (cond b (Err fault.TooManyElements) (cond (c x) (Err fault.TooManyReferences) (Ok x)))
middle_agrees true c x = refl
middle_agrees false c x = last_agrees (c x) x

room_agrees : {A : Type 0} (a : Bool) (b c : A → Bool) (x : A) → and_then (unless a refusal.DuplicateId x) (λ (after : A). and_then (unless (b after) refusal.TooManyElements after) (λ (checked : A). unless (c checked) refusal.TooManyReferences checked)) ≡ of_outcome (cond a (Err fault.DuplicateId) (cond (b x) (Err fault.TooManyElements) (cond (c x) (Err fault.TooManyReferences) (Ok x))))
room_agrees true b c x = refl
room_agrees false b c x = middle_agrees (b x) c x

pub room_is : (d : Document) (parent place : ℕ) (kind : Kind) (attrs : Attrs) → insert_checked limits d parent place kind attrs ≡ of_outcome (room_outcome d attrs (node_inserted d parent place kind attrs))
room_is d parent place kind attrs =
    room_agrees (is_id_taken d.nodes d.next attrs.id) (λ (after : Document). ltb NODES (length after.nodes) || leb SERIALS d.next) (λ (after : Document). ltb REFERENCES (references after.nodes)) (node_inserted d parent place kind attrs)

-- the outcome of a place by its two tests
abbrev placed_by : Bool → Bool → Result ⊤ TreeFault
placed_by deep fits = cond deep (Err fault.TooDeep) (cond fits (Ok tt) (Err fault.BadPlace))

fits_agrees : (b : Bool) (kind : Kind) → unless (not b) refusal.BadPlace kind ≡ and_then (of_outcome (placed_by false b)) (λ _. Ok kind)
fits_agrees true kind = refl
fits_agrees false kind = refl

place_agrees : (a : Bool) (b : Kind → Bool) (kind : Kind) → and_then (unless (not a) refusal.TooDeep kind) (λ (k : Kind). unless (not (b k)) refusal.BadPlace k) ≡ and_then (of_outcome (placed_by (not a) (b kind))) (λ _. Ok kind)
place_agrees true b kind = fits_agrees (b kind) kind
place_agrees false b kind = refl

pub place_is : (d : Document) (p : Node) (place : ℕ) (kind : Kind) → node_at d.nodes p.serial ≡ Some p → may_insert d p place kind ≡ and_then (of_outcome (place_outcome d.nodes p.serial place kind)) (λ _. Ok kind)
place_is d p place kind at =
    place_agrees (ltb (suc (depth_of d.nodes p.serial)) DEPTH) (λ (k : Kind). is_place d.nodes p.serial place && may_stand (Some p.kind) k && agree_with d.nodes p.serial k) kind
    ∙ ap (λ (o : Option Node). and_then (of_outcome (placed_by (not (ltb (suc (depth_of d.nodes p.serial)) DEPTH)) (is_place d.nodes p.serial place && may_stand (kind_of o) kind && agree_with d.nodes p.serial kind))) (λ _. Ok kind)) (sym at)

removing : {A : Type 0} (a : Bool) (x : A) → unless a refusal.Root x ≡ of_outcome (cond a (Err fault.Root) (Ok x))
removing true x = refl
removing false x = refl

pub remove_is : (d : Document) (n : Node) → node_at d.nodes n.serial ≡ Some n → node_removed_from d n ≡ of_outcome (remove_outcome d n.serial)
remove_is d n at =
    removing (eqb n.parent 0) (node_removed d n.serial)
    ∙ ap (λ (o : Option Node). of_outcome (cond (is_root o) (Err fault.Root) (Ok (node_removed d n.serial)))) (sym at)
