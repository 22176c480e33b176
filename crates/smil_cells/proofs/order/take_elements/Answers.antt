use Rattle.std.proofs.Common.{◌≡◌, ◌∙◌, ◌++◌, sym, ap, ℕ, List, arith, length, append-nil, append_assoc}
use Rattle.std.specs.Prelude.{slice_get}
use Rattle.smil_model.specs.document.Document.{elements, serials}
use Rattle.smil_cells.specs.Shown.{elements_at, nodes_of}
use Rattle.smil_cells.proofs.ElementsByPlace.{in_order, least_first, none_stand, nothing}
use Rattle.smil_cells.proofs.order.take_elements.Goals as goal

pub loop-place-init : goal.loop-place-init
loop-place-init c = ap (λ (l : List ℕ). l ++ elements_at c.args.tree.now.nodes c.args.places.now) (c.cut_back.ensures ∙ nothing c.args.list.now)

pub loop-place-smaller : goal.loop-place-smaller
loop-place-smaller c = let taken = ap (λ (l : List ℕ). length l) c.in-Some.ensures.taken in omega (arith, taken)

pub loop-place-preserved : goal.loop-place-preserved
loop-place-preserved c =
    let nodes = c.args.tree.now.nodes in
    let place = c.in-Some.place in
    let left = c.take_first.new.self in
    ap (λ (l : List ℕ). l ++ elements_at nodes left) c.in_ok-push_element.ensures
    ∙ (append_assoc c.loop-place.list (serials (elements (nodes_of (slice_get nodes place)))) (elements_at nodes left)
    ∙ (ap (λ (l : List ℕ). c.loop-place.list ++ l) (sym (least_first nodes c.args.tree.now.next c.valid.ensures.numbered place left c.loop-place.places c.in-Some.ensures.taken c.in-Some.ensures.order))
    ∙ c.loop-place.invariant))

all_taken : (c : goal.In_default) → c.loop-place.list ≡ elements_at c.args.tree.now.nodes c.args.places.now
all_taken c =
    sym (append-nil c.loop-place.list)
    ∙ (ap (λ (l : List ℕ). c.loop-place.list ++ l) (sym (none_stand c.args.tree.now.nodes c.loop-place.places c.in_default.ensures.taken.0))
    ∙ c.loop-place.invariant)

pub returns-clause-taken : goal.returns-clause-taken
returns-clause-taken c = all_taken c

pub returns-clause-order : goal.returns-clause-order
returns-clause-order c = in_order c.args.tree.now.nodes c.args.places.now c.loop-place.list (all_taken c)
