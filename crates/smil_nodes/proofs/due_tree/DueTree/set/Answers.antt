use Rattle.std.proofs.Common.{◌≡◌, ◌∙◌, ap, sym, subst, refl, ℕ, ◌+◌, ◌-◌, ◌/◌, ◌<◌, List, None, length, drop, set, get_or-set_same, arith}
use Rattle.std.specs.Prelude.{Option}
use Rattle.std.proofs.lemmas.List.{drop-set-add, length-drop, take_at}
use Rattle.smil_nodes.specs.Slots.{IsBesides, IsLeastBelow, WasLeastBelow, slot_at}
use Rattle.smil_nodes.proofs.DueTrees.{changed_slot, was_least}
use Rattle.smil_nodes.proofs.due_tree.DueTree.set.Goals as goal

pub decide_above-requires-clause-others : goal.decide_above-requires-clause-others
decide_above-requires-clause-others c =
    let was = c.self.inside in
    let place = was.first + c.args.slot in
    subst (λ (places : List (Option ℕ)). (p : ℕ) → p < was.first → IsBesides place p → IsLeastBelow places p) (sym c.deref_mut.ensures.value)
    (changed_slot was.places.items was.first place c.of-slot.result (omega arith) c.self.invariant.decided)

pub decide_above-requires-clause-before : goal.decide_above-requires-clause-before
decide_above-requires-clause-before c = λ some.
    let was = c.self.inside in
    let place = was.first + c.args.slot in
    let up = (place - 1) / 8 in
    let slot = c.of-slot.result in
    let known : place < length was.places.items = omega (arith, c.requires.slot, length-drop was.first was.places.items, ap length c.self.view_is) in
    subst (λ (places : List (Option ℕ)). WasLeastBelow places up (slot_at places place)) (sym c.deref_mut.ensures.value)
    (subst (WasLeastBelow (set was.places.items place slot) up) (sym (get_or-set_same was.places.items place slot None known))
    (was_least was.places.items place up slot some refl known (c.self.invariant.decided up (omega (arith, some, known, c.self.invariant.full.full, c.self.invariant.full.above)))))

pub returns : goal.returns
returns c =
    let was = c.self.inside in
    let new = c.decide_above.new.places in
    let count : length new ≡ was.places.len = omega (arith, c.deref_mut.ensures.len, was.places.ok.0) in
    ap (drop was.first) (take_at new _ was.places.len count)
    ∙ c.decide_above.ensures.kept
    ∙ ap (drop was.first) c.deref_mut.ensures.value
    ∙ drop-set-add was.first was.places.items c.args.slot c.of-slot.result
    ∙ ap (set (drop was.first was.places.items) c.args.slot) c.of-slot.ensures
    ∙ ap (λ (slots : List (Option ℕ)). set slots c.args.slot c.args.number) c.self.view_is
