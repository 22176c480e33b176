use Rattle.std.proofs.Common.{◌≡◌, ◌∙◌, ap, sym, subst, Option, Some, ℕ, true, arith}
use Rattle.std.specs.Prelude.{IfSome}
use Rattle.smil_model.specs.diary.Lawful.{has_element}
use Rattle.smil_instances.proofs.IdTargets.{element_of}
use Rattle.smil_past.specs.Past.{history_of}
use Rattle.smil_element.specs.Shown.{frozen_at}
use Rattle.smil_element.proofs.FrozenAncestors.{active_unfrozen, resting_frozen, frozen_lower, height_of}
use Rattle.smil_element.proofs.frozen.+is_frozen.Goals as goal

pub returns-then-active : goal.returns-then-active
returns-then-active t c =
    let past = c.args.past.now in
    let h = history_of past in
    let known : has_element past.document.nodes c.in-Some.who ≡ true = subst (λ (o : Option ℕ). IfSome o (λ w. has_element past.document.nodes w ≡ true)) c.in-Some.is c.requires in
    let e = element_of past.document.nodes c.in-Some.who known in
    active_unfrozen h past.document.next c.possible.ensures.valid.numbered c.in-Some.who e.0 c.active.result e.1
    c.active.ensures c.if-active.true
    ∙ ap (frozen_at h) (sym c.in-Some.is)

pub is_frozen-above-requires : goal.is_frozen-above-requires
is_frozen-above-requires t c =
    let past = c.args.past.now in
    let h = history_of past in
    let known : has_element past.document.nodes c.in-Some.who ≡ true = subst (λ (o : Option ℕ). IfSome o (λ w. has_element past.document.nodes w ≡ true)) c.in-Some.is c.requires in
    let e = element_of past.document.nodes c.in-Some.who known in
    let lower = frozen_lower h past.document.next c.possible.ensures.valid.numbered c.in-Some.who e.0 c.parent_of.result e.1 c.parent_of.ensures.parent in
    let here : height_of past.document.nodes c.args.who ≡ height_of past.document.nodes (Some c.in-Some.who) = ap (height_of past.document.nodes) c.in-Some.is in
    (omega (arith, lower, here, c.decreases), c.parent_of.ensures.element)

pub returns : goal.returns
returns t c =
    let past = c.args.past.now in
    let h = history_of past in
    let known : has_element past.document.nodes c.in-Some.who ≡ true = subst (λ (o : Option ℕ). IfSome o (λ w. has_element past.document.nodes w ≡ true)) c.in-Some.is c.requires in
    let e = element_of past.document.nodes c.in-Some.who known in
    resting_frozen h past.document.next c.possible.ensures.valid.numbered c.in-Some.who e.0 c.active.result c.is_frozen-above.result c.rests_frozen.result e.1
    c.active.ensures c.if-active.false
    (c.is_frozen-above.ensures ∙ ap (frozen_at h) c.parent_of.ensures.parent) (c.rests_frozen.ensures e.0 e.1)
    ∙ ap (frozen_at h) (sym c.in-Some.is)
