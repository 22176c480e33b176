use Rattle.std.proofs.Common.{rules, ◌≡◌, sym, ◌∙◌, ap, subst}
use Rattle.std.specs.Prelude.{◌==◌}
use Rattle.std.specs.FinMap.{get}
use Rattle.std.specs.List.{position}
use Rattle.smil_stretch.specs.declared.clock.NodeClock.{NodeClock}
use Rattle.smil_stretch.specs.NodeClocks.{AllFit}
use Rattle.smil_stretch.proofs.clocks.ClocksDuplicate.copy.Goals as goal

pub invariant_of-result : goal.invariant_of-result
invariant_of-result c =
    let was = c.self.inside in
    let same_clocks : c.in_ok-from_slice.field-0.items ≡ was.clocks.items = c.in_ok-from_slice.ensures.items ∙ c.deref.ensures.value in
    let same_places : c.in_ok-clone.field-0.value ≡ was.places.value = search rules in (
      λ s. ap (λ places. get places s) same_places ∙ c.self.invariant.0 s ∙ ap (position (λ (n : NodeClock). n.serial == s)) (sym same_clocks),
      subst AllFit (sym same_clocks) c.self.invariant.1,
    )
