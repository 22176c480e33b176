use Rattle.std.proofs.Common.{◌∙◌, ap}
use Rattle.std.specs.Prelude.{◌==◌}
use Rattle.std.specs.FinMap.{get}
use Rattle.std.specs.List.{position}
use Rattle.smil_stretch.specs.declared.clock.NodeClock.{NodeClock}
use Rattle.smil_stretch.proofs.clocks.Clocks.indexed.Goals as goal

pub invariant_of-result : goal.invariant_of-result
invariant_of-result c = (
  λ s. ap (λ places. get places s) c.in_ok-new.ensures.ok ∙ c.in_ok-first_places.ensures s
      ∙ ap (position (λ (n : NodeClock). n.serial == s)) c.deref.ensures.value,
  c.requires,
)
