use Rattle.std.proofs.Common.{◌∙◌, sym, ap, subst, map, arith}
use Rattle.std.specs.FinMap.{get}
use Rattle.std.proofs.lemmas.List.{take_at}
use Rattle.smil_stretch.specs.NodeClocks.{AllFit, ArePlacesOf, reset_clock}
use Rattle.smil_stretch.proofs.Reset.{reset_fit, reset_of, reset_places}
use Rattle.smil_stretch.proofs.clocks.Clocks.reset.Goals as goal

pub invariant_of-self : goal.invariant_of-self
invariant_of-self c =
    let items = c.self.inside.clocks.items in
    let is = take_at c.reset_each.new.clocks _ c.self.inside.clocks.len (omega (arith, c.reset_each.auto.clocks, c.deref_mut.ensures.len)) ∙ c.reset_each.ensures ∙ ap (map reset_clock) c.deref_mut.ensures.value in (
      subst (ArePlacesOf (get c.self.inside.places.value)) (sym is) (reset_places (get c.self.inside.places.value) items c.self.invariant.0),
      subst AllFit (sym is) (reset_fit items),
    )

pub returns : goal.returns
returns c = λ h k are same.
    let is = take_at c.reset_each.new.clocks _ c.self.inside.clocks.len (omega (arith, c.reset_each.auto.clocks, c.deref_mut.ensures.len)) ∙ c.reset_each.ensures ∙ ap (map reset_clock) c.deref_mut.ensures.value in
    reset_of c.args.self.now _ h k (is ∙ ap (map reset_clock) c.self.view_is) are same
