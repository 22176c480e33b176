use Rattle.std.proofs.Common.{◌∙◌, sym, ap, subst, map, ℕ, List, arith}
use Rattle.std.specs.FinMap.{get}
use Rattle.std.proofs.lemmas.List.{take_at}
use Rattle.smil_instances.specs.Spread.{IsIndex}
use Rattle.smil_past.specs.Rows.{keys_of, reset_row}
use Rattle.smil_past.proofs.IdleRows.{all_reset, keys_reset}
use Rattle.smil_past.proofs.plays.Plays.reset.Goals as goal

pub invariant_of-self : goal.invariant_of-self
invariant_of-self c =
    let is = take_at c.reset_each.new.rows _ c.self.inside.rows.len (omega (arith, c.reset_each.auto.rows, c.deref_mut.ensures.len)) ∙ c.reset_each.ensures ∙ ap (map reset_row) c.deref_mut.ensures.value in
    subst (λ (keys : List ℕ). IsIndex keys (get c.self.inside.places.value)) (sym (ap keys_of is ∙ keys_reset c.self.inside.rows.items)) c.self.invariant

pub returns : goal.returns
returns c = λ h k are same.
    take_at c.reset_each.new.rows _ c.self.inside.rows.len (omega (arith, c.reset_each.auto.rows, c.deref_mut.ensures.len))
    ∙ c.reset_each.ensures
    ∙ ap (map reset_row) (c.deref_mut.ensures.value ∙ c.self.view_is ∙ are)
    ∙ all_reset h k same
