use Rattle.std.proofs.Common.{rules, ◌≡◌, ◌∙◌, sym, ap, subst}
use Rattle.std.specs.Prelude.{◌==◌}
use Rattle.std.specs.FinMap.{get}
use Rattle.std.specs.List.{position}
use Rattle.smil_rounds.specs.declared.current_rows.CurrentRow.{CurrentRow}
use Rattle.smil_rounds.specs.Rows.{AreNear}
use Rattle.smil_rounds.proofs.current_rows.CurrentRowsDuplicate.copy.Goals as goal

pub invariant_of-result : goal.invariant_of-result
invariant_of-result c =
    let was = c.self.inside in
    let same : c.in_ok-from_slice.field-0.items ≡ was.rows.items = c.in_ok-from_slice.ensures.items ∙ c.deref.ensures.value in
    let same_places : c.in_ok-clone.field-0.value ≡ was.places.value = search rules in (
      subst AreNear (sym same) c.self.invariant.0,
      λ s. ap (λ places. get places s) same_places ∙ c.self.invariant.1 s ∙ ap (position (λ (r : CurrentRow). r.serial == s)) (sym same),
    )
