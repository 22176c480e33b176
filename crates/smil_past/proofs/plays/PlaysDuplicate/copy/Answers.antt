use Rattle.std.proofs.Common.{rules, ◌≡◌, sym, ◌∙◌, ap}
use Rattle.std.specs.Prelude.{slice_get}
use Rattle.std.specs.FinMap.{get}
use Rattle.smil_model.specs.reach.Reach.{is_option}
use Rattle.smil_past.specs.Rows.{keys_of}
use Rattle.smil_past.proofs.plays.PlaysDuplicate.copy.Goals as goal

pub invariant_of-result : goal.invariant_of-result
invariant_of-result c = λ row who.
    let was = c.self.inside in
    let same_rows : c.in_ok-from_slice.field-0.items ≡ was.rows.items = c.in_ok-from_slice.ensures.items ∙ c.deref.ensures.value in
    let same_places : c.in_ok-clone.field-0.value ≡ was.places.value = search rules in
    ap (λ places. is_option row (get places who)) same_places
    ∙ c.self.invariant row who
    ∙ ap (λ rows. is_option who (slice_get (keys_of rows) row)) (sym same_rows)
