use Rattle.std.proofs.Common.{◌≡◌, ◌∙◌, sym, ap, subst, List, length, ◌<◌, arith, false}
use Rattle.std.proofs.lemmas.Bool.{not-true, not-false}
use Rattle.std.specs.Prelude.{get_or}
use Rattle.smil_model.specs.Rising.{IsPlaceFrom, IsRising, taken_out}
use Rattle.smil_model.proofs.RisingLists.{default_free}
use Rattle.smil_model.proofs.RisingLists.{remove_here, none_from_place, rises_taken}
use Rattle.smil_instance_rows.proofs.sorted.SortedList.take_out.Goals as goal
use Rattle.smil_instance_rows.proofs.sorted.SortedList.take_out.Goals.{else-place-len-via-then-place-len+else-not-is_before, else-place-len-via-else-place-len}

pub invariant_of-self : goal.invariant_of-self
invariant_of-self g c =
    let le = g.T.Instant.at_most in
    let items = c.self.inside.values.items in
    let p = c.place_from-place.result in
    let v = c.args.value in
    let at : IsPlaceFrom le items v p = subst (λ (ys : List _). IsPlaceFrom le ys v p) c.as_slice.ensures.value c.place_from-place.ensures in
    let n : length items ≡ c.len.result = omega (arith, c.len.ensures, c.self.inside.values.ok.0) in
    let inside : p < length items = omega (arith, c.if-place-len.true, n) in
    let taken : c.remove.new.self.items ≡ taken_out le v items =
    c.remove.ensures.items ∙ remove_here le g.T.Instant.order items v p c.index.result.now at inside c.index.ensures (not-false (le c.index.result.now v) (sym c.is_before.ensures ∙ c.if-not-is_before.true)) in
    subst (λ (ys : List _). IsRising le ys) (sym taken) (rises_taken le g.T.Instant.order v items c.self.invariant)

pub returns-then-not-is_before : goal.returns-then-not-is_before
returns-then-not-is_before g c =
    let le = g.T.Instant.at_most in
    let items = c.self.inside.values.items in
    let p = c.place_from-place.result in
    let v = c.args.value in
    let at : IsPlaceFrom le items v p = subst (λ (ys : List _). IsPlaceFrom le ys v p) c.as_slice.ensures.value c.place_from-place.ensures in
    let n : length items ≡ c.len.result = omega (arith, c.len.ensures, c.self.inside.values.ok.0) in
    let inside : p < length items = omega (arith, c.if-place-len.true, n) in
    c.remove.ensures.items
    ∙ remove_here le g.T.Instant.order items v p c.index.result.now at inside c.index.ensures (not-false (le c.index.result.now v) (sym c.is_before.ensures ∙ c.if-not-is_before.true))
    ∙ ap (taken_out le v) c.self.view_is

pub returns-else-place-len : goal.returns-else-place-len
returns-else-place-len g c =
    let le = g.T.Instant.at_most in
    let items = c.self.inside.values.items in
    let p = c.place_from-place.result in
    let v = c.args.value in
    let at : IsPlaceFrom le items v p = subst (λ (ys : List _). IsPlaceFrom le ys v p) c.as_slice.ensures.value c.place_from-place.ensures in
    let n : length items ≡ c.len.result = omega (arith, c.len.ensures, c.self.inside.values.ok.0) in
    let more : (d : _) → p < length items → le (get_or items p d) v ≡ false = elim c.else-place-len.branch as (λ _. (d : _) → p < length items → le (get_or items p d) v ≡ false) [
      | else-place-len-via-then-place-len+else-not-is_before w ↦ (λ d inside.
          let same : get_or items p d ≡ w.index.result.now = default_free items p d w.index.result.now inside ∙ sym w.index.ensures in
          ap (λ x. le x v) same ∙ not-true (le w.index.result.now v) (sym w.is_before.ensures ∙ w.if-not-is_before.false))
      | else-place-len-via-else-place-len w ↦ (λ d inside. absurd (omega (arith, w.if-place-len.false, n, inside)))
    ] in
    sym c.self.view_is ∙ none_from_place le g.T.Instant.order items v p c.self.invariant at more ∙ ap (taken_out le v) c.self.view_is
