use Rattle.std.proofs.Common.{◌≡◌, ◌∙◌, ap, subst, sym, ℤ, arith}
use Rattle.std.specs.Prelude.{◌+ℤ◌, ◌-ℤ◌}
use mir.Syntax.{w64, w128}
use mir.Val.{SFits, to_z, of_z}
use Rattle.std.proofs.lemmas.Int.{ints, to_z-of_z}
use Rattle.smil_model.specs.Times.{within_horizon}
use Rattle.smil_instances.proofs.SumsFit.{whole_sum}
use Rattle.smil_instances.proofs.carried.carried.Goals as goal

-- the four numbers as they were passed, in 128 bits
four : (t v f o t' v' f' o' : ℤ) → t' ≡ to_z w64 (of_z w64 t) → v' ≡ to_z w64 (of_z w64 v) → f' ≡ to_z w64 (of_z w64 f) → o' ≡ to_z w64 (of_z w64 o) → SFits w64 t → SFits w64 v → SFits w64 f → SFits w64 o → to_z w128 (of_z w128 (to_z w128 (of_z w128 t') +ℤ to_z w128 (of_z w128 (to_z w128 (of_z w128 v') -ℤ to_z w128 (of_z w128 f'))))) +ℤ to_z w128 (of_z w128 o') ≡ (t +ℤ (v -ℤ f)) +ℤ o
four t v f o t' v' f' o' a b c d p q r s = omega (arith, ints)

pub overflow_add-reached-2 : goal.overflow_add-reached-2
overflow_add-reached-2 c =
    subst (SFits w128)
    (sym
    (four c.args.to c.args.value c.args.from c.args.offset _ _ _ _ c.from.ensures c.from-2.ensures c.from-3.ensures c.from-4.ensures c.ranges.to c.ranges.value c.ranges.from c.ranges.offset))
    (whole_sum c.args.to c.args.value c.args.from c.args.offset c.ranges.to c.ranges.value c.ranges.from c.ranges.offset)

pub returns : goal.returns
returns c =
    let sum = four c.args.to c.args.value c.args.from c.args.offset _ _ _ _ c.from.ensures c.from-2.ensures c.from-3.ensures c.from-4.ensures c.ranges.to c.ranges.value c.ranges.from c.ranges.offset in
    let whole = whole_sum c.args.to c.args.value c.args.from c.args.offset c.ranges.to c.ranges.value c.ranges.from c.ranges.offset in
    c.capped.ensures ∙ ap (λ z. within_horizon (to_z w128 (of_z w128 z))) sum ∙ ap within_horizon (to_z-of_z w128 _ whole)
