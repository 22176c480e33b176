use Rattle.std.proofs.Common.{◌≡◌, ℤ, subst, arith}
use Rattle.std.specs.Prelude.{◌≤ℤ◌}
use mir.Syntax.{w64}
use Rattle.std.proofs.lemmas.Int.{ints, to_z-of_z}
use Rattle.smil_model.specs.diary.Clocks.{outer}
use Rattle.smil_model.specs.diary.Diary.{last_moment}
use Rattle.smil_stretch.proofs.clocks.Clocks.between.Goals as goal

pub returns : goal.returns
returns c = λ h are le.
    let to_is : c.outer.result ≡ outer h c.args.to c.args.moment =
    subst (λ (m : ℤ). last_moment h.diary ≤ℤ m → c.outer.result ≡ outer h c.args.to m) (to_z-of_z w64 c.args.moment c.ranges.moment) (c.outer.ensures.value h are) le in
    let from_is : c.outer-2.result ≡ outer h c.args.from c.args.moment =
    subst (λ (m : ℤ). last_moment h.diary ≤ℤ m → c.outer-2.result ≡ outer h c.args.from m) (to_z-of_z w64 c.args.moment c.ranges.moment) (c.outer-2.ensures.value h are) le in
    omega (arith, ints, to_is, from_is)
