use Rattle.std.proofs.Common.{◌∙◌, sym, arith}
use Rattle.std.proofs.lemmas.Int.{ints}
use Rattle.smil_element.proofs.SameNumbers.{AreRead, same_changes, told_same}
use Rattle.smil_element.proofs.comings.is_same_comings.Goals as goal

pub returns : goal.returns
returns c =
    let reads_a : AreRead c.one.inside =
    record {
      moment = omega (arith, ints);
      value = omega (arith, ints);
      repeat_moment = omega (arith, ints);
      start = omega (arith, ints);
    } in
    let reads_b : AreRead c.other.inside =
    record {
      moment = omega (arith, ints);
      value = omega (arith, ints);
      repeat_moment = omega (arith, ints);
      start = omega (arith, ints);
    } in (
      λ is. sym c.one.view_is ∙ same_changes c.one.inside c.other.inside reads_a reads_b is ∙ c.other.view_is,
      λ same. told_same c.one.inside c.other.inside c.one.invariant c.other.invariant (c.one.view_is ∙ same ∙ sym c.other.view_is),
    )
