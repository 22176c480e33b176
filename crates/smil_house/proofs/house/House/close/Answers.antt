use Rattle.std.proofs.Common.{arith}
use Rattle.smil_house.proofs.NameMarks.{without_mark}
use Rattle.smil_house.proofs.house.House.close.Goals as goal

pub invariant_of-self : goal.invariant_of-self
invariant_of-self g c = (
  omega (arith, c.remove-2.ensures.len, c.self.invariant.0),
  omega (arith, c.remove-2.ensures.capacity, c.self.invariant.1),
  omega (arith, c.remove.ensures.capacity, c.self.invariant.2),
  without_mark c.in-Some.index c.self.inside.held.items c.remove-2.new.self.items c.self.inside.marks.items c.remove.new.self.items c.self.invariant.3 c.remove.ensures.by_index.2 c.remove-2.ensures.by_index.2,
)
