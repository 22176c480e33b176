use Rattle.smil_house.proofs.NameMarks.{AreOthers}
use Rattle.smil_house.proofs.house.House.index_of.Given as goal

abbrev pub invariant-loop-index : goal.invariant-loop-index
invariant-loop-index g l = AreOthers l.name l.index l.self
