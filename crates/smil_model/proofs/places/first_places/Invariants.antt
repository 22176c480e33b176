use Rattle.std.proofs.Common.{take}
use Rattle.std.specs.FinMap.{get}
use Rattle.smil_model.specs.FirstPlaces.{AreFirstPlaces}
use Rattle.smil_model.proofs.places.first_places.Given as goal

-- the first places among the first rows
abbrev pub invariant-loop-place : goal.invariant-loop-place
invariant-loop-place g l = AreFirstPlaces g.T.HasSerial.serial (get l.places) (take l.place l.rows)
