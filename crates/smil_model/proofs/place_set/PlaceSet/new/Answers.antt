use Rattle.std.proofs.Common.{◌∙◌, ap, length, arith}
use Rattle.smil_model.specs.PlaceSet.{places_of}
use Rattle.smil_model.proofs.PlaceSets.{empty_places, none_in_empty}
use Rattle.smil_model.proofs.place_set.PlaceSet.new.Goals as goal

pub invariant_of-result : goal.invariant_of-result
invariant_of-result c = record {
  none_before = λ p before. none_in_empty c.new.result.items c.new.ensures.items p;
  none_behind = λ p behind. none_in_empty c.new.result.items c.new.ensures.items p;
  within = omega arith;
  few = omega (arith, ap length c.new.ensures.items);
}

pub returns : goal.returns
returns c = ap places_of c.new.ensures.items ∙ empty_places
