use Rattle.std.proofs.Common.{◌∙◌, ap, length, arith}
use Rattle.smil_model.specs.PlaceSet.{places_of}
use Rattle.smil_model.proofs.PlaceSets.{empty_places, no_places, none_in_empty, none_left}
use Rattle.smil_model.proofs.place_set.PlaceSet.clear.Goals as goal

pub invariant_of-self : goal.invariant_of-self
invariant_of-self c =
    let inside = c.self.inside in
    let none = none_left inside.words.items inside.first inside.end (omega (arith, c.if-is_empty.true)) c.self.invariant.none_before c.self.invariant.none_behind in
    record {
      none_before = λ p before. none p;
      none_behind = λ p behind. none p;
      within = omega arith;
      few = c.self.invariant.few;
    }

pub returns-then-is_empty : goal.returns-then-is_empty
returns-then-is_empty c =
    let inside = c.self.inside in
    no_places inside.words.items (none_left inside.words.items inside.first inside.end (omega (arith, c.if-is_empty.true)) c.self.invariant.none_before c.self.invariant.none_behind)

pub invariant_of-self-2 : goal.invariant_of-self-2
invariant_of-self-2 c = record {
  none_before = λ p before. none_in_empty c.clear.new.self.items c.clear.ensures.items p;
  none_behind = λ p behind. none_in_empty c.clear.new.self.items c.clear.ensures.items p;
  within = omega arith;
  few = omega (arith, ap length c.clear.ensures.items);
}

pub returns : goal.returns
returns c = ap places_of c.clear.ensures.items ∙ empty_places
