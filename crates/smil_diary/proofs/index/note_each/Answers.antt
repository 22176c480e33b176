use Rattle.std.proofs.Common.{refl, ◌∙◌}
use Rattle.std.specs.Prelude.{is_some}
use Rattle.smil_diary.specs.ElementPlaces.{kept, row_of}
use Rattle.smil_diary.proofs.IndexNoted.{given_few, given_next, given_none}
use Rattle.smil_diary.proofs.index.note_each.Goals as goal

pub loop-place-init : goal.loop-place-init
loop-place-init c = record {
  same = λ who. refl;
  kept = λ who. c.requires.none who ∙ given_none (is_some (row_of c.args.elements.now who)) who;
}

pub note_step-requires-clause-few : goal.note_step-requires-clause-few
note_step-requires-clause-few c = λ who.
    given_few (is_some (row_of c.args.elements.now who)) c.args.entries.now c.loop-place.place who (kept c.loop-place.elements who) c.loop-place-test.true (c.loop-place.invariant.kept who)

pub loop-place-preserved : goal.loop-place-preserved
loop-place-preserved c = record {
  same = λ who. c.note_step.ensures.same who ∙ c.loop-place.invariant.same who;
  kept = λ who.
      given_next c.args.entries.now c.loop-place.place _ c.loop-place-test.true (row_of c.args.elements.now who) (row_of c.loop-place.elements who) who
      (kept c.loop-place.elements who) (kept c.note_step.new.elements who) (c.loop-place.invariant.same who) (c.loop-place.invariant.kept who) (c.note_step.ensures.kept who);
}
