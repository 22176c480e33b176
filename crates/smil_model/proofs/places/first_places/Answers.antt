use Rattle.std.proofs.Common.{◌∙◌, ap, cond, Some, None}
use Rattle.std.specs.Prelude.{◌==◌}
use Rattle.std.specs.FinMap.{get}
use Rattle.std.specs.Option.{option_or}
use Rattle.smil_model.proofs.FirstPlaces.{places_next}
use Rattle.smil_model.proofs.places.first_places.Goals as goal

pub loop-place-preserved : goal.loop-place-preserved
loop-place-preserved g c = λ s.
    let serial = g.T.HasSerial.serial in
    let place = c.loop-place.place in
    places_next serial c.args.rows.now s place c.index-rows-place.result _ _ c.loop-place-test.true
    (c.in_ok-note_place.ensures s
    ∙ ap (λ number. option_or (get c.loop-place.places s) (cond (number == s) (Some place) None)) (c.serial.ensures ∙ ap serial c.index-rows-place.is))
    (c.loop-place.invariant s)
