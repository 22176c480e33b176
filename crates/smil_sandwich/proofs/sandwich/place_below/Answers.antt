use Rattle.std.proofs.Common.{rules, tests, ◌≡◌, ◌∙◌, ap, length}
use Rattle.std.specs.Prelude.{unwrap_or, position}
use Rattle.std.proofs.lemmas.Iterator.{YieldsList-from_slice}
use Rattle.std.proofs.lemmas.Iterator.Search.{position_from_yields_List}
use Rattle.smil_sandwich.proofs.LayerPlaces.{above, or_length}
use Rattle.smil_sandwich.proofs.sandwich.place_below.Goals as goal

pub returns-clause-place : goal.returns-clause-place
returns-clause-place c =
    let found : c.position.result ≡ position (above c.args.layer.now) c.args.layers.now =
    position_from_yields_List (above c.args.layer.now) _ _ c.position.result c.position.ensures.ran
    (YieldsList-from_slice c.args.layers.now (cc)) (λ x b q k. search (rules, tests)) in
    c.unwrap_or.ensures ∙ ap (λ i. unwrap_or i (length c.args.layers.now)) found ∙ or_length (above c.args.layer.now) c.args.layers.now
