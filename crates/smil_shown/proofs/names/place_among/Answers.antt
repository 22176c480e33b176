use Rattle.std.proofs.Common.{rules, tests, ◌≡◌, ◌∙◌, ap, length}
use Rattle.std.specs.Prelude.{unwrap_or, position}
use Rattle.std.proofs.lemmas.Iterator.{YieldsList-from_slice}
use Rattle.std.proofs.lemmas.Iterator.Search.{position_from_yields_List}
use Rattle.smil_sandwich.proofs.LayerPlaces.{or_length}
use Rattle.smil_shown.specs.Names.{is_up_to}
use Rattle.smil_shown.proofs.names.place_among.Goals as goal

pub returns-clause-place : goal.returns-clause-place
returns-clause-place c =
    let found : c.position.result ≡ position (is_up_to c.args.name.now) c.args.names.now =
    position_from_yields_List (is_up_to c.args.name.now) _ _ c.position.result c.position.ensures.ran
    (YieldsList-from_slice c.args.names.now (cc)) (λ x b q k. search (rules, tests)) in
    c.unwrap_or.ensures ∙ ap (λ i. unwrap_or i (length c.args.names.now)) found ∙ or_length (is_up_to c.args.name.now) c.args.names.now
