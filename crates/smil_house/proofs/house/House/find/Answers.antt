use Rattle.std.proofs.Common.{◌∙◌, ap, sym}
use Rattle.std.specs.Prelude.{option_and_then}
use Rattle.smil_house.proofs.PresentationsByName.{at_found, named_at}
use Rattle.smil_house.specs.Screen.{serial_in}
use Rattle.smil_house.proofs.house.House.find.Goals as goal

pub returns-in-Some : goal.returns-in-Some
returns-in-Some g c =
    let at = at_found c.args.name.now c.self.inside.held.items c.args.self.now c.index_of.result c.in-Some.index c.index.result.now c.self.view_is c.index_of.ensures c.in-Some.is c.index.ensures in
    c.find.ensures ∙ ap (option_and_then (λ h. serial_in c.args.who.now (g.P.Player.presentation h.player))) (sym (named_at at))
