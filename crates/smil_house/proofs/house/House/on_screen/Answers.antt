use Rattle.std.proofs.Common.{◌∙◌, ap, sym}
use Rattle.std.specs.Prelude.{option_and_then, slice_get}
use Rattle.smil_house.proofs.PresentationsByName.{at_found, named_at}
use Rattle.smil_house.specs.Screen.{screen_of}
use Rattle.smil_house.proofs.house.House.on_screen.Goals as goal

pub returns-in-Some : goal.returns-in-Some
returns-in-Some g c =
    let at = at_found c.args.name.now c.self.inside.held.items c.args.self.now c.index_of.result c.in-Some.place c.index.result.now c.self.view_is c.index_of.ensures c.in-Some.is c.index.ensures in
    c.on_screen.ensures ∙ ap (option_and_then (λ h. slice_get (screen_of (g.P.Player.presentation h.player)) c.args.index)) (sym (named_at at))
