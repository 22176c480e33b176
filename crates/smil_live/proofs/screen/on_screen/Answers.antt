use Rattle.std.proofs.Common.{◌≡◌, ◌∙◌, arith, ap, subst, ℤ, Bool, to_z, of_z, w64}
use mir.Syntax.{w128}
use Rattle.std.proofs.lemmas.Int.{ints, to_z-of_z}
use Rattle.smil_model.specs.diary.Clocks.{stands}
use Rattle.smil_model.specs.diary.Diary.{History}
use Rattle.smil_house.specs.declared.screen.OnScreen.{OnScreen}
use Rattle.smil_house.specs.declared.screen.Showing.{Showing}
use Rattle.smil_house.specs.Screen.{position_by, showing_by}
use Rattle.smil_past.specs.Past.{history_of}
use Rattle.smil_element.proofs.PresentMoment.{present_fits}
use Rattle.smil_live.proofs.screen.on_screen.Goals as goal

pub returns : goal.returns
returns c =
    let view = c.args.view.now in
    let h : History = history_of c.args.past.now in
    let same : to_z w64 (of_z w64 c.args.now) ≡ c.args.now = to_z-of_z w64 c.args.now (present_fits c.args.past.now c.args.now c.requires.moment) in
    let shown : c.showing.result ≡ showing_by (stands h view.serial) view.state = c.showing.ensures ∙ ap (λ (b : Bool). showing_by b view.state) (c.stands.ensures h c.clocks.ensures) in
    let fits : to_z w128 (of_z w128 c.position.result) ≡ c.position.result = omega (arith, ints, c.position.type_inv) in
    let at : c.position.result ≡ position_by h view.serial c.args.now view.state = subst (λ n. c.position.result ≡ position_by h view.serial n view.state) same c.position.ensures in
    let by_showing : Showing → OnScreen = λ s. record { serial = view.serial; showing = s; position = to_z w128 (of_z w128 c.position.result); iteration = view.iteration } in
    let by_position : ℤ → OnScreen = λ p. record { serial = view.serial; showing = showing_by (stands h view.serial) view.state; position = p; iteration = view.iteration } in
    ap by_showing shown ∙ ap by_position (fits ∙ at)
