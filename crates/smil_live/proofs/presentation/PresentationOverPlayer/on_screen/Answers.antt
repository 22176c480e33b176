use Rattle.std.proofs.Common.{◌≡◌, ◌≤◌, ◌∙◌, ap, arith, sym, subst, rules, length, pos, Some, to_z, of_z, w64}
use mir.Val.{SFits}
use Rattle.std.specs.Prelude.{option_map, slice_get}
use Rattle.std.proofs.lemmas.Bool.{ltb-true}
use Rattle.std.proofs.lemmas.Int.{to_z-of_z}
use Rattle.std.proofs.lemmas.Option.{slice_get-get_or, slice_get_past}
use Rattle.smil_model.specs.declared.view.View.{View}
use Rattle.smil_model.specs.diary.Diary.{History}
use Rattle.smil_model.specs.diary.Lawful.{has_element}
use Rattle.smil_cells.specs.CellsState.{history_of}
use Rattle.smil_house.specs.Screen.{on_screen}
use Rattle.smil_past.specs.Past.{IsPresent}
use Rattle.smil_past.specs.Past as past_of
use Rattle.smil_shown.proofs.PresentMoments.{present_is}
use Rattle.smil_live.proofs.Screens.{known_at, screen_at}
use Rattle.smil_live.proofs.TextsApart.{cells_playing, cells_with, screen_with}
use Rattle.smil_live.proofs.presentation.PresentationOverPlayer.on_screen.Goals as goal

pub on_screen-requires-clause-element : goal.on_screen-requires-clause-element
on_screen-requires-clause-element g c =
    let cells = c.self.inside.viewer.cells in
    let view : View = c.in_ok-view.view.now in
    let found = c.in_ok-view.ensures.lookup in
    let here : slice_get c.views.result.now c.args.index ≡ Some view = slice_get-get_or c.views.result.now c.args.index view (ltb-true c.args.index (length c.views.result.now) (sym found.0)) ∙ ap Some (sym found.1) in
    ap (λ (h : History). has_element h.nodes view.serial) c.past.ensures
    ∙ known_at cells c.self.inside.viewer.seen c.self.invariant.playing c.views.result.now c.args.index view c.views.ensures here

pub on_screen-requires-clause-moment : goal.on_screen-requires-clause-moment
on_screen-requires-clause-moment g c =
    let cells = c.self.inside.viewer.cells in
    let fits : SFits w64 c.moment.result = search rules in
    subst (λ z. IsPresent c.past.result.now z) (sym (to_z-of_z w64 c.moment.result fits ∙ c.moment.ensures))
    (present_is cells c.past.result.now c.self.invariant.playing.shown_is.state c.self.invariant.playing.shown_is.settled c.past.ensures)

pub returns : goal.returns
returns g c =
    let cells = c.self.inside.viewer.cells in
    let now = cells_with cells c.self.inside.edited in
    let view : View = c.in_ok-view.view.now in
    let found = c.in_ok-view.ensures.lookup in
    let here : slice_get c.views.result.now c.args.index ≡ Some view = slice_get-get_or c.views.result.now c.args.index view (ltb-true c.args.index (length c.views.result.now) (sym found.0)) ∙ ap Some (sym found.1) in
    let fits : SFits w64 c.moment.result = search rules in
    ap Some
    (c.on_screen.ensures
    ∙ ap (λ (h : History). on_screen h (to_z w64 (of_z w64 c.moment.result)) view) c.past.ensures
    ∙ ap (λ n. on_screen (history_of cells) n view) (to_z-of_z w64 c.moment.result fits ∙ c.moment.ensures)
    ∙ screen_with cells c.self.inside.viewer.seen c.self.inside.edited view c.self.invariant)
    ∙ sym
    (screen_at now c.self.inside.viewer.seen (cells_playing cells c.self.inside.viewer.seen c.self.inside.edited c.self.invariant) c.args.self.now c.views.result.now c.args.index c.self.view_is c.views.ensures
    ∙ ap (option_map (on_screen (history_of now) (pos cells.presentation.now))) here)

pub returns-in_err-view : goal.returns-in_err-view
returns-in_err-view g c =
    let cells = c.self.inside.viewer.cells in
    let now = cells_with cells c.self.inside.edited in
    let past : length c.views.result.now ≤ c.args.index = omega (arith, c.in_err-view.ensures.lookup) in
    c.from_residual.ensures
    ∙ sym
    (screen_at now c.self.inside.viewer.seen (cells_playing cells c.self.inside.viewer.seen c.self.inside.edited c.self.invariant) c.args.self.now c.views.result.now c.args.index c.self.view_is c.views.ensures
    ∙ ap (option_map (on_screen (history_of now) (pos cells.presentation.now))) (slice_get_past c.views.result.now c.args.index past))
