use Rattle.std.proofs.Common.{◌≡◌, sym, ◌∙◌, ap, subst, ℤ, pos, to_z, of_z}
use Rattle.std.specs.Prelude.{◌+ℤ◌, ◌-ℤ◌, ◌≤ℤ◌}
use mir.Syntax.{w64}
use Rattle.std.proofs.lemmas.Int.{to_z-of_z}
use Rattle.smil_model.specs.Times.{IsMoment}
use Rattle.smil_model.specs.diary.Clocks.{outer}
use Rattle.smil_model.specs.diary.Diary.{last_moment}
use Rattle.smil_laws.specs.Near.{IsTimeNear}
use Rattle.smil_instances.proofs.SumsFit.{moment_fits}
use Rattle.smil_cells.specs.CellsState.{history_of}
use Rattle.smil_shown.proofs.PresentMoments.{is_moment, settled_late}
use Rattle.smil_shown.proofs.PresentPlays.{running_shown, standing_shown, sum_shown}
use Rattle.smil_shown.proofs.intervals.end_shown.Goals as goal

pub returns-in-At : goal.returns-in-At
returns-in-At g c = λ e own.
    standing_shown (history_of c.args.cells.now) (pos c.args.cells.now.presentation.now) e c.args.who c.in-At.field-0 c.outer_stands.result c.args.end own (c.outer_stands.ensures (history_of c.args.cells.now) c.clocks-clocks.ensures) c.if-outer_stands.true c.in-At.is

pub returns-in-At-2 : goal.returns-in-At-2
returns-in-At-2 g c = λ e own.
    let s = c.args.cells.now in
    let h = history_of s in
    let now : ℤ = pos s.presentation.now in
    let at : to_z w64 (of_z w64 c.moment-now.result) ≡ pos s.presentation.now = ap (λ (m : ℤ). to_z w64 (of_z w64 m)) c.moment-now.ensures ∙ to_z-of_z w64 (pos s.presentation.now) (moment_fits (pos s.presentation.now) (is_moment s.presentation c.requires.state)) in
    let late = settled_late s.presentation s.diary c.requires.settled in
    let outer_is = subst (λ (m : ℤ). last_moment h.diary ≤ℤ m → c.outer.result ≡ outer h c.args.who m) at (c.outer.ensures.value h c.clocks-clocks.ensures) late in
    let near = subst IsTimeNear c.in-At-2.is c.requires.near in
    let moment = subst IsMoment (sym c.moment-now.ensures) (is_moment s.presentation c.requires.state) in
    let value = sum_shown c.in-At-2.end c.moment-now.result c.outer.result now near moment c.outer.ensures.near at ∙ ap (λ (o : ℤ). c.in-At-2.end +ℤ (now -ℤ o)) outer_is in
    running_shown h now e c.args.who c.in-At-2.end _ c.outer_stands.result c.args.end own (c.outer_stands.ensures h c.clocks-clocks.ensures) c.if-outer_stands.false c.in-At-2.is value
