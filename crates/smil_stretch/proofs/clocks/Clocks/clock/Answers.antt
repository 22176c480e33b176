use Rattle.std.proofs.Common.{ap, ◌∙◌, Some}
use Rattle.std.specs.Prelude.{slice_get}
use Rattle.std.specs.FinMap.{get}
use Rattle.smil_stretch.specs.NodeClocks.{clock_at}
use Rattle.smil_stretch.proofs.ReadingsByClock.{clock_by_place, lent_at}
use Rattle.smil_stretch.proofs.clocks.Clocks.clock.Goals as goal

pub returns-in_err-place-clause-value : goal.returns-in_err-place-clause-value
returns-in_err-place-clause-value c =
    c.from_residual.ensures
    ∙ clock_by_place c.self.inside.clocks.items c.args.who _ (c.in_err-place.ensures ∙ ap (λ places. get places c.args.who) c.deref.ensures ∙ c.self.invariant.0 c.args.who)
    ∙ ap (λ cs. clock_at cs c.args.who) c.self.view_is

pub returns-clause-value : goal.returns-clause-value
returns-clause-value c =
    let got = c.get-2.ensures.lookup in
    c.copied.ensures ∙ lent_at c.deref-2.result.now c.in_ok-place.place c.get-2.result got.0 got.1
    ∙ ap (λ cs. slice_get cs c.in_ok-place.place) c.deref-2.ensures.value
    ∙ clock_by_place c.self.inside.clocks.items c.args.who (Some c.in_ok-place.place) (c.in_ok-place.ensures ∙ ap (λ places. get places c.args.who) c.deref.ensures ∙ c.self.invariant.0 c.args.who)
    ∙ ap (λ cs. clock_at cs c.args.who) c.self.view_is
