use Rattle.std.proofs.Common.{◌≡◌, ◌∙◌, arith, ap, sym, ℤ, ◌-ℤ◌, to_z, of_z}
use mir.Syntax.{w128}
use Rattle.std.proofs.lemmas.Int.{ints}
use Rattle.smil_model.specs.diary.Clocks.{outer}
use Rattle.smil_past.specs.Past.{history_of}
use Rattle.smil_past.specs.declared.plays.facts.PlayFacts.{PlayFacts}
use Rattle.smil_element.proofs.PresentMoment.{present_fits}
use Rattle.smil_element.proofs.LatestEntry.{told_now}
use Rattle.smil_live.proofs.Screens.{finish_is}
use Rattle.smil_live.proofs.screen.since_finish.Goals as goal

pub returns-in-Some-clause-value : goal.returns-in-Some-clause-value
returns-in-Some-clause-value c =
    let past = c.args.past.now in
    let outer_is = told_now past c.args.now (present_fits past c.args.now c.requires.moment) c.requires.moment (λ (m : ℤ). c.outer.result ≡ outer (history_of past) c.args.who m) (c.outer.ensures.value (history_of past) c.clocks.ensures) in
    let plain : to_z w128 (of_z w128 (to_z w128 (of_z w128 c.from.result) -ℤ to_z w128 (of_z w128 c.from-in-Some.result))) ≡ outer (history_of past) c.args.who c.args.now -ℤ c.in-Some.last.finish = omega (arith, ints, outer_is) in
    plain
    ∙ sym
    (finish_is (history_of past) c.args.who c.args.now c.in-Some.last
    (sym (ap (λ (p : PlayFacts). p.last_finished) c.played_of.ensures) ∙ c.in-Some.is))
