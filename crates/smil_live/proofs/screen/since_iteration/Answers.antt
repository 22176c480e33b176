use Rattle.std.proofs.Common.{◌≡◌, arith, ap, ℤ}
use Rattle.std.proofs.lemmas.Int.{ints}
use Rattle.smil_model.specs.diary.Clocks.{iteration_start, run}
use Rattle.smil_past.specs.Past.{history_of}
use Rattle.smil_past.specs.declared.plays.facts.PlayFacts.{PlayFacts}
use Rattle.smil_element.proofs.PresentMoment.{present_fits}
use Rattle.smil_element.proofs.LatestEntry.{told_now}
use Rattle.smil_live.proofs.screen.since_iteration.Goals as goal

pub returns-clause-value : goal.returns-clause-value
returns-clause-value c =
    let past = c.args.past.now in
    let run_is = told_now past c.args.now (present_fits past c.args.now c.requires.moment) c.requires.moment (λ (m : ℤ). c.run.result ≡ run (history_of past) c.args.who m) (c.run.ensures.value (history_of past) c.clocks.ensures) in
    let start_is : c.played_of.result.now.start ≡ iteration_start (history_of past) c.args.who = ap (λ (p : PlayFacts). p.start) c.played_of.ensures in
    omega (arith, ints, run_is, start_is)
