use Rattle.std.proofs.Common.{sym, ◌∙◌, ap}
use Rattle.std.specs.Prelude.{unwrap_or, fold, map}
use Rattle.smil_model.specs.declared.times.Time.TheVariants.{Unresolved}
use Rattle.smil_model.specs.declared.interval.ChildEnd.{ChildEnd}
use Rattle.smil_model.specs.Times.{greatest_time}
use Rattle.smil_model.specs.interval.Durations
use Rattle.smil_endsync.proofs.all_end.Goals as goal

pub returns-in-Some : goal.returns-in-Some
returns-in-Some c =
    c.greatest_with.ensures
    ∙ ap (λ t. fold greatest_time t (map (λ (z : ChildEnd). unwrap_or z.latest Unresolved) c.in-Some.rest.now)) c.unwrap_or.ensures
    ∙ ap Durations.all_end (sym c.in-Some.ensures.cases.0)
