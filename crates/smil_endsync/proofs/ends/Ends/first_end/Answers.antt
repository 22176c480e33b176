use Rattle.std.proofs.Common.{◌∙◌, ap}
use Rattle.smil_model.specs.declared.times.Time.TheVariants.{Unresolved}
use Rattle.smil_model.specs.interval.Durations.{first_end}
use Rattle.smil_endsync.specs.declared.ends.EndSummary.{EndSummary}
use Rattle.smil_endsync.specs.Ends.{least_or}
use Rattle.smil_endsync.proofs.ChildSummaries.{first_is, sum_of, sums}
use Rattle.smil_endsync.proofs.ends.Ends.first_end.Goals as goal

pub returns-in-Some : goal.returns-in-Some
returns-in-Some c =
    c.least_or.ensures
    ∙ ap (λ (s : EndSummary). least_or s Unresolved) (c.in-Some.ensures sum_of sums)
    ∙ first_is c.args.self.now

pub returns-in-None : goal.returns-in-None
returns-in-None c = c.first_end.ensures ∙ ap first_end (c.deref.ensures.value ∙ c.self.view_is)
