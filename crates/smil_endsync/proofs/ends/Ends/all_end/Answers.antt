use Rattle.std.proofs.Common.{◌∙◌, ap}
use Rattle.std.specs.Prelude.{map, unwrap_or}
use Rattle.std.specs.List.{reduce}
use Rattle.smil_model.specs.declared.times.Time.TheVariants.{Unresolved}
use Rattle.smil_model.specs.declared.interval.ChildEnd.{ChildEnd}
use Rattle.smil_model.specs.Times.{greatest_time}
use Rattle.smil_model.specs.interval.Durations.{all_end}
use Rattle.smil_endsync.specs.declared.ends.EndSummary.{EndSummary}
use Rattle.smil_endsync.specs.Ends.{greatest_or}
use Rattle.smil_endsync.proofs.ChildSummaries.{all_is, greatest_read, sum_of, sums}
use Rattle.smil_endsync.proofs.ends.Ends.all_end.Goals as goal

pub returns-in-Some : goal.returns-in-Some
returns-in-Some c =
    let cs = c.args.self.now in
    c.greatest_or.ensures
    ∙ ap (λ (s : EndSummary). greatest_or s Unresolved) (c.in-Some.ensures sum_of sums ∙ all_is cs)
    ∙ greatest_read (reduce greatest_time (map (λ (d : ChildEnd). unwrap_or d.latest Unresolved) cs)) Unresolved

pub returns-in-None : goal.returns-in-None
returns-in-None c = c.all_end.ensures ∙ ap all_end (c.deref.ensures.value ∙ c.self.view_is)
