use Rattle.std.proofs.Common.{◌∙◌, ap, ℤ, w64}
use Rattle.std.specs.Prelude.{Option, None, fold, map, unwrap_or}
use Rattle.std.proofs.lemmas.Int.{to_z-of_z}
use Rattle.smil_model.specs.declared.times.Time.{Time}
use Rattle.smil_model.specs.declared.times.Time.TheVariants.{At}
use Rattle.smil_model.specs.declared.interval.ChildEnd.{ChildEnd}
use Rattle.smil_model.specs.interval.Durations.{last_end}
use Rattle.smil_endsync.specs.declared.ends.EndSummary.{EndSummary}
use Rattle.smil_endsync.specs.Ends.{greatest_or}
use Rattle.smil_endsync.specs.Known.{greatest_known}
use Rattle.smil_endsync.proofs.ChildEndFolds.{latest_is_reduced}
use Rattle.smil_endsync.proofs.ChildSummaries.{greatest_read, latest_is, sum_of, sums}
use Rattle.smil_endsync.proofs.ends.Ends.last_end.Goals as goal

pub returns-in-Some : goal.returns-in-Some
returns-in-Some c =
    let cs = c.args.self.now in
    c.greatest_or.ensures
    ∙ ap (λ (x : ℤ). greatest_or c.in-Some.all (At x)) (to_z-of_z w64 c.args.start c.ranges.start)
    ∙ ap (λ (s : EndSummary). greatest_or s (At c.args.start)) (c.in-Some.ensures sum_of sums ∙ latest_is cs)
    ∙ greatest_read (fold greatest_known None (map (λ (d : ChildEnd). d.latest) cs)) (At c.args.start)
    ∙ ap (λ (o : Option Time). unwrap_or o (At c.args.start)) (latest_is_reduced cs)

pub returns-in-None : goal.returns-in-None
returns-in-None c =
    c.last_end.ensures
    ∙ ap (λ (x : ℤ). last_end x c.deref.result.now) (to_z-of_z w64 c.args.start c.ranges.start)
    ∙ ap (last_end c.args.start) (c.deref.ensures.value ∙ c.self.view_is)
