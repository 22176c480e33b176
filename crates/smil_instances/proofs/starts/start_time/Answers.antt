use Rattle.std.proofs.Common.{◌∙◌, ap, Some, w64}
use Rattle.std.proofs.lemmas.Int.{to_z-of_z}
use Rattle.smil_instances.specs.Contribution.{start_time}
use Rattle.smil_instances.proofs.BirthGifts.{started_under, unstarted}
use Rattle.smil_instances.proofs.starts.start_time.Goals as goal

pub returns-in-None : goal.returns-in-None
returns-in-None c = λ h p are q. unstarted h c.args.entry c.args.offset p (q ∙ c.in-None.is)

pub returns-in-Some : goal.returns-in-Some
returns-in-Some c = λ h p are q.
    started_under h c.args.entry c.args.offset c.start_time_under.result c.in-Some.parent
    (λ x is. c.start_time_under.ensures h x are is ∙ ap (λ o. start_time h c.args.entry o (Some x)) (to_z-of_z w64 c.args.offset c.ranges.offset))
    p (q ∙ c.in-Some.is)
