use Rattle.std.proofs.Common.{◌∙◌, sym, ap, None}
use Rattle.std.specs.Prelude.{cond}
use Rattle.smil_model.specs.interval.Intervals.{coming_interval, interval_by}
use Rattle.smil_interval.proofs.absent.evaluate_absent.Goals as goal

pub returns-clause-interval : goal.returns-clause-interval
returns-clause-interval g c = λ facts begins ends idle out.
    sym (ap (λ t. cond t (coming_interval facts begins ends facts.last) None) out)
    ∙ ap (interval_by facts begins ends) (sym idle)
