use Rattle.std.proofs.Common.{◌∙◌, ap, sym}
use Rattle.std.specs.Prelude.{filter}
use Rattle.smil_model.specs.interval.Intervals.{counts_after}
use Rattle.smil_interval.proofs.SearchParts.{all_count}
use Rattle.smil_interval.proofs.rising.not_passed.Goals as goal

pub returns-in-None-clause-part : goal.returns-in-None-clause-part
returns-in-None-clause-part c = all_count c.args.begins.now ∙ ap (λ o. filter (counts_after o) c.args.begins.now) (sym c.in-None.is)
