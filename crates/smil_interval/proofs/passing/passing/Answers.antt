use Rattle.std.specs.Prelude.{not}
use Rattle.smil_interval.proofs.OrderedLists.{twice_not}
use Rattle.smil_interval.proofs.SearchParts.{part_is_filter, part_ordered}
use Rattle.smil_interval.proofs.passing.passing.Goals as goal

pub returns-clause-part : goal.returns-clause-part
returns-clause-part g c =
    let passes = g.P.Test.passes c.args.test in
    part_is_filter passes (λ v. not (passes v)) (λ v. twice_not (passes v)) c.args.values.now c.first_passing-place.result c.first_passing-place.ensures.point

pub returns-clause-rising : goal.returns-clause-rising
returns-clause-rising g c = λ at_most up. part_ordered at_most c.first_passing-place.result c.args.values.now up
