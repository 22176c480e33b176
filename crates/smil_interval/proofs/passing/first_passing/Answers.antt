use Rattle.std.proofs.Common.{sym, ◌∙◌, ap, length, ◌-◌, arith}
use Rattle.std.specs.Prelude.{not}
use Rattle.smil_interval.proofs.Thresholds.{alone_passes, last_passes, none_passes, nothing_passes}
use Rattle.smil_interval.proofs.passing.first_passing.Goals as goal

pub returns-then-count-eq0-clause-point : goal.returns-then-count-eq0-clause-point
returns-then-count-eq0-clause-point g c =
    nothing_passes (λ v. not (g.P.Test.passes c.args.test v)) c.args.values.now (omega (arith, c.if-count-eq0.true))

pub returns-then-not-passes-clause-point : goal.returns-then-not-passes-clause-point
returns-then-not-passes-clause-point g c =
    let passes = g.P.Test.passes c.args.test in
    let xs = c.args.values.now in
    none_passes (λ v. not (passes v)) xs (length xs - 1) c.index-values-count.result c.requires
    (omega (arith, c.if-count-eq0.false))
    c.index-values-count.is (ap not (sym c.passes.ensures ∙ c.if-not-passes.true))

pub returns-then-count-eq1-clause-point : goal.returns-then-count-eq1-clause-point
returns-then-count-eq1-clause-point g c =
    let passes = g.P.Test.passes c.args.test in
    let xs = c.args.values.now in
    alone_passes (λ v. not (passes v)) xs (length xs - 1) c.index-values-count.result
    (omega (arith, c.if-count-eq1.true)) (omega (arith, c.if-count-eq1.true))
    c.index-values-count.is (ap not (sym c.passes.ensures ∙ c.if-not-passes.false))

pub returns-then-not-passes-2-clause-point : goal.returns-then-not-passes-2-clause-point
returns-then-not-passes-2-clause-point g c =
    let passes = g.P.Test.passes c.args.test in
    let xs = c.args.values.now in
    last_passes (λ v. not (passes v)) xs (length xs - 2) (length xs - 1) c.index-values-count-2.result c.index-values-count.result c.requires
    (omega (arith, c.if-count-eq0.false, c.if-count-eq1.false)) (omega (arith, c.if-count-eq0.false))
    c.index-values-count-2.is (ap not (sym c.passes-2.ensures ∙ c.if-not-passes-2.true))
    c.index-values-count.is (ap not (sym c.passes.ensures ∙ c.if-not-passes.false))
