use Rattle.std.proofs.Common.{subst, ◌∙◌}
use Rattle.smil_top.specs.Serving.{IsPart}
use Rattle.smil_top.proofs.TextsWritten.{Writes-of}
use Rattle.smil_top.proofs.ServeStep.{part-alone}
use Rattle.smil_top.proofs.top.generated.Goals as goal

pub returns-clause-generates : goal.returns-clause-generates
returns-clause-generates g c =
    let e = c.write_out.ensures in
    let p = part-alone _ _ _ _ _ c.in-Err.is (Writes-of c.write_out.result _ _ _ _ _ e.ok e.err e.sure e.room) in
    (p.0, p.1, subst (λ zs. IsPart p.0 zs (g.K.Sink.sure_room c.args.sink.now)) (c.slice.ensures ∙ c.in-Ok.ensures.summary.text_is) p.2)
