use Rattle.std.proofs.Common.{subst}
use Rattle.smil_top.specs.Serving.{IsPart}
use Rattle.smil_top.proofs.AuditLines.{Serves-part}
use Rattle.smil_top.proofs.ServeStep.{part-alone}
use Rattle.smil_top.proofs.TextsWritten.{Writes-of}
use Rattle.smil_top.proofs.top.audited.Goals as goal

pub returns-in-Err-write_out-clause-serves : goal.returns-in-Err-write_out-clause-serves
returns-in-Err-write_out-clause-serves g c =
    let e = c.write_out.ensures in
    let room = g.K.Sink.sure_room c.args.sink.now in
    let p = part-alone _ _ _ _ _ c.in-Err-write_out.is (Writes-of c.write_out.result _ _ _ _ _ e.ok e.err e.sure e.room) in
    Serves-part (g.K.Sink.taken c.args.sink.now) (g.K.Sink.taken c.write_out.new.sink) room p.0 c.in-Ok.ensures.told p.1
    (subst (λ zs. IsPart p.0 zs room) c.slice.ensures p.2)
