use Rattle.smil_top.proofs.TextsWritten.{Writes-of}
use Rattle.smil_top.proofs.ServeStep.{part-alone}
use Rattle.smil_top.proofs.top.explain.Goals as goal

pub returns-in-Err-clause-explains : goal.returns-in-Err-clause-explains
returns-in-Err-clause-explains g c =
    let e = c.write_out.ensures in
    part-alone _ _ _ _ _ c.in-Err.is (Writes-of c.write_out.result _ _ _ _ _ e.ok e.err e.sure e.room)
