use Rattle.std.proofs.Common.{subst}
use Rattle.smil_top.specs.declared.loaded.NamedLines.{NamedLines}
use Rattle.smil_top.proofs.LoadLines.{IsGivenAt, Gives-ok, Gives-err}
use Rattle.smil_top.proofs.load.Load.finish.Goals as goal

pub returns-in-Ok-clause-given : goal.returns-in-Ok-clause-given
returns-in-Ok-clause-given c wanted lines read =
    let given : IsGivenAt c.args.self.line c.args.end_line c.end_outline.result c.in-Ok.named =
    subst (λ (x : NamedLines). IsGivenAt c.args.self.line c.args.end_line c.end_outline.result x) c.in-Ok.named-is c.end_outline.ensures.given
    in
    Gives-ok c.args.self wanted lines c.args.end_line c.in-Ok.named c.end_outline.result c.in-Ok.is read given

pub returns-in-Err-clause-given : goal.returns-in-Err-clause-given
returns-in-Err-clause-given c wanted lines read = Gives-err c.args.self wanted lines c.args.end_line c.in-Err.fault c.in-Err.is read
