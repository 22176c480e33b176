use Rattle.smil_lexis.proofs.Utf8Tests.{valid, invalid}
use Rattle.smil_lexis.proofs.utf8.is_utf8.Goals as goal

pub returns-in-Ok : goal.returns-in-Ok
returns-in-Ok c = valid c.args.bytes.now c.in-Ok.ensures.cases.1

pub returns-in-Err : goal.returns-in-Err
returns-in-Err c = invalid c.args.bytes.now c.in-Err.ensures.cases.0
