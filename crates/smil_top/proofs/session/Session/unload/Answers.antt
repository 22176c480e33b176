use Rattle.smil_top.proofs.ClosesGiven.{closes-by}
use Rattle.smil_top.proofs.session.Session.unload.Goals as goal

pub returns-clause-closed : goal.returns-clause-closed
returns-clause-closed c session number keeps =
    let e = c.close.ensures in
    closes-by c.args.name.now c.args.self.now c.close.new.self session number keeps c.close.result e.absent e.closed e.kept
