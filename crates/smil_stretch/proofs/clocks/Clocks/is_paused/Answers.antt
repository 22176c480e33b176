use Rattle.std.proofs.Common.{ap, ◌∙◌}
use Rattle.smil_stretch.specs.NodeClocks.{paused_by}
use Rattle.smil_stretch.proofs.ReadingsByClock.{paused_told}
use Rattle.smil_stretch.proofs.clocks.Clocks.is_paused.Goals as goal

pub returns-in-Some : goal.returns-in-Some
returns-in-Some c = λ h are known. ap paused_by c.in-Some.ensures.value ∙ paused_told c.args.self.now h are c.args.who known

pub returns-in-None : goal.returns-in-None
returns-in-None c = λ h are known. ap paused_by c.in-None.ensures.value ∙ paused_told c.args.self.now h are c.args.who known
