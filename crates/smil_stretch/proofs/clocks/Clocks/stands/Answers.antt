use Rattle.std.proofs.Common.{ap, ◌∙◌}
use Rattle.smil_stretch.specs.NodeClocks.{stands_by}
use Rattle.smil_stretch.proofs.ReadingsByClock.{stands_told}
use Rattle.smil_stretch.proofs.clocks.Clocks.stands.Goals as goal

pub returns : goal.returns
returns c = λ h are. c.stands_by.ensures ∙ ap stands_by c.clock.ensures.value ∙ stands_told c.args.self.now h are c.args.who
