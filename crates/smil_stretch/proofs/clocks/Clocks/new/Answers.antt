use Rattle.std.proofs.Common.{sym, subst}
use Rattle.smil_stretch.specs.NodeClocks.{AllFit}
use Rattle.smil_stretch.proofs.IdleClocks.{idle_fit}
use Rattle.smil_stretch.proofs.clocks.Clocks.new.Goals as goal

pub indexed-requires : goal.indexed-requires
indexed-requires c = subst AllFit (sym c.in_ok-idle_clocks.ensures) (idle_fit c.args.tree.now.nodes c.args.tree.now.nodes)
