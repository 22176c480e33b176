use Rattle.std.proofs.Common.{sym, ap, ◌∙◌}
use Rattle.smil_instances.specs.Occurrence.{is_always}
use Rattle.smil_instances.proofs.IdTargets.{known_node, restart_told}
use Rattle.smil_instances.proofs.SensitiveItems.{not_always}
use Rattle.smil_instances.proofs.sensitivity.always_restarts.Goals as goal

pub restart_of-restart-requires : goal.restart_of-restart-requires
restart_of-restart-requires c = known_node c.args.tree.now.nodes c.args.who c.requires.element

pub returns-in-Always : goal.returns-in-Always
returns-in-Always c = λ e at.
    let same = restart_told c.args.tree.now.nodes c.args.who e c.restart_of-restart.result c.valid.ensures.numbered.distinct at c.restart_of-restart.ensures.restart in
    sym (ap is_always (sym same ∙ c.in-Always.is))

pub returns-in_default : goal.returns-in_default
returns-in_default c = λ e at.
    let same = restart_told c.args.tree.now.nodes c.args.who e c.restart_of-restart.result c.valid.ensures.numbered.distinct at c.restart_of-restart.ensures.restart in
    not_always c.restart_of-restart.result c.in_default.not-Always ∙ ap is_always same
