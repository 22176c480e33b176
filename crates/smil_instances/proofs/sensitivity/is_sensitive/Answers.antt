use Rattle.std.proofs.Common.{refl, sym, ap, ◌∙◌}
use Rattle.std.specs.Prelude.{not, ◌&&◌}
use Rattle.std.specs.List.{list_any}
use Rattle.smil_model.specs.document.Defaults.{begin_list, restart_of}
use Rattle.smil_model.specs.interval.Instances.{is_same_event}
use Rattle.smil_instances.proofs.SensitiveItems.{sensitive_end, end_as, serial_is}
use Rattle.smil_instances.proofs.sensitivity.is_sensitive.Goals as goal
use Rattle.smil_instances.proofs.sensitivity.is_sensitive.Goals.{then-always_restarts, else-always_restarts}

pub returns-after-always_restarts : goal.returns-after-always_restarts
returns-after-always_restarts c = λ e at.
    let nodes = c.args.tree.now.nodes in
    let own = serial_is nodes c.args.own.now.who e at in
    let always = c.always_restarts-then-active in
    elim c.if-always_restarts.branch [
      | then-always_restarts w ↦
          ap not (w.result-is ∙ sym (ap (λ t. t && w.is_doubled.result) w.if-always_restarts.true))
          ∙ sensitive_end (restart_of nodes e) always.result w.is_doubled.result (always.ensures e at)
          ∙ end_as nodes c.args.own.now.who e c.args.own.now.item.now c.args.active w.is_doubled.result c.args.own.now.side c.if-active.true c.in-End.is own (w.is_doubled.ensures e at)
      | else-always_restarts w ↦
          ap not (w.result-is ∙ w.if-always_restarts.false ∙ sym (ap (λ t. t && list_any (is_same_event nodes c.args.own.now.who c.args.own.now.item.now) (begin_list nodes e)) w.if-always_restarts.false))
          ∙ sensitive_end (restart_of nodes e) always.result (list_any (is_same_event nodes c.args.own.now.who c.args.own.now.item.now) (begin_list nodes e)) (always.ensures e at)
          ∙ end_as nodes c.args.own.now.who e c.args.own.now.item.now c.args.active (list_any (is_same_event nodes c.args.own.now.who c.args.own.now.item.now) (begin_list nodes e)) c.args.own.now.side c.if-active.true c.in-End.is own refl
    ]
