use Rattle.std.proofs.Common.{sym, ap, ◌∙◌, true, false}
use Rattle.std.specs.Prelude.{is_some}
use Rattle.smil_model.specs.document.Document.{node_at}
use Rattle.smil_past.proofs.TimeParents.{excl_is, has_kind_of, up}
use Rattle.smil_past.proofs.queues.playing.excl_above.Goals as goal

pub kind-requires : goal.kind-requires
kind-requires c = ap is_some (up c.args.tree.now.nodes c.args.who c.in_ok-parent.parent c.valid.ensures.numbered.distinct c.requires c.in_ok-parent.ensures).known

pub returns-then-is_excl-clause-above : goal.returns-then-is_excl-clause-above
returns-then-is_excl-clause-above c =
    sym (excl_is c.args.tree.now.nodes c.args.who c.in_ok-parent.parent c.kind.result true (up c.args.tree.now.nodes c.args.who c.in_ok-parent.parent c.valid.ensures.numbered.distinct c.requires c.in_ok-parent.ensures) c.kind.ensures (sym c.is_excl.ensures ∙ c.if-is_excl.true))

pub returns-else-is_excl-clause-above : goal.returns-else-is_excl-clause-above
returns-else-is_excl-clause-above c =
    sym (excl_is c.args.tree.now.nodes c.args.who c.in_ok-parent.parent c.kind.result false (up c.args.tree.now.nodes c.args.who c.in_ok-parent.parent c.valid.ensures.numbered.distinct c.requires c.in_ok-parent.ensures) c.kind.ensures (sym c.is_excl.ensures ∙ c.if-is_excl.false))

pub returns-then-is_excl-clause-kind : goal.returns-then-is_excl-clause-kind
returns-then-is_excl-clause-kind c = has_kind_of (node_at c.args.tree.now.nodes c.in_ok-parent.parent) c.kind.result c.kind.ensures (sym c.is_excl.ensures ∙ c.if-is_excl.true)
