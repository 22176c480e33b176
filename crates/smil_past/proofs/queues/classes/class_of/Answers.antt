use Rattle.std.proofs.Common.{sym, ap, ◌∙◌}
use Rattle.std.specs.Prelude.{is_some}
use Rattle.smil_model.specs.document.Document.{has_kind, is_class_kind}
use Rattle.smil_past.proofs.NodeClasses.{class_known}
use Rattle.smil_past.proofs.queues.classes.class_of.Goals as goal

pub class_by-requires-clause-known : goal.class_by-requires-clause-known
class_by-requires-clause-known c = ap is_some (class_known c.args.tree.now.nodes c.args.serial c.in-Some.class c.in-Some.ensures).known

pub class_by-requires-clause-kind : goal.class_by-requires-clause-kind
class_by-requires-clause-kind c =
    let class = class_known c.args.tree.now.nodes c.args.serial c.in-Some.class c.in-Some.ensures in
    ap (has_kind is_class_kind) class.known ∙ class.kind

pub returns-in-Some : goal.returns-in-Some
returns-in-Some c =
    let class = class_known c.args.tree.now.nodes c.args.serial c.in-Some.class c.in-Some.ensures in
    c.class_by.ensures c.args.serial (class.is ∙ sym class.known)
