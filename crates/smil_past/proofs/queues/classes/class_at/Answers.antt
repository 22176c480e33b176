use Rattle.std.proofs.Common.{sym, ap, ◌∙◌}
use Rattle.std.specs.Prelude.{is_some}
use Rattle.smil_past.proofs.NodeClasses.{class_there}
use Rattle.smil_past.proofs.KnownNodes.{known_place}
use Rattle.smil_past.proofs.queues.classes.class_at.Goals as goal

pub unwrap-place-requires : goal.unwrap-place-requires
unwrap-place-requires c = ap is_some c.position.ensures ∙ known_place c.args.tree.now.nodes c.args.who c.requires.known

pub returns : goal.returns
returns c = class_there c.args.tree.now.nodes c.args.classes.now c.unwrap-place.result c.args.who _ c.requires.classes (sym c.unwrap-place.ensures ∙ c.position.ensures)
