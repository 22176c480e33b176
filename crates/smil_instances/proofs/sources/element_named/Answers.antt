use Rattle.std.proofs.Common.{ap, ◌∙◌}
use Rattle.smil_model.specs.declared.order.Who.TheVariants.{Id}
use Rattle.smil_model.specs.document.Document.{serial_of}
use Rattle.smil_instances.specs.Spread.{element_of}
use Rattle.smil_instances.proofs.NodesFound.{named_is}
use Rattle.smil_instances.proofs.sources.element_named.Goals as goal

pub returns : goal.returns
returns c = c.element_of.ensures ∙ ap (λ id. serial_of (element_of c.args.tree.now.nodes (Id id))) c.in_ok-copy.ensures ∙ ap serial_of (named_is c.args.tree.now c.valid.ensures c.args.id.now)
