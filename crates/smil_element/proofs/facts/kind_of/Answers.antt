use Rattle.std.proofs.Common.{◌≡◌, ◌∙◌, ap}
use Rattle.std.specs.Prelude.{Some, is_some}
use Rattle.smil_model.specs.document.Document.{Document, node_at}
use Rattle.smil_element.proofs.KnownElements.{kind_is, known_node}
use Rattle.smil_instances.proofs.IdTargets.{element_of}
use Rattle.smil_element.proofs.facts.kind_of.Goals as goal

pub kind-requires : goal.kind-requires
kind-requires c =
    let found = element_of c.args.past.now.document.nodes c.args.who c.requires in
    let known : node_at c.tree.result.now.nodes c.args.who ≡ Some found.0 = ap (λ (d : Document). node_at d.nodes c.args.who) c.tree.ensures ∙ known_node c.args.past.now.document c.possible.ensures.valid.numbered c.args.who found.0 found.1 in
    ap is_some known

pub returns : goal.returns
returns c = λ e here.
    let known : node_at c.tree.result.now.nodes c.args.who ≡ Some e = ap (λ (d : Document). node_at d.nodes c.args.who) c.tree.ensures ∙ known_node c.args.past.now.document c.possible.ensures.valid.numbered c.args.who e here in
    kind_is c.tree.result.now.nodes c.args.who e c.kind.result c.kind.ensures known
