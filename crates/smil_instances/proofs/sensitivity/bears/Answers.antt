use Rattle.std.proofs.Common.{sym, ap, ◌∙◌}
use Rattle.smil_model.specs.document.Document.{has_id}
use Rattle.std.specs.Str.{bytes_eq}
use Rattle.smil_instances.proofs.IdTargets.{known_node, means_own}
use Rattle.smil_instances.proofs.sensitivity.bears.Goals as goal

pub attrs-requires : goal.attrs-requires
attrs-requires c = known_node c.args.tree.now.nodes c.args.who c.requires

pub returns-in-Some : goal.returns-in-Some
returns-in-Some c =
    c.eq.ensures ∙ ap (λ own. bytes_eq own c.args.id.now) c.slice.ensures ∙ sym (ap (has_id c.args.id.now) c.in-Some.is)
    ∙ means_own c.args.tree.now c.args.id.now c.args.who c.attrs.result.now c.valid.ensures c.requires c.attrs.ensures

pub returns-in-None : goal.returns-in-None
returns-in-None c =
    sym (ap (has_id c.args.id.now) c.in-None.is)
    ∙ means_own c.args.tree.now c.args.id.now c.args.who c.attrs.result.now c.valid.ensures c.requires c.attrs.ensures
