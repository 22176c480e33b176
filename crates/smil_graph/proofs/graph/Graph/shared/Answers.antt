use Rattle.std.proofs.Common.{◌≡◌, ◌∙◌, sym, ap, subst}
use Rattle.smil_graph.specs.declared.tables.Tables.{Tables}
use Rattle.smil_graph.specs.Graph.{OrderedNodes}
use Rattle.smil_graph.specs.Reduced.{all_reduced}
use Rattle.smil_graph.specs.Tables.{AreTables}
use Rattle.smil_graph.proofs.AlikeTables.{tables_alike}
use Rattle.smil_graph.proofs.graph.Graph.shared.Goals as goal

pub invariant_of-result : goal.invariant_of-result
invariant_of-result c =
    let same : c.in_ok-clone.field-0.value ≡ c.self.inside.tables.value = search (c.in_ok-clone.ensures) in
    let alike = ap (λ (g : OrderedNodes). all_reduced g.nodes) c.self.view_is ∙ c.requires in
    (c.valid.ensures.numbered, subst (λ (t : Tables). AreTables c.args.after t) (sym same) (tables_alike c.self.inside.tree c.args.after (c.valid.ensures.numbered).distinct alike c.self.inside.tables.value c.self.invariant.1))
