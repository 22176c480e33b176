use Rattle.std.proofs.Common.{sym, ◌∙◌, ap}
use Rattle.smil_model.specs.declared.document.Edge.TheVariants.{Begin, End}
use Rattle.smil_graph.specs.Graph.{looped_at, OrderedNodes}
use Rattle.smil_graph.specs.Tables.{marked_at}
use Rattle.smil_graph.specs.Places.{place_of}
use Rattle.smil_graph.proofs.GraphTables.{all_placed}
use Rattle.smil_graph.proofs.GraphAnswers.{marks_answer, kept}
use Rattle.smil_graph.proofs.graph.Graph.looped.Goals as goal

pub returns-in-Begin : goal.returns-in-Begin
returns-in-Begin c =
    c.is_marked.ensures
    ∙ ap (λ o. marked_at c.as_ref-tables.result.now.begins o c.args.item) c.position-place.ensures
    ∙ marks_answer c.self.inside.tree.nodes (c.self.invariant.0).distinct (place_of c.self.inside.tree.nodes) (all_placed c.self.inside.tree.nodes) Begin c.as_ref-tables.result.now.begins (kept c.self.inside.tree c.self.inside.tables.value c.as_ref-tables.result.now c.as_ref-tables.ensures c.self.invariant.1).begun c.args.serial c.args.item
    ∙ ap (λ (g : OrderedNodes). looped_at g.nodes c.args.serial Begin c.args.item) c.self.view_is
    ∙ sym (ap (λ s. looped_at c.args.self.now.nodes c.args.serial s c.args.item) c.in-Begin.is)

pub returns-in-End : goal.returns-in-End
returns-in-End c =
    c.is_marked-in-End.ensures
    ∙ ap (λ o. marked_at c.as_ref-tables.result.now.ends o c.args.item) c.position-place.ensures
    ∙ marks_answer c.self.inside.tree.nodes (c.self.invariant.0).distinct (place_of c.self.inside.tree.nodes) (all_placed c.self.inside.tree.nodes) End c.as_ref-tables.result.now.ends (kept c.self.inside.tree c.self.inside.tables.value c.as_ref-tables.result.now c.as_ref-tables.ensures c.self.invariant.1).ended c.args.serial c.args.item
    ∙ ap (λ (g : OrderedNodes). looped_at g.nodes c.args.serial End c.args.item) c.self.view_is
    ∙ sym (ap (λ s. looped_at c.args.self.now.nodes c.args.serial s c.args.item) c.in-End.is)
