use Rattle.std.proofs.Common.{◌≡◌, ◌∙◌, ap, ◌++◌, ℕ, List}
use Rattle.std.proofs.lemmas.Result.{IfOk-weaker}
use Rattle.smil_model.specs.reach.Reach.{down_key, waiters}
use Rattle.smil_graph.specs.Graph.{OrderedNodes}
use Rattle.smil_graph.specs.Links.{row}
use Rattle.smil_graph.specs.Tables.{AreOf}
use Rattle.smil_graph.proofs.GraphAnswers.{kept}
use Rattle.smil_graph.proofs.KeyRows.{waiters_are, waiters_elements}
use Rattle.smil_graph.proofs.graph.Graph.down_key.Goals as goal

pub reach_from-requires-clause-elements : goal.reach_from-requires-clause-elements
reach_from-requires-clause-elements c =
    let starts : c.row_at-starts.result.now ≡ row c.as_ref-tables.result.now.waiting.items c.args.key = c.row_at-starts.ensures ∙ ap (λ rows. row rows c.args.key) c.as_slice.ensures.value in
    rw starts (waiters_elements c.self.inside.tree.nodes (c.self.invariant.0).distinct c.as_ref-tables.result.now.waiting.items (kept c.self.inside.tree c.self.inside.tables.value c.as_ref-tables.result.now c.as_ref-tables.ensures c.self.invariant.1).waiting c.args.key)

pub returns-clause-ok : goal.returns-clause-ok
returns-clause-ok c =
    let starts : c.row_at-starts.result.now ≡ row c.as_ref-tables.result.now.waiting.items c.args.key = c.row_at-starts.ensures ∙ ap (λ rows. row rows c.args.key) c.as_slice.ensures.value in
    let are : AreOf c.self.inside.tree.nodes (waiters c.self.inside.tree.nodes c.args.key) c.row_at-starts.result.now = rw starts (waiters_are c.self.inside.tree.nodes (c.self.invariant.0).distinct c.as_ref-tables.result.now.waiting.items (kept c.self.inside.tree c.self.inside.tables.value c.as_ref-tables.result.now c.as_ref-tables.ensures c.self.invariant.1).waiting c.args.key) in
    let reach : c.slice.result.now ≡ down_key c.args.self.now.nodes c.args.key =
    c.slice.ensures ∙ c.in_ok-reach.ensures (waiters c.self.inside.tree.nodes c.args.key) are ∙ ap (λ (g : OrderedNodes). down_key g.nodes c.args.key) c.self.view_is in
    IfOk-weaker c.append.result (λ _. c.append.new.self ≡ c.args.out.now ++ c.slice.result.now) (λ _. c.append.new.self ≡ c.args.out.now ++ down_key c.args.self.now.nodes c.args.key)
    (λ _ all. all ∙ ap (λ (ss : List ℕ). c.args.out.now ++ ss) reach)
    c.append.ensures.ok
