use Rattle.std.proofs.Common.{◌≡◌, sym, ◌∙◌, ap, ◌++◌, ℕ, List, Some}
use Rattle.std.proofs.lemmas.Result.{IfOk-weaker}
use Rattle.std.proofs.lemmas.List.{append-nil}
use Rattle.smil_model.specs.reach.Reach.{down_from}
use Rattle.smil_graph.specs.Graph.{OrderedNodes}
use Rattle.smil_graph.specs.Places.{place_of}
use Rattle.smil_graph.proofs.GraphTables.{all_placed}
use Rattle.smil_graph.proofs.GraphAnswers.{is_placed, reach_there, reach_absent}
use Rattle.smil_graph.proofs.graph.Graph.down.Goals as goal

pub reach_at-requires-clause-element : goal.reach_at-requires-clause-element
reach_at-requires-clause-element c = is_placed c.self.inside.tree.nodes (place_of c.self.inside.tree.nodes c.args.serial) c.in-Some.place (sym c.element_place.ensures ∙ c.in-Some.is)

pub returns-in_ok-reach-in-Some-clause-ok : goal.returns-in_ok-reach-in-Some-clause-ok
returns-in_ok-reach-in-Some-clause-ok c =
    let element = reach_there c.self.inside.tree.nodes (c.self.invariant.0).distinct (place_of c.self.inside.tree.nodes) (all_placed c.self.inside.tree.nodes) c.args.serial c.in-Some.place (sym c.element_place.ensures ∙ c.in-Some.is) in
    let reach : c.slice.result.now ≡ down_from c.args.self.now.nodes (Some c.args.serial) =
    c.slice.ensures ∙ c.in_ok-reach-in-Some.ensures element.0 element.1 ∙ sym element.2 ∙ ap (λ (g : OrderedNodes). down_from g.nodes (Some c.args.serial)) c.self.view_is in
    IfOk-weaker c.append.result (λ _. c.append.new.self ≡ c.args.out.now ++ c.slice.result.now) (λ _. c.append.new.self ≡ c.args.out.now ++ down_from c.args.self.now.nodes (Some c.args.serial))
    (λ _ all. all ∙ ap (λ (ss : List ℕ). c.args.out.now ++ ss) reach)
    c.append.ensures.ok

pub returns-in-None-clause-ok : goal.returns-in-None-clause-ok
returns-in-None-clause-ok c =
    let none = reach_absent c.self.inside.tree.nodes (c.self.invariant.0).distinct (place_of c.self.inside.tree.nodes) (all_placed c.self.inside.tree.nodes) c.args.serial (sym c.element_place.ensures ∙ c.in-None.is) in
    rw (sym (ap (λ (g : OrderedNodes). down_from g.nodes (Some c.args.serial)) c.self.view_is) ∙ none) (sym (append-nil c.args.out.now))
