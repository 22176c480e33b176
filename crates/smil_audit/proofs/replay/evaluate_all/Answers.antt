use Rattle.std.proofs.Common.{◌≡◌, ◌+◌, refl, subst, List, ℕ, length, ℤ, w64, arith}
use Rattle.std.proofs.lemmas.Int.{to_z-of_z}
use Rattle.smil_model.specs.declared.document.Node.{Node}
use Rattle.smil_model.specs.document.Document.{elements}
use Rattle.smil_laws.proofs.NumberedTrees.{ordered}
use Rattle.smil_graph.specs.Graph.{IsGraphOrder}
use Rattle.smil_past.specs.Past.{history_of}
use Rattle.smil_rounds.specs.Round.{AreRowsEvaluated}
use Rattle.smil_rounds.proofs.RowEvaluated.{take_next}
use Rattle.smil_rounds.proofs.CurrentRowsExact.{all_current, order_length, ordered_element}
use Rattle.smil_audit.proofs.replay.evaluate_all.Goals as goal

pub evaluate-requires-clause-element : goal.evaluate-requires-clause-element
evaluate-requires-clause-element g c =
    let order = c.order-who-items.result.now in
    let is : IsGraphOrder c.args.past.now.document.nodes order = subst (λ (nodes : List Node). IsGraphOrder nodes order) c.graph.ensures c.order-who-items.ensures.order in
    ordered_element c.args.past.now.document.nodes order c.loop-who.who-index is c.loop-who-test.true

pub loop-who-preserved : goal.loop-who-preserved
loop-who-preserved g c =
    let order = c.order-who-items.result.now in
    let is : IsGraphOrder c.args.past.now.document.nodes order = subst (λ (nodes : List Node). IsGraphOrder nodes order) c.graph.ensures c.order-who-items.ensures.order in
    record {
      taken = take_next (history_of c.args.past.now) _ order c.loop-who.who-index _ c.loop-who.known c.evaluate.new.known c.possible.ensures.valid.numbered.distinct is c.loop-who-test.true refl c.loop-who.invariant.taken c.in_ok-evaluate.ensures.evaluated;
      counted = omega (arith, c.in_ok-evaluate.ensures.counted, c.loop-who.invariant.counted);
      steps = omega (arith, c.in_ok-evaluate.ensures.steps, c.loop-who.invariant.steps);
    }

pub returns-clause-current : goal.returns-clause-current
returns-clause-current g c =
    let nodes = c.args.past.now.document.nodes in
    let h = history_of c.args.past.now in
    let rows = c.loop-who.known in
    let order = c.order-who-items.result.now in
    let is : IsGraphOrder nodes order = subst (λ (nodes : List Node). IsGraphOrder nodes order) c.graph.ensures c.order-who-items.ensures.order in
    let whole : c.loop-who.who-index ≡ length order = omega (arith, c.loop-who-test.false, c.loop-who.auto.who-index-end) in
    let taken : AreRowsEvaluated h c.args.moment order c.loop-who.who-index rows = subst (λ (m : ℤ). AreRowsEvaluated h m order c.loop-who.who-index rows) (to_z-of_z w64 c.args.moment c.ranges.moment) c.loop-who.invariant.taken in
    all_current h c.args.moment order rows (ordered c.args.past.now.document c.possible.ensures.valid.numbered) is
    (subst (λ (k : ℕ). AreRowsEvaluated h c.args.moment order k rows) whole taken)

pub returns-in_err-evaluate-clause-most : goal.returns-in_err-evaluate-clause-most
returns-in_err-evaluate-clause-most g c =
    let nodes = c.args.past.now.document.nodes in
    let order = c.order-who-items.result.now in
    let is : IsGraphOrder nodes order = subst (λ (nodes : List Node). IsGraphOrder nodes order) c.graph.ensures c.order-who-items.ensures.order in
    let each : length order ≡ length (elements nodes) = order_length nodes order is in
    omega (arith, each, c.loop-who-test.true, c.evaluate.ensures.most, c.loop-who.invariant.steps)

pub returns-clause-steps : goal.returns-clause-steps
returns-clause-steps g c =
    let nodes = c.args.past.now.document.nodes in
    let order = c.order-who-items.result.now in
    let is : IsGraphOrder nodes order = subst (λ (nodes : List Node). IsGraphOrder nodes order) c.graph.ensures c.order-who-items.ensures.order in
    let whole : c.loop-who.who-index ≡ length order = omega (arith, c.loop-who-test.false, c.loop-who.auto.who-index-end) in
    let each : length order ≡ length (elements nodes) = order_length nodes order is in
    omega (arith, whole, each, c.loop-who.invariant.steps)

pub returns-clause-most : goal.returns-clause-most
returns-clause-most g c =
    let all : c.loop-who.steps ≡ c.args.steps.now + length (elements c.args.past.now.document.nodes) = returns-clause-steps g c in
    omega (arith, all)
