use Rattle.std.proofs.Common.{◌≡◌, ◌∙◌, subst, refl, List, ℕ, ◌+◌, length, ℤ, w64, arith}
use Rattle.std.proofs.lemmas.Int.{to_z-of_z}
use Rattle.smil_model.specs.declared.document.Node.{Node}
use Rattle.smil_model.specs.document.Document.{elements}
use Rattle.smil_laws.proofs.NumberedTrees.{ordered}
use Rattle.smil_graph.specs.Graph.{IsGraphOrder}
use Rattle.smil_past.specs.Past.{history_of}
use Rattle.smil_rounds.specs.Round.{AreRowsEvaluated}
use Rattle.smil_rounds.proofs.RowEvaluated.{take_next}
use Rattle.smil_rounds.proofs.CurrentRowsExact.{none_taken, order_length, ordered_element}
use Rattle.smil_nodes.proofs.AgendaEmpty.{taken_current}
use Rattle.std.proofs.Common.{get_or, ap, sym}
use Rattle.smil_model.specs.document.Document.{node_at}
use Rattle.smil_laws.proofs.RoundsRest.{find-serial}
use Rattle.smil_rounds.specs.Current.{interval_in}
use Rattle.smil_nodes.specs.Work.{IsBelow}
use Rattle.smil_nodes.proofs.TimeChildPlaces.{child_below}
use Rattle.smil_nodes.proofs.NearKeys.{near_present}
use Rattle.smil_nodes.proofs.KnownEnds.{all_below, below_next, known_ended, knows, none_below}
use Rattle.smil_nodes.proofs.AgendaStep.{others_stay}
use Rattle.smil_nodes.proofs.live.LiveTable.evaluate_all.Goals as goal

pub evaluate-requires-clause-element : goal.evaluate-requires-clause-element
evaluate-requires-clause-element g c =
    let order = c.order-who-items.result.now in
    let is : IsGraphOrder c.args.past.now.document.nodes order = subst (λ (nodes : List Node). IsGraphOrder nodes order) c.graph.ensures c.order-who-items.ensures.order in
    ordered_element c.args.past.now.document.nodes order c.loop-who.who-index is c.loop-who-test.true

pub evaluate-requires-clause-of_elements : goal.evaluate-requires-clause-of_elements
evaluate-requires-clause-of_elements g c = (c.loop-who.invariant.0).of_elements

pub loop-who-init : goal.loop-who-init
loop-who-init g c = (
  none_taken (history_of c.args.past.now) _ c.order-who-items.result.now c.args.self.now.schedule c.requires.of_elements,
  refl,
  omega arith,
  none_below (history_of c.args.past.now) (interval_in c.args.self.now.schedule) c.order-who-items.result.now c.args.self.now.endings c.possible.ensures.valid.numbered.distinct
      (subst (λ (nodes : List Node). IsGraphOrder nodes c.order-who-items.result.now) c.graph.ensures c.order-who-items.ensures.order) c.requires.known,
)

pub evaluate-requires-clause-known : goal.evaluate-requires-clause-known
evaluate-requires-clause-known g c = λ e here implicit.
    let nodes = c.args.past.now.document.nodes in
    let order = c.order-who-items.result.now in
    let k = c.loop-who.who-index in
    let who = get_or order k 0 in
    let distinct = c.possible.ensures.valid.numbered.distinct in
    let is : IsGraphOrder nodes order = subst (λ (nodes : List Node). IsGraphOrder nodes order) c.graph.ensures c.order-who-items.ensures.order in
    let own : e.serial ≡ who = find-serial who (elements nodes) e here in
    knows (history_of c.args.past.now) c.loop-who.self.schedule c.loop-who.self.endings (IsBelow order k) who e distinct (c.loop-who.invariant.0).of_elements c.loop-who.invariant.3 here implicit
    (λ j child at. child_below nodes order k j e child distinct is c.loop-who-test.true (sym own) (ap (node_at (elements nodes)) own ∙ here) implicit at)

pub loop-who-preserved : goal.loop-who-preserved
loop-who-preserved g c =
    let order = c.order-who-items.result.now in
    let is : IsGraphOrder c.args.past.now.document.nodes order = subst (λ (nodes : List Node). IsGraphOrder nodes order) c.graph.ensures c.order-who-items.ensures.order in
    let who = get_or order c.loop-who.who-index 0 in
    let kept = c.in_ok-evaluate.ensures in (
      take_next (history_of c.args.past.now) _ order c.loop-who.who-index _ c.loop-who.self.schedule c.evaluate.new.self.schedule c.possible.ensures.valid.numbered.distinct is c.loop-who-test.true refl c.loop-who.invariant.0 kept.taken,
      kept.has_mark ∙ c.loop-who.invariant.1,
      omega (arith, kept.steps, c.loop-who.invariant.2),
      known_ended (history_of c.args.past.now) who c.loop-who.self.schedule c.evaluate.new.self.schedule c.loop-who.self.endings c.evaluate.new.self.endings (IsBelow order c.loop-who.who-index) (IsBelow order (c.loop-who.who-index + 1)) c.possible.ensures.valid.numbered.distinct
          (others_stay (history_of c.args.past.now) _ who c.loop-who.self.schedule c.evaluate.new.self.schedule c.possible.ensures.valid.numbered.distinct (c.loop-who.invariant.0).of_elements kept.taken)
          kept.ended (λ child there other below. below_next order c.loop-who.who-index who child.serial refl other below) c.loop-who.invariant.3,
    )

pub returns-clause-current : goal.returns-clause-current
returns-clause-current g c =
    let nodes = c.args.past.now.document.nodes in
    let h = history_of c.args.past.now in
    let rows = c.loop-who.self.schedule in
    let order = c.order-who-items.result.now in
    let is : IsGraphOrder nodes order = subst (λ (nodes : List Node). IsGraphOrder nodes order) c.graph.ensures c.order-who-items.ensures.order in
    let whole : c.loop-who.who-index ≡ length order = omega (arith, c.loop-who-test.false, c.loop-who.auto.who-index-end) in
    let taken : AreRowsEvaluated h c.args.moment order c.loop-who.who-index rows = subst (λ (m : ℤ). AreRowsEvaluated h m order c.loop-who.who-index rows) (to_z-of_z w64 c.args.moment c.ranges.moment) c.loop-who.invariant.0 in
    record {
      rows_are =
          taken_current h c.args.moment order rows (ordered c.args.past.now.document c.possible.ensures.valid.numbered) is
          (subst (λ (k : ℕ). AreRowsEvaluated h c.args.moment order k rows) whole taken);
      ends_are =
          all_below h (interval_in rows) order c.loop-who.self.endings c.possible.ensures.valid.numbered.distinct is c.loop-who.who-index c.loop-who-test.false c.loop-who.invariant.3;
      keys_are = near_present c.args.past.now c.args.moment c.possible.ensures c.requires.moment;
    }

pub returns-in_err-evaluate-clause-most : goal.returns-in_err-evaluate-clause-most
returns-in_err-evaluate-clause-most g c =
    let nodes = c.args.past.now.document.nodes in
    let order = c.order-who-items.result.now in
    let is : IsGraphOrder nodes order = subst (λ (nodes : List Node). IsGraphOrder nodes order) c.graph.ensures c.order-who-items.ensures.order in
    let each : length order ≡ length (elements nodes) = order_length nodes order is in
    omega (arith, each, c.loop-who-test.true, c.evaluate.ensures.most, c.loop-who.invariant.2)

pub returns-clause-steps : goal.returns-clause-steps
returns-clause-steps g c =
    let nodes = c.args.past.now.document.nodes in
    let order = c.order-who-items.result.now in
    let is : IsGraphOrder nodes order = subst (λ (nodes : List Node). IsGraphOrder nodes order) c.graph.ensures c.order-who-items.ensures.order in
    let whole : c.loop-who.who-index ≡ length order = omega (arith, c.loop-who-test.false, c.loop-who.auto.who-index-end) in
    let each : length order ≡ length (elements nodes) = order_length nodes order is in
    omega (arith, whole, each, c.loop-who.invariant.2)

pub returns-clause-most : goal.returns-clause-most
returns-clause-most g c =
    let all : c.loop-who.steps ≡ c.args.steps.now + length (elements c.args.past.now.document.nodes) = returns-clause-steps g c in
    omega (arith, all)
