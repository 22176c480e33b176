use Rattle.std.proofs.Common.{◌≡◌, ◌∙◌, ap, inl, sym, subst, refl, List, ℕ, length, ℤ, w64, arith}
use Rattle.std.proofs.lemmas.Int.{to_z-of_z}
use Rattle.smil_model.specs.declared.document.Node.{Node}
use Rattle.smil_laws.proofs.NumberedTrees.{ordered}
use Rattle.smil_graph.specs.Graph.{IsGraphOrder}
use Rattle.smil_past.specs.Past.{history_of}
use Rattle.smil_rounds.specs.Current.{IsCurrent}
use Rattle.smil_rounds.specs.Round.{AreRowsEvaluated, due_in}
use Rattle.smil_rounds.proofs.RowEvaluated.{take_next, unchanged_both, unchanged_none}
use Rattle.smil_rounds.proofs.CurrentRowsExact.{all_current, none_taken, ordered_element}
use Rattle.smil_cells.proofs.DistinctElements.{elements_distinct, order_distinct}
use Rattle.smil_plain.proofs.ElementsTold.{later_next, told_next}
use Rattle.smil_plain.proofs.plain.PlainTable.take_all.Goals as goal

pub take_one-requires-clause-element : goal.take_one-requires-clause-element
take_one-requires-clause-element g c =
    let order = c.order-who-items.result.now in
    let is : IsGraphOrder c.args.past.now.document.nodes order = subst (λ (nodes : List Node). IsGraphOrder nodes order) c.graph.ensures c.order-who-items.ensures.order in
    ordered_element c.args.past.now.document.nodes order c.loop-who.who-index is c.loop-who-test.true

pub loop-who-preserved : goal.loop-who-preserved
loop-who-preserved g c =
    let order = c.order-who-items.result.now in
    let is : IsGraphOrder c.args.past.now.document.nodes order = subst (λ (nodes : List Node). IsGraphOrder nodes order) c.graph.ensures c.order-who-items.ensures.order in
    let nodes = c.args.past.now.document.nodes in
    let apart = order_distinct nodes order (elements_distinct nodes c.possible.ensures.valid.numbered.distinct) is in
    let kept = c.in_ok-take_one.ensures in (
      record {
        taken = take_next (history_of c.args.past.now) _ order c.loop-who.who-index _ c.loop-who.self.known c.take_one.new.self.known c.possible.ensures.valid.numbered.distinct is c.loop-who-test.true refl (c.loop-who.invariant.0).taken kept.taken;
        unchanged = unchanged_both c.args.changed.now c.loop-who.changed c.take_one.new.changed c.args.self.now.known c.loop-who.self.known c.take_one.new.self.known (c.loop-who.invariant.0).unchanged kept.changed;
        told = told_next order apart c.args.self.now.known c.loop-who.self.known c.take_one.new.self.known c.loop-who.who-index _ c.loop-who-test.true refl (c.loop-who.invariant.0).later c.args.changed.now c.loop-who.changed c.take_one.new.changed kept.told (c.loop-who.invariant.0).told;
        later = later_next order apart c.args.self.now.known c.loop-who.self.known c.take_one.new.self.known c.loop-who.who-index _ c.loop-who-test.true refl (c.loop-who.invariant.0).later c.args.changed.now c.loop-who.changed c.take_one.new.changed kept.told;
      },
      kept.noted ∙ c.loop-who.invariant.1,
      kept.has_mark ∙ c.loop-who.invariant.2,
      omega (arith, kept.counted, c.loop-who.invariant.3),
    )

pub returns-clause-current : goal.returns-clause-current
returns-clause-current g c =
    let nodes = c.args.past.now.document.nodes in
    let h = history_of c.args.past.now in
    let rows = c.loop-who.self.known in
    let order = c.order-who-items.result.now in
    let is : IsGraphOrder nodes order = subst (λ (nodes : List Node). IsGraphOrder nodes order) c.graph.ensures c.order-who-items.ensures.order in
    let whole : c.loop-who.who-index ≡ length order = omega (arith, c.loop-who-test.false, c.loop-who.auto.who-index-end) in
    let taken : AreRowsEvaluated h c.args.moment order c.loop-who.who-index rows = subst (λ (m : ℤ). AreRowsEvaluated h m order c.loop-who.who-index rows) (to_z-of_z w64 c.args.moment c.ranges.moment) (c.loop-who.invariant.0).taken in
    subst (λ due. IsCurrent rows due h c.args.moment) (sym (c.in_ok-self.ensures ∙ ap due_in c.rows.ensures))
    (all_current h c.args.moment order rows (ordered c.args.past.now.document c.possible.ensures.valid.numbered) is
    (subst (λ (k : ℕ). AreRowsEvaluated h c.args.moment order k rows) whole taken))

pub returns-clause-told : goal.returns-clause-told
returns-clause-told g c = (c.loop-who.invariant.0).told

pub loop-who-init : goal.loop-who-init
loop-who-init g c = (
  record {
    taken = none_taken (history_of c.args.past.now) _ c.order-who-items.result.now c.args.self.now.known c.requires.of_elements;
    unchanged = unchanged_none c.args.changed.now c.args.self.now.known;
    told = λ s on. inl on;
    later = λ j from below. refl;
  },
  refl,
  refl,
  omega arith,
)
