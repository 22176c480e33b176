use Rattle.std.proofs.Common.{◌≤◌, subst, sym, ap, ◌∙◌, length, false, arith}
use Rattle.std.specs.Prelude.{None, not, pos}
use Rattle.smil_diary.specs.Places.{is_from}
use mir.Syntax.{w64}
use Rattle.std.proofs.lemmas.Bool.{not-true}
use Rattle.std.proofs.lemmas.Int.{to_z-of_z}
use Rattle.std.proofs.lemmas.List.{take_all}
use Rattle.std.proofs.lemmas.List.Elements.{All-get_or}
use Rattle.smil_stretch.specs.declared.clock.Clock.TheVariants.{Runs}
use Rattle.smil_stretch.specs.declared.clock.NodeClock.{NodeClock}
use Rattle.smil_stretch.specs.NodeClocks.{Fits, IsTurned}
use Rattle.smil_stretch.proofs.ClockLoop.{same_here, rest_on, done_on, done_early}
use Rattle.smil_stretch.proofs.refresh.refresh.Goals as goal

abbrev none : NodeClock
none = record { serial = 0; parent = None; paused = false; clock = Runs (pos 0) }

pub returns-then-is_outside : goal.returns-then-is_outside
returns-then-is_outside c = λ after turned.
    let kept = subst (λ m. IsTurned c.args.first m c.args.clocks.now after) (sym (to_z-of_z w64 c.args.moment c.ranges.moment)) turned in
    done_early c.args.first c.args.moment c.args.clocks.now after c.loop-place.clocks turned c.loop-place.place none c.loop-place-test.true c.loop-place.auto.clocks
    c.loop-place.invariant.rest (c.loop-place.invariant.done after kept) c.if-first-place.true (not-true _ (ap (λ p. not (is_from c.args.first p)) (sym c.parent_place.ensures) ∙ sym c.is_outside.ensures ∙ c.if-is_outside.true))

pub turned-requires-clause-fits : goal.turned-requires-clause-fits
turned-requires-clause-fits c =
    subst (λ (n : NodeClock). Fits n.clock) (sym (same_here c.loop-place.clocks c.args.clocks.now c.loop-place.place none c.loop-place.invariant.rest))
    (All-get_or (λ (n : NodeClock). Fits n.clock) c.args.clocks.now c.loop-place.place none c.loop-place-test.true c.requires.fit)

pub loop-place-preserved : goal.loop-place-preserved
loop-place-preserved c = record {
  rest = rest_on c.loop-place.clocks c.args.clocks.now c.loop-place.place _ c.loop-place.invariant.rest;
  done = λ after turned.
      done_on c.args.first _ c.args.clocks.now after c.loop-place.clocks turned c.loop-place.place none c.loop-place-test.true c.loop-place.auto.clocks
      c.loop-place.invariant.rest (c.loop-place.invariant.done after turned) c.turned.result c.is_held-stands.result (c.loop-place.auto.place) c.is_held-stands.ensures c.turned.ensures;
}

pub returns : goal.returns
returns c = λ after turned.
    let kept = subst (λ m. IsTurned c.args.first m c.args.clocks.now after) (sym (to_z-of_z w64 c.args.moment c.ranges.moment)) turned in
    let past : length c.args.clocks.now ≤ c.loop-place.place = omega arith in
    sym (take_all c.loop-place.place c.loop-place.clocks (omega (arith, past, c.loop-place.auto.clocks)))
    ∙ c.loop-place.invariant.done after kept
    ∙ take_all c.loop-place.place after (omega (arith, past, turned.same_length))
