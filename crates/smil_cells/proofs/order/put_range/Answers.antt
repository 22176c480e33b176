use Rattle.std.proofs.Common.{arith, inl}
use Rattle.smil_cells.proofs.ElementsByPlace.{place_put, place_stays}
use Rattle.smil_cells.proofs.ElementsTouched.{place_only}
use Rattle.smil_cells.proofs.order.put_range.Goals as goal

pub loop-place-init : goal.loop-place-init
loop-place-init c = record { more = λ p q. q; put = λ p from below. absurd (omega (arith, from, below)); from = omega arith; only = λ p q. inl q }

pub loop-place-preserved : goal.loop-place-preserved
loop-place-preserved c = record {
  more = λ p q. place_stays c.loop-place.place c.loop-place.places c.put.new.self c.in_ok-put.ensures.ok p (c.loop-place.invariant.more p q);
  put = place_put c.args.start c.loop-place.place c.loop-place.places c.put.new.self c.in_ok-put.ensures.ok c.loop-place.invariant.put;
  from = let from = c.loop-place.invariant.from in omega (arith, from);
  only = place_only c.args.start c.loop-place.place c.args.end c.args.places.now c.loop-place.places c.put.new.self c.in_ok-put.ensures.ok c.loop-place.invariant.from c.loop-place-test.true c.loop-place.invariant.only;
}

pub returns : goal.returns
returns c = record {
  more = c.loop-place.invariant.more;
  put = λ p from below. let end = c.loop-place-test.false in c.loop-place.invariant.put p from (omega (arith, below, end));
  only = c.loop-place.invariant.only;
}
