use Rattle.std.proofs.Common.{◌∙◌, sym, ap, subst}
use Rattle.smil_instance_rows.specs.Rows.{before_place}
use Rattle.smil_instance_rows.specs.Places.{Replaces}
use Rattle.smil_instance_rows.proofs.TimesByPlace.{before_push, replaces_first}
use Rattle.smil_instance_rows.proofs.item_times.cut_later.Goals as goal

pub loop-last-preserved : goal.loop-last-preserved
loop-last-preserved g c =
    let le = g.T.Instant.at_most in
    let choose = g.T.Instant.choose in
    let taken = c.in-Some.ensures.some in (
      sym (before_push c.args.place c.pop_from.new.self c.in-Some.last taken.1) ∙ ap (before_place c.args.place) (sym taken.0) ∙ c.loop-last.invariant.0,
      λ others same. c.take_out_value.ensures
          ∙ replaces_first le g.T.Instant.order choose c.args.kept.now c.pop_from.new.self c.in-Some.last c.args.sorted.now c.loop-last.sorted
          (subst (λ ks. Replaces le choose c.args.kept.now ks c.args.sorted.now c.loop-last.sorted) taken.0 c.loop-last.invariant.1) others same,
    )
