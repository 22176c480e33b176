use Rattle.std.proofs.Common.{◌∙◌, sym, ap, subst}
use Rattle.smil_instance_rows.specs.Rows.{from_place}
use Rattle.smil_instance_rows.specs.Places.{Replaces}
use Rattle.smil_instance_rows.proofs.TimesByPlace.{cut_first, replaces_rest}
use Rattle.smil_instance_rows.proofs.item_times.cut.Goals as goal

pub loop-first-preserved : goal.loop-first-preserved
loop-first-preserved g c =
    let le = g.T.Instant.at_most in
    let choose = g.T.Instant.choose in
    let taken = c.in-Some.ensures.some in (
      sym (cut_first c.args.place c.in-Some.first c.pop_before.new.self taken.1) ∙ ap (from_place c.args.place) (sym taken.0) ∙ c.loop-first.invariant.0,
      λ others same. c.take_out_value.ensures
          ∙ replaces_rest le g.T.Instant.order choose c.args.kept.now c.in-Some.first c.pop_before.new.self c.args.sorted.now c.loop-first.sorted
          (subst (λ ks. Replaces le choose c.args.kept.now ks c.args.sorted.now c.loop-first.sorted) taken.0 c.loop-first.invariant.1) others same,
    )
