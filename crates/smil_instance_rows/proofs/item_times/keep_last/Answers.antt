use Rattle.std.proofs.Common.{◌∙◌, sym, ap, subst}
use Rattle.smil_instance_rows.specs.Places.{Replaces, last_alone}
use Rattle.smil_instance_rows.proofs.TimesByPlace.{last_of_more, last_of_few, replaces_rest}
use Rattle.smil_instance_rows.proofs.item_times.keep_last.Goals as goal

pub loop-first-preserved : goal.loop-first-preserved
loop-first-preserved g c =
    let le = g.T.Instant.at_most in
    let choose = g.T.Instant.choose in
    let taken = c.in-Some.ensures.some in (
      sym (last_of_more c.in-Some.first c.pop_more.new.self taken.1) ∙ ap last_alone (sym taken.0) ∙ c.loop-first.invariant.0,
      λ others same. c.take_out_value.ensures
          ∙ replaces_rest le g.T.Instant.order choose c.args.kept.now c.in-Some.first c.pop_more.new.self c.args.sorted.now c.loop-first.sorted
          (subst (λ ks. Replaces le choose c.args.kept.now ks c.args.sorted.now c.loop-first.sorted) taken.0 c.loop-first.invariant.1) others same,
    )

pub returns-clause-kept : goal.returns-clause-kept
returns-clause-kept g c =
    let none = c.in_default.ensures.none in
    none.0 ∙ last_of_few c.loop-first.kept none.1 ∙ c.loop-first.invariant.0
