use Rattle.std.proofs.Common.{◌∙◌, ap, ℤ, w64}
use Rattle.std.specs.Prelude.{unwrap_or}
use Rattle.std.proofs.lemmas.Int.{to_z-of_z}
use Rattle.smil_model.specs.declared.times.Time.TheVariants.{At}
use Rattle.smil_endsync.proofs.ChildEndFolds.{latest_is_reduced}
use Rattle.smil_endsync.proofs.last_end.Goals as goal

pub returns : goal.returns
returns c =
    c.unwrap_or.ensures
    ∙ ap (λ (x : ℤ). unwrap_or c.greatest_latest.result (At x)) (to_z-of_z w64 c.args.start c.ranges.start)
    ∙ ap (λ o. unwrap_or o (At c.args.start)) (c.greatest_latest.ensures ∙ latest_is_reduced c.args.ends.now)
