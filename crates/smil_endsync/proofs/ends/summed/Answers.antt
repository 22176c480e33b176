use Rattle.std.proofs.Common.{◌≡◌, ◌∙◌, ap, List, length, arith}
use Rattle.std.proofs.lemmas.List.{length-map}
use Rattle.smil_endsync.specs.declared.ends.EndSummary.{EndSummary}
use Rattle.smil_endsync.specs.Ends.{one_end}
use Rattle.smil_endsync.proofs.ends.summed.Goals as goal

pub of-requires : goal.of-requires
of-requires c =
    let long : length c.as_slice.result.now ≡ length c.args.children.now =
    ap (λ (xs : List EndSummary). length xs) (c.as_slice.ensures.value ∙ c.in_ok-summaries.ensures)
    ∙ length-map c.args.children.now (one_end c.in-Some.summing) in
    omega (arith, long, c.requires)
