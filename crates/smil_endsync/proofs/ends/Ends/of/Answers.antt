use Rattle.std.proofs.Common.{◌≡◌, ◌∙◌, ap, subst, sym, List, length, map, arith}
use Rattle.std.specs.Prelude.{IfSome, unwrap_or}
use Rattle.std.specs.List.{position}
use Rattle.smil_model.specs.declared.interval.ChildEnd.{ChildEnd}
use Rattle.smil_endsync.specs.declared.ends.EndSummary.{EndSummary}
use Rattle.smil_endsync.specs.declared.ends.Summing.{Summing}
use Rattle.smil_endsync.specs.declared.ends.Summing.TheVariants.{Last}
use Rattle.smil_endsync.specs.Ends.{one_end}
use Rattle.smil_endsync.proofs.ends.Ends.of.Goals as goal

pub summed-requires : goal.summed-requires
summed-requires c = omega (arith, c.requires, ap (λ (xs : List ChildEnd). length xs) c.deref-2.ensures.value)

pub invariant_of-result : goal.invariant_of-result
invariant_of-result c = record {
  own =
      subst (λ (r : Summing). IfSome c.in_ok-summed.field-0 (λ (all : List EndSummary). all ≡ map (one_end r) c.args.children.items)) (sym c.unwrap_or.ensures)
      (subst (λ (cs : List ChildEnd). IfSome c.in_ok-summed.field-0 (λ (all : List EndSummary). all ≡ map (one_end (unwrap_or c.args.summing Last)) cs)) c.deref-2.ensures.value c.in_ok-summed.ensures);
  named_is = c.named_place.ensures ∙ ap (position (λ (x : ChildEnd). x.named)) c.deref.ensures.value;
}
