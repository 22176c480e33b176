use Rattle.std.proofs.Common.{◌≡◌, subst, sym, map, List}
use Rattle.std.specs.Prelude.{Option, IfSome}
use Rattle.smil_model.specs.declared.interval.ChildEnd.{ChildEnd}
use Rattle.smil_endsync.specs.declared.ends.EndSummary.{EndSummary}
use Rattle.smil_endsync.specs.declared.ends.Summing.{Summing}
use Rattle.smil_endsync.specs.Ends.{one_end}
use Rattle.smil_endsync.proofs.ChildSummaries.{sum_kept}
use Rattle.smil_endsync.proofs.ends.Ends.top.Goals as goal

pub returns-then-is_same_rule : goal.returns-then-is_same_rule
returns-then-is_same_rule c = λ sum is.
    let inside = c.self.inside in
    let rule : inside.summing ≡ c.args.summing = c.is_same_rule.ensures.0 c.if-is_same_rule.true in
    let kept : IfSome c.top_of.result (λ (top : EndSummary). top ≡ sum (map (one_end inside.summing) inside.children.items)) =
    subst (λ (o : Option EndSummary). IfSome o (λ (top : EndSummary). top ≡ sum (map (one_end inside.summing) inside.children.items))) (sym (c.top_of.ensures sum is))
    (sum_kept inside.summing inside.children.items inside.summaries sum c.self.invariant.own) in
    subst (λ (cs : List ChildEnd). IfSome c.top_of.result (λ (top : EndSummary). top ≡ sum (map (one_end c.args.summing) cs))) c.self.view_is
    (subst (λ (r : Summing). IfSome c.top_of.result (λ (top : EndSummary). top ≡ sum (map (one_end r) inside.children.items))) rule kept)
