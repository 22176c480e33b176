use Rattle.std.proofs.Common.{◌≡◌, ◌∙◌, sym, subst, List}
use Rattle.std.specs.Prelude.{Option}
use Rattle.smil_model.specs.declared.interval.ChildEnd.{ChildEnd}
use Rattle.smil_nodes.specs.declared.endings.Home.{Home}
use Rattle.smil_nodes.specs.Endings.{AreHoused}
use Rattle.smil_nodes.proofs.endings.EndingsDuplicate.copy.Goals as goal

pub invariant_of-result : goal.invariant_of-result
invariant_of-result c =
    let was = c.self.inside in
    let same_homes : c.in_ok-homes.homes.items ≡ was.homes.items = c.in_ok-homes.ensures.items ∙ c.deref.ensures.value in
    let same_ends : c.in_ok-ends.ends.items ≡ was.ends.items = c.in_ok-ends.ensures ∙ c.deref-2.ensures.value in
    subst (λ (x : List (Option Home) × List (List ChildEnd)). AreHoused x.0 x.1) (λ i. (sym same_homes i, sym same_ends i)) c.self.invariant

pub returns : goal.returns
returns c =
    let was = c.self.inside in
    let same_homes : c.in_ok-homes.homes.items ≡ was.homes.items = c.in_ok-homes.ensures.items ∙ c.deref.ensures.value in
    let same_ends : c.in_ok-ends.ends.items ≡ was.ends.items = c.in_ok-ends.ensures ∙ c.deref-2.ensures.value in
    (λ i. record { homes = same_homes i; ends = same_ends i }) ∙ c.self.view_is
