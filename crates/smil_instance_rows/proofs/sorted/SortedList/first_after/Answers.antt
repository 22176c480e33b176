use Rattle.std.proofs.Common.{◌≡◌, ◌∙◌, sym, subst, List, rules, tests}
use Rattle.std.specs.Prelude.{not, find, slice_get}
use Rattle.std.proofs.lemmas.List.Sorted.{IsPartitionPoint-from_clause}
use Rattle.smil_model.specs.Rising.{IsRising}
use Rattle.smil_model.proofs.RisingLists.{find_after, parted_after}
use Rattle.smil_instance_rows.proofs.sorted.SortedList.first_after.Goals as goal

pub returns : goal.returns
returns g c =
    let le = g.T.Instant.at_most in
    let order = g.T.Instant.order in
    let v = c.args.value in
    let p = c.partition_point-place.result in
    let up : IsRising le c.as_slice.result.now = subst (λ (ys : List _). IsRising le ys) (sym c.as_slice.ensures.value) c.self.invariant in
    let point = IsPartitionPoint-from_clause (λ x. not (not (le x v))) c.as_slice.result.now p c.partition_point-place.ensures.partitioned (parted_after le order v c.as_slice.result.now up) (λ a r q k. search (rules, tests)) in
    c.at.ensures
    ∙ subst (λ (ys : List _). slice_get ys p ≡ find (λ x. not (le x v)) ys) (c.as_slice.ensures.value ∙ c.self.view_is) (find_after le order v c.as_slice.result.now p point)
