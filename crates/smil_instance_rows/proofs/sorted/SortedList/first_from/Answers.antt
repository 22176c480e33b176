use Rattle.std.proofs.Common.{◌∙◌, subst, List}
use Rattle.smil_model.specs.Rising.{IsPlaceFrom}
use Rattle.smil_model.proofs.RisingLists.{find_at}
use Rattle.smil_instance_rows.proofs.sorted.SortedList.first_from.Goals as goal

pub returns : goal.returns
returns g c =
    let le = g.T.Instant.at_most in
    let v = c.args.value in
    let p = c.place_from-place.result in
    let at : IsPlaceFrom le c.args.self.now v p = subst (λ (ys : List _). IsPlaceFrom le ys v p) (c.as_slice.ensures.value ∙ c.self.view_is) c.place_from-place.ensures in
    c.at.ensures ∙ find_at (le v) c.args.self.now p at.1 at.2
