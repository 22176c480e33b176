use Rattle.std.proofs.Common.{◌≡◌, ◌∙◌, sym, subst, List}
use Rattle.smil_model.specs.Rising.{IsPlaceFrom, IsRising, put_in}
use Rattle.smil_model.proofs.RisingLists.{insert_here, rises_put}
use Rattle.smil_instance_rows.proofs.sorted.put_between.Goals as goal

pub place_from-place-requires : goal.place_from-place-requires
place_from-place-requires g c = subst (λ (ys : List _). IsRising g.T.Instant.at_most ys) (sym c.as_slice.ensures.value) c.requires

pub returns-clause-ok : goal.returns-clause-ok
returns-clause-ok g c =
    let le = g.T.Instant.at_most in
    let xs = c.args.values.now.items in
    let p = c.place_from-place.result in
    c.in_ok-insert.ensures.items
    ∙ insert_here le g.T.Instant.order xs c.args.value p (subst (λ (ys : List _). IsPlaceFrom le ys c.args.value p) c.as_slice.ensures.value c.place_from-place.ensures)

pub returns-clause-rising : goal.returns-clause-rising
returns-clause-rising g c =
    let le = g.T.Instant.at_most in
    let xs = c.args.values.now.items in
    let p = c.place_from-place.result in
    let put : c.insert.new.self.items ≡ put_in le c.args.value xs = c.in_ok-insert.ensures.items
    ∙ insert_here le g.T.Instant.order xs c.args.value p (subst (λ (ys : List _). IsPlaceFrom le ys c.args.value p) c.as_slice.ensures.value c.place_from-place.ensures) in
    subst (λ (ys : List _). IsRising le ys) (sym put) (rises_put le g.T.Instant.order c.args.value xs c.requires)
