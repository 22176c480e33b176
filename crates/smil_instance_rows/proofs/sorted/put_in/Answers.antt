use Rattle.std.proofs.Common.{◌≡◌, ◌∙◌, sym, subst, length, List}
use Rattle.smil_model.specs.Rising.{IsPlaceFrom, IsRising, put_in}
use Rattle.smil_model.proofs.RisingLists.{insert_here, rises_put}
use Rattle.smil_instance_rows.proofs.LastValues.{insert_last}
use Rattle.smil_instance_rows.proofs.sorted.put_in.Goals as goal

pub goes_last-requires : goal.goes_last-requires
goes_last-requires g c = subst (λ (ys : List _). IsRising g.T.Instant.at_most ys) (sym c.as_slice.ensures.value) c.requires

pub returns-clause-ok : goal.returns-clause-ok
returns-clause-ok g c =
    let le = g.T.Instant.at_most in
    let xs = c.args.values.now.items in
    c.in_ok-push.ensures.items
    ∙ sym (insert_last xs c.args.value)
    ∙ insert_here le g.T.Instant.order xs c.args.value (length xs) (subst (λ (ys : List _). IsPlaceFrom le ys c.args.value (length ys)) c.as_slice.ensures.value (c.goes_last.ensures c.if-not-goes_last.false))

pub returns-clause-rising : goal.returns-clause-rising
returns-clause-rising g c =
    let le = g.T.Instant.at_most in
    let xs = c.args.values.now.items in
    let put : c.push.new.self.items ≡ put_in le c.args.value xs = c.in_ok-push.ensures.items
    ∙ sym (insert_last xs c.args.value)
    ∙ insert_here le g.T.Instant.order xs c.args.value (length xs) (subst (λ (ys : List _). IsPlaceFrom le ys c.args.value (length ys)) c.as_slice.ensures.value (c.goes_last.ensures c.if-not-goes_last.false)) in
    subst (λ (ys : List _). IsRising le ys) (sym put) (rises_put le g.T.Instant.order c.args.value xs c.requires)
