use Rattle.std.proofs.Common.{◌≡◌, sym, ap, subst, ◌∙◌, cond, length, insert, arith}
use Rattle.std.specs.Result.{is_ok}
use Rattle.smil_model.specs.document.Document.{node_at}
use Rattle.smil_model.specs.document.Valid.{IsDistinct}
use Rattle.smil_tree.specs.Places.{IsCounted, place_among}
use Rattle.smil_tree.proofs.Counted.{apart_inserted, counted_inserted, long_inserted}
use Rattle.smil_tree.proofs.Listed.{none_there}
use Rattle.smil_tree.proofs.nodes.Nodes.insert.Goals as goal

pub count_from-requires-clause-apart : goal.count_from-requires-clause-apart
count_from-requires-clause-apart c =
    let put : c.insert.new.self.items ≡ insert c.self.inside.list.items c.args.place c.args.node =
    c.insert.ensures.items ∙ ap (λ b. cond b (insert c.reserve.new.self.items c.args.place c.in_ok-shared.shared) c.reserve.new.self.items) (ap is_ok c.unwrap.ensures)
    ∙ ap (λ xs. insert xs c.args.place c.in_ok-shared.shared) c.reserve.ensures.items ∙ ap (insert c.self.inside.list.items c.args.place) c.in_ok-shared.ensures in
    let fresh = none_there c.args.node.serial c.self.inside.list.items (ap (λ ns. node_at ns c.args.node.serial) c.self.view_is ∙ c.requires.fresh) in
    subst IsDistinct (sym (c.deref.ensures.value ∙ put)) (apart_inserted c.self.inside.list.items c.args.place c.args.node fresh c.self.invariant.apart)

pub count_from-requires-clause-counted : goal.count_from-requires-clause-counted
count_from-requires-clause-counted c =
    let put : c.insert.new.self.items ≡ insert c.self.inside.list.items c.args.place c.args.node =
    c.insert.ensures.items ∙ ap (λ b. cond b (insert c.reserve.new.self.items c.args.place c.in_ok-shared.shared) c.reserve.new.self.items) (ap is_ok c.unwrap.ensures)
    ∙ ap (λ xs. insert xs c.args.place c.in_ok-shared.shared) c.reserve.ensures.items ∙ ap (insert c.self.inside.list.items c.args.place) c.in_ok-shared.ensures in
    let fresh = none_there c.args.node.serial c.self.inside.list.items (ap (λ ns. node_at ns c.args.node.serial) c.self.view_is ∙ c.requires.fresh) in
    subst (λ ns. IsCounted ns c.put.new.self c.args.place) (sym (c.deref.ensures.value ∙ put))
    (counted_inserted c.self.inside.list.items c.self.inside.places c.put.new.self c.args.place c.args.node c.self.invariant fresh (omega (arith, c.requires.within, ap length c.self.view_is)) c.in_ok-put.ensures.ok)

pub invariant_of-self-2 : goal.invariant_of-self-2
invariant_of-self-2 c =
    let put : c.insert.new.self.items ≡ insert c.self.inside.list.items c.args.place c.args.node =
    c.insert.ensures.items ∙ ap (λ b. cond b (insert c.reserve.new.self.items c.args.place c.in_ok-shared.shared) c.reserve.new.self.items) (ap is_ok c.unwrap.ensures)
    ∙ ap (λ xs. insert xs c.args.place c.in_ok-shared.shared) c.reserve.ensures.items ∙ ap (insert c.self.inside.list.items c.args.place) c.in_ok-shared.ensures in
    let fresh = none_there c.args.node.serial c.self.inside.list.items (ap (λ ns. node_at ns c.args.node.serial) c.self.view_is ∙ c.requires.fresh) in
    record {
      few = omega (arith, ap length put, long_inserted c.self.inside.list.items c.args.place c.args.node, c.requires.few, ap length c.self.view_is);
      apart = subst IsDistinct (sym put) (apart_inserted c.self.inside.list.items c.args.place c.args.node fresh c.self.invariant.apart);
      placed = λ s. c.count_from.ensures s ∙ ap (λ ns. place_among ns s) c.deref.ensures.value;
    }
