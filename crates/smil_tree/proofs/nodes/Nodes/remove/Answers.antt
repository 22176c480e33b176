use Rattle.std.proofs.Common.{None, sym, ap, subst, ◌∙◌, cond, length, arith}
use Rattle.std.specs.Prelude.{◌==◌, slice_range}
use Rattle.std.specs.FinMap.{get as place_of}
use Rattle.std.specs.List.{list_any}
use Rattle.smil_model.specs.declared.document.Node.{Node}
use Rattle.smil_model.specs.document.Valid.{IsDistinct}
use Rattle.smil_tree.specs.Places.{IsCounted, place_among}
use Rattle.smil_tree.proofs.Counted.{apart_cut, counted_cut, long_cut}
use Rattle.smil_tree.proofs.nodes.Nodes.remove.Goals as goal

pub count_from-requires-clause-apart : goal.count_from-requires-clause-apart
count_from-requires-clause-apart c =
    subst IsDistinct (sym (c.deref-2.ensures.value ∙ c.take_out.ensures)) (apart_cut c.self.inside.list.items c.args.place c.args.end c.requires.in_order c.self.invariant.apart)

pub count_from-requires-clause-counted : goal.count_from-requires-clause-counted
count_from-requires-clause-counted c =
    subst (λ ns. IsCounted ns c.forget_each.new.places c.args.place) (sym (c.deref-2.ensures.value ∙ c.take_out.ensures))
    (counted_cut c.self.inside.list.items c.self.inside.places c.forget_each.new.places c.args.place c.args.end c.self.invariant c.requires.in_order
    (omega (arith, c.requires.in_order, c.requires.within, ap length c.self.view_is))
    (λ s.
    c.forget_each.ensures s
    ∙ ap (λ ns. cond (list_any (λ (n : Node). n.serial == s) (slice_range ns c.args.place c.args.end)) None (place_of c.self.inside.places s)) c.deref.ensures.value))

pub invariant_of-self : goal.invariant_of-self
invariant_of-self c = record {
  few = omega (arith, ap length c.take_out.ensures, long_cut c.self.inside.list.items c.args.place c.args.end c.requires.in_order, c.self.invariant.few);
  apart = subst IsDistinct (sym c.take_out.ensures) (apart_cut c.self.inside.list.items c.args.place c.args.end c.requires.in_order c.self.invariant.apart);
  placed = λ s. c.count_from.ensures s ∙ ap (λ ns. place_among ns s) c.deref-2.ensures.value;
}
