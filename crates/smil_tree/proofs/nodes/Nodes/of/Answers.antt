use Rattle.std.proofs.Common.{sym, ap, subst, ◌∙◌, length, arith}
use Rattle.smil_model.specs.document.Valid.{IsDistinct}
use Rattle.smil_tree.specs.Places.{place_among}
use Rattle.smil_tree.proofs.nodes.Nodes.of.Goals as goal

pub places_of-requires : goal.places_of-requires
places_of-requires c = subst IsDistinct (sym (c.deref.ensures.value ∙ c.in_ok-list.ensures)) c.requires.apart

pub invariant_of-result : goal.invariant_of-result
invariant_of-result c = record {
  few = omega (arith, ap length c.in_ok-list.ensures, c.requires.few);
  apart = subst IsDistinct (sym c.in_ok-list.ensures) c.requires.apart;
  placed = λ s. c.in_ok-places.ensures s ∙ ap (λ ns. place_among ns s) c.deref.ensures.value;
}
