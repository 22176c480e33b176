use Rattle.std.proofs.Common.{ℕ, Bool, false, List, is_some, sym, ap, ◌∙◌}
use Rattle.smil_grammar.specs.Positions.{Piece}
use Rattle.smil_grammar.specs.Nodes.{WrittenAttr, repeats}
use Rattle.smil_attrs.specs.Remainder.{attributes_in, written_in}
use Rattle.smil_attrs.specs.Repeats.{twice_from}
use Rattle.smil_attrs.proofs.RepeatedNames.{from_none, on_from}
use Rattle.smil_attrs.proofs.shape.Attributes.repeats.Goals as goal

pub loop-attribute-init : goal.loop-attribute-init
loop-attribute-init c = record {
  shaped = ap (λ (left : Piece). is_some (attributes_in left)) c.again-left.ensures;
  same = λ some.
      ap (λ (seen : List (List ℕ)). twice_from false seen (written_in c.again-left.result)) c.new-seen.ensures
      ∙ from_none (written_in c.again-left.result)
      ∙ ap (λ (left : Piece). repeats (written_in left)) c.again-left.ensures;
}

pub loop-attribute-preserved : goal.loop-attribute-preserved
loop-attribute-preserved c =
    let left : Piece = c.loop-attribute.left in
    let on = on_from (attributes_in left) (attributes_in c.next.new.self) c.in-Some.attribute c.in-Some.ensures.0 in
    record {
      shaped = sym on.0 ∙ c.loop-attribute.invariant.shaped;
      same = λ some.
          c.stands_again-again.ensures some false c.in-Some.attribute (sym (ap (λ (w : WrittenAttr). w.name) c.attribute.view_is))
          ∙ ap (twice_from false c.loop-attribute.seen) (sym (on.2 some))
          ∙ ap (λ (before : Bool). twice_from before c.loop-attribute.seen (written_in left)) (sym c.if-repeats.false)
          ∙ c.loop-attribute.invariant.same (on.1 some);
    }
