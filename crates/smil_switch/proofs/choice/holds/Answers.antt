use Rattle.std.proofs.Common.{◌≡◌, ◌-◌, Bool, List, ◌∷◌, sym, ap, subst, ◌∙◌}
use Rattle.smil_grammar.specs.Nodes.{WrittenAttr}
use Rattle.smil_grammar.specs.Outlines.{in_line}
use Rattle.smil_attrs.specs.Remainder.{attributes_in, written_in}
use Rattle.smil_attrs.specs.Within.{AllWithin}
use Rattle.smil_switch.specs.Choices.{attributes_hold}
use Rattle.smil_switch.proofs.AttributeSteps.{and_then, taken, held_on, held_off}
use Rattle.smil_switch.proofs.choice.holds.Goals as goal

pub returns-in-Err : goal.returns-in-Err
returns-in-Err c =
    let t = taken (attributes_in c.loop-written.left) (attributes_in c.next.new.self) c.in-Some.written c.in-Some.ensures.0 c.loop-written.invariant.shaped in
    let so_far : and_then c.loop-written.hold (in_line c.args.spaces (attributes_hold c.args.wanted.now c.is_switch-switch.result (c.in-Some.written ∷ written_in c.next.new.self))) ≡ in_line c.args.spaces (attributes_hold c.args.wanted.now c.is_switch-switch.result c.args.shape.now.attributes) =
    subst (λ (l : List WrittenAttr). and_then c.loop-written.hold (in_line c.args.spaces (attributes_hold c.args.wanted.now c.is_switch-switch.result l)) ≡ in_line c.args.spaces (attributes_hold c.args.wanted.now c.is_switch-switch.result c.args.shape.now.attributes)) t.1 c.loop-written.invariant.same in
    rw (← c.is_switch-switch.ensures)
    (sym (held_off c.args.wanted.now c.args.spaces c.is_switch-switch.result c.loop-written.hold c.in-Err.refusal c.in-Some.written (written_in c.next.new.self) c.in-Err.ensures) ∙ so_far)

pub loop-written-preserved : goal.loop-written-preserved
loop-written-preserved c =
    let t = taken (attributes_in c.loop-written.left) (attributes_in c.next.new.self) c.in-Some.written c.in-Some.ensures.0 c.loop-written.invariant.shaped in
    let so_far : and_then c.loop-written.hold (in_line c.args.spaces (attributes_hold c.args.wanted.now c.is_switch-switch.result (c.in-Some.written ∷ written_in c.next.new.self))) ≡ in_line c.args.spaces (attributes_hold c.args.wanted.now c.is_switch-switch.result c.args.shape.now.attributes) =
    subst (λ (l : List WrittenAttr). and_then c.loop-written.hold (in_line c.args.spaces (attributes_hold c.args.wanted.now c.is_switch-switch.result l)) ≡ in_line c.args.spaces (attributes_hold c.args.wanted.now c.is_switch-switch.result c.args.shape.now.attributes)) t.1 c.loop-written.invariant.same in
    let all : AllWithin (2147483648 - c.args.spaces) (c.in-Some.written ∷ written_in c.next.new.self) = subst (AllWithin (2147483648 - c.args.spaces)) t.1 c.loop-written.invariant.within in
    record {
      shaped = t.0;
      within = all.1;
      same = ap (λ (h : Bool). and_then h (in_line c.args.spaces (attributes_hold c.args.wanted.now c.is_switch-switch.result (written_in c.next.new.self)))) c.both-hold.ensures
          ∙ sym (held_on c.args.wanted.now c.args.spaces c.is_switch-switch.result c.loop-written.hold c.in-Ok.holds c.in-Some.written (written_in c.next.new.self) c.in-Ok.ensures) ∙ so_far;
    }
