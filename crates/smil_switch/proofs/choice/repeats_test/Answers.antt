use Rattle.std.proofs.Common.{◌≡◌, false, ◌&&◌, sym, ap, subst, ◌∙◌}
use Rattle.std.specs.Prelude.{bytes_eq}
use Rattle.std.specs.List.{list_any}
use Rattle.smil_grammar.specs.Nodes.{WrittenAttr}
use Rattle.smil_attrs.specs.Remainder.{attributes_in, written_in}
use Rattle.smil_switch.specs.Preferences.{is_test}
use Rattle.smil_switch.specs.Choices.{tests_repeat}
use Rattle.smil_switch.proofs.AttributeSteps.{taken, stands_once}
use Rattle.smil_switch.proofs.choice.repeats_test.Goals as goal

pub loop-written-preserved : goal.loop-written-preserved
loop-written-preserved c =
    let t = taken (attributes_in c.loop-written.left) (attributes_in c.next.new.self) c.in-Some.written c.in-Some.ensures.0 c.loop-written.invariant.shaped in
    let once : (is_test c.in-Some.written.name && list_any (λ (other : WrittenAttr). bytes_eq other.name c.in-Some.written.name) (written_in c.next.new.self)) ≡ false =
    subst (λ (w : WrittenAttr). (is_test w.name && list_any (λ (other : WrittenAttr). bytes_eq other.name w.name) (written_in c.next.new.self)) ≡ false) c.written.view_is (sym c.stands_again.ensures ∙ c.if-stands_again.false) in
    record {
      shaped = t.0;
      same = stands_once c.in-Some.written (written_in c.next.new.self) once ∙ sym (ap tests_repeat t.1) ∙ c.loop-written.invariant.same;
    }
